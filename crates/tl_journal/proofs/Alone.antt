-- One node alone: its transaction sees all commits, so that it meets no rival.
use Rattle.std.proofs.Common.{◌≡◌, ◌==◌, ◌∙◌, ◌≤◌, ◌<◌, ℕ, Bool, true, false, not, cond, ◌&&◌, ◌||◌, List, [], ◌∷◌, ◌++◌, Option, Some, None, map, find, drop, length, slice_get, slice_index_or, zero, suc, if◌then◌else◌, ap, refl, sym, subst, ⊎_elim, arith}
use Rattle.std.proofs.lemmas.List.{length-map}
use Rattle.std.specs.List.{AllByRecursion, Contains, list_any}
use Rattle.std.specs.Option.{option_and_then}
use Rattle.std.proofs.lemmas.List.Elements.{Contains-append_cases, Contains-append_left}
use Rattle.std.proofs.lemmas.Bool.{both_ways, eqb-true, eq-eqb}
use Rattle.std.proofs.lemmas.Bool.Decides.{nat_tests}
use Rattle.std.proofs.lemmas.Option.{same_Some}
use Rattle.tl_lemmas.proofs.Lists.{all_map, found}
use Rattle.tl_isolation.specs.declared.bound.Bound.{Bound}
use Rattle.tl_isolation.specs.declared.bound.Bound.TheVariants as bound
use Rattle.tl_base.specs.Along.{Along}
use Rattle.tl_base.specs.declared.place.Settings.{Settings}
use Rattle.tl_isolation.specs.declared.entry.Answer.{Answer}
use Rattle.tl_isolation.specs.declared.entry.Answer.TheVariants as answer
use Rattle.tl_isolation.specs.declared.entry.Entry.{Entry}
use Rattle.tl_isolation.specs.declared.entry.Entry.TheVariants as entry
use Rattle.tl_isolation.specs.declared.entry.Said.{Said}
use Rattle.tl_isolation.specs.declared.state.Commit.{Commit}
use Rattle.tl_isolation.specs.declared.state.NodeState.{NodeState}
use Rattle.tl_isolation.specs.declared.state.SiState.{SiState}
use Rattle.tl_isolation.specs.declared.state.Transaction.{Transaction}
use Rattle.tl_isolation.specs.declared.state.TxnPhase.TheVariants as phase
use Rattle.tl_schema.specs.declared.catalog.Catalog.{Catalog}
use Rattle.tl_schema.specs.declared.catalog.Setup.{Setup}
use Rattle.tl_isolation.specs.declared.script.Script.{Script}
use Rattle.tl_isolation.specs.declared.script.Session.{Session}
use Rattle.tl_isolation.specs.History.{IsHistory, IsHistoryFrom}
use Rattle.tl_isolation.specs.Promises.{ConflictIsReal}
use Rattle.tl_isolation.specs.Script.{SpeaksAt, answers_by, begins_transaction, setup_of}
use Rattle.tl_journal.specs.Journal.{entries_told}
use Rattle.tl_journal.specs.Law.{OneHistory, SpeaksScript}
use Rattle.tl_write.specs.declared.write.Write.{Write}
use Rattle.tl_write.specs.Own.{is_written}
use Rattle.tl_isolation.specs.State.{held_as, held_by, idle, is_fresh, is_lost, node_of, opening_state, put_held, put_node, without_held}
use Rattle.tl_base.specs.NodeSet.{with_node}
use Rattle.tl_isolation.specs.Step.{Allowed, HoldsNone, after, begin, commit, commit_answer, end_with, forget_note, holds, is_rival, keep_answer, lose, meet_rival, noted_of, open_by_begin, take_statement, try_commit, undo, undo_answer, with_held, with_noted, with_outcome}
use Rattle.tl_journal.specs.Promises.{NeverConflicts}
use Rattle.tl_protocol.proofs.Held.{NodeTurn, node_noted, node_outcome, node_put}

-- the transaction is the node's, and sees so many commits
pub record Sees (n count : ℕ) (t : Transaction) : Type 0 where
  pub of_node : t.node ≡ n
  pub all : t.first ≡ count

abbrev AreOf : ℕ → ℕ → List Transaction → Type 0
AreOf n count held = AllByRecursion (Sees n count) held

-- at most one transaction is held, of this node, and it sees all commits; none is held where the node is about to begin one, and
-- then it has noted all commits
pub record IsAlone (n : ℕ) (s : SiState) : Type 0 where
  pub few : length s.held ≤ 1
  pub each : AreOf n (length s.commits) s.held
  pub note : (k : ℕ) → noted_of s n ≡ Some k → (s.held ≡ []) × (k ≡ length s.commits)

-- ---- lists of at most one

one_of : (held : List Transaction) (p : Transaction → Bool) (t : Transaction) → length held ≤ 1 → find p held ≡ Some t → held ≡ t ∷ []
one_of [] p t few h = absurd cc
one_of (u ∷ []) p t few h = ap (λ (x : Transaction). x ∷ []) (sym (found (λ (x : Transaction). x ≡ u) p (u ∷ []) t (refl, tt) h))
one_of (u ∷ w ∷ held) p t few h = absurd (omega arith)

none_left : (t : Transaction) → without_held t.tid (t ∷ []) ≡ []
none_left t = ap (λ (b : Bool). cond (not b) (t ∷ []) []) (eq-eqb t.tid t.tid refl)

left_none : (held : List Transaction) (p : Transaction → Bool) (t : Transaction) → length held ≤ 1 → find p held ≡ Some t → without_held t.tid held ≡ []
left_none held p t few h = ap (without_held t.tid) (one_of held p t few h) ∙ none_left t

some_none : {A : Type 0} (x : A) → ◌≡◌ {A = Option A} (Some x) None → ⊥
some_none x e = absurd cc

-- a node that holds none
holds_none : (n count : ℕ) (held : List Transaction) → AreOf n count held → held_by n held ≡ None → held ≡ []
holds_none n count [] each h = refl
holds_none n count (t ∷ held) each h =
    absurd (some_none t (ap (λ (b : Bool). cond b (Some t) (find (λ (x : Transaction). x.node == n) held)) (sym (eq-eqb t.node n each.0.of_node)) ∙ h))

empty_one : {A : Type 0} (x : A) (xs : List A) → ◌≡◌ {A = List A} (x ∷ xs) [] → ⊥
empty_one x xs e = absurd cc

-- ---- what nodes have noted

-- the note of the one node is as it says, and another's stays
abbrev Note : SiState → ℕ → Option ℕ → ℕ → List NodeState → Type 0
Note s m note n nodes = (node_of n nodes).noted ≡ (if m == n then note else noted_of s n)

turned : (s : SiState) (m : ℕ) (note : Option ℕ) (end : Option Answer) (nodes : List NodeState) → NodeTurn s.nodes nodes m note end → (n : ℕ) → Note s m note n nodes
turned s m note end nodes t n = by (m == n) refl
  where
    by : (b : Bool) → (m == n) ≡ b → (node_of n nodes).noted ≡ (if b then note else noted_of s n)
    by true e = ap (λ (i : ℕ). (node_of i nodes).noted) (sym (eqb-true m n e)) ∙ t.noted
    by false e = ap (λ (x : NodeState). x.noted) (t.others n e)

-- a note that is there was there before, where the node notes nothing
stayed : (s : SiState) (m n k : ℕ) (b : Bool) → (if b then None else noted_of s n) ≡ Some k → noted_of s n ≡ Some k
stayed s m n k true e = absurd cc
stayed s m n k false e = e

module _ (n : ℕ) (s : SiState) (a : IsAlone n s) where
  -- held transactions are changed, and no number, node or snapshot of theirs; a note isn't made
  changed : (held : List Transaction) (nodes : List NodeState) → length held ≡ length s.held → AreOf n (length s.commits) held
      → ((k : ℕ) → (node_of n nodes).noted ≡ Some k → noted_of s n ≡ Some k) → IsAlone n (record s { held = held; nodes = nodes })
  changed held nodes same each notes = record {
    few = subst (λ (k : ℕ). k ≤ 1) (sym same) a.few;
    each = each;
    note = λ k e. let old = a.note k (notes k e) in (no_length held (same ∙ ap length old.0), old.1);
  }
    where
      no_length : (xs : List Transaction) → length xs ≡ 0 → xs ≡ []
      no_length [] e = refl
      no_length (x ∷ xs) e = absurd (omega arith)

  put : (t u : Transaction) → Sees n (length s.commits) t → Sees n (length s.commits) u → (b : Bool) → Sees n (length s.commits) (if b then t else u)
  put t u x y true = x
  put t u x y false = y

  -- the held transaction, changed so
  with : (o : Option Transaction) (f : Transaction → Transaction) → ((t : Transaction) → (f t).node ≡ t.node) → ((t : Transaction) → (f t).first ≡ t.first)
      → ((t : Transaction) → o ≡ Some t → Sees n (length s.commits) t) → IsAlone n (with_held o f s)
  with None f node first sees = a
  with (Some t) f node first sees =
      let x : Sees n (length s.commits) t = sees t refl in
      let y : Sees n (length s.commits) (f t) = record { of_node = node t ∙ x.of_node; all = first t ∙ x.all } in
      changed (put_held (f t) s.held) s.nodes (length-map s.held (λ (h : Transaction). if h.tid == (f t).tid then f t else h))
      (all_map (Sees n (length s.commits)) (Sees n (length s.commits)) (λ (h : Transaction). if h.tid == (f t).tid then f t else h)
      (λ h z. put (f t) h y z (h.tid == (f t).tid)) s.held a.each)
      (λ k e. e)

  seen_as : (p : Transaction → Bool) (t : Transaction) → find p s.held ≡ Some t → Sees n (length s.commits) t
  seen_as p t h = found (Sees n (length s.commits)) p s.held t a.each h

  -- a note is forgotten
  forgets : (m : ℕ) → IsAlone n (with_noted m None s)
  forgets m =
      changed s.held (put_node (record (node_of m s.nodes) { noted = None }) s.nodes) refl a.each
      (λ k e. stayed s m n k (m == n)
      (sym (turned s m None (node_of m s.nodes).outcome (put_node (record (node_of m s.nodes) { noted = None }) s.nodes) (node_noted s.nodes m None (node_of m s.nodes).outcome refl) n)
      ∙ e))

  -- the node has an answer to give, and holds nothing
  decides : (m : ℕ) (told : Answer) → IsAlone n (with_outcome m (Some told) s)
  decides m told =
      changed s.held (put_node (record (node_of m s.nodes) { outcome = Some told }) s.nodes) refl a.each
      (λ k e. kept k (m == n) refl
      (sym (turned s m (node_of m s.nodes).noted (Some told) (put_node (record (node_of m s.nodes) { outcome = Some told }) s.nodes)
      (node_outcome s.nodes m (node_of m s.nodes).noted (Some told) refl) n) ∙ e))
    where
      kept : (k : ℕ) (b : Bool) → (m == n) ≡ b → (if b then (node_of m s.nodes).noted else noted_of s n) ≡ Some k → noted_of s n ≡ Some k
      kept k true same e = ap (λ (i : ℕ). noted_of s i) (sym (eqb-true m n same)) ∙ e
      kept k false same e = e

  empties : (m : ℕ) → IsAlone n (record s { nodes = put_node (idle m) s.nodes })
  empties m =
      changed s.held (put_node (idle m) s.nodes) refl a.each
      (λ k e. stayed s m n k (m == n) (sym (turned s m None None (put_node (idle m) s.nodes) (node_put s.nodes m (idle m) refl) n) ∙ e))

  -- the one transaction ends: nothing is held, and no note is there
  ends : (p : Transaction → Bool) (t : Transaction) (commits : List Commit) → find p s.held ≡ Some t
      → IsAlone n (record s { held = without_held t.tid s.held; commits = commits })
  ends p t commits h =
      let none : without_held t.tid s.held ≡ [] = left_none s.held p t a.few h in
      record {
        few = subst (λ (held : List Transaction). length held ≤ 1) (sym none) (omega arith);
        each = subst (AreOf n (length commits)) (sym none) tt;
        note = λ k e. absurd (empty_one t [] (sym (one_of s.held p t a.few h) ∙ (a.note k e).0));
      }

-- an entry keeps that, where it begins no transaction of another node
abbrev pub BeginsBy : ℕ → Entry → Type 0
BeginsBy n (entry.Began node tid first) = node ≡ n
BeginsBy n e = Unit {0}

module _ (n : ℕ) (catalog : Catalog) (s : SiState) (a : IsAlone n s) where
  asked : (m : ℕ) → HoldsNone s m → IsAlone n (with_noted m (Some (length s.commits)) s)
  asked m none = record { few = a.few; each = a.each; note = λ k e. noted k (m == n) refl (sym is ∙ e) }
    where
      nodes : List NodeState
      nodes = put_node (record (node_of m s.nodes) { noted = Some (length s.commits) }) s.nodes

      is : Note s m (Some (length s.commits)) n nodes
      is = turned s m (Some (length s.commits)) (node_of m s.nodes).outcome nodes (node_noted s.nodes m (Some (length s.commits)) (node_of m s.nodes).outcome refl) n

      noted : (k : ℕ) (b : Bool) → (m == n) ≡ b → (if b then Some (length s.commits) else noted_of s n) ≡ Some k → (s.held ≡ []) × (k ≡ length s.commits)
      noted k true same e =
          (holds_none n (length s.commits) s.held a.each (ap (λ (i : ℕ). held_by i s.held) (sym (eqb-true m n same)) ∙ none), sym (same_Some (length s.commits) k e))
      noted k false same e = a.note k e

  began : (m tid first k : ℕ) → m ≡ n → noted_of s m ≡ Some k → k ≤ first → first ≤ length s.commits → IsAlone n (after catalog s (entry.Began m tid first))
  began m tid first k own noted le most =
      let old = a.note k (ap (λ (i : ℕ). noted_of s i) (sym own) ∙ noted) in
      let one : s.held ++ begin m tid first ∷ [] ≡ begin m tid first ∷ [] = ap (λ (h : List Transaction). h ++ begin m tid first ∷ []) old.0 in
      let nodes : List NodeState = put_node (record (node_of m s.nodes) { noted = None }) s.nodes in
      let none : Note s m None n nodes = turned s m None (node_of m s.nodes).outcome nodes (node_noted s.nodes m None (node_of m s.nodes).outcome refl) n in
      let count : k ≡ length s.commits = old.1 in
      record {
        few = subst (λ (h : List Transaction). length h ≤ 1) (sym one) (omega arith);
        each = subst (AreOf n (length s.commits)) (sym one) (record { of_node = own; all = omega arith }, tt);
        note = λ j e. absurd (some_none j (sym e ∙ none ∙ ap (λ (b : Bool). if b then None else noted_of s n) (eq-eqb m n own)));
      }

  opened : (t : Transaction) → (open_by_begin t).node ≡ t.node
  opened t = by (is_fresh t)
    where
      by : (b : Bool) → (if b then record t { opened = true } else t).node ≡ t.node
      by true = refl
      by false = refl

  opened_first : (t : Transaction) → (open_by_begin t).first ≡ t.first
  opened_first t = by (is_fresh t)
    where
      by : (b : Bool) → (if b then record t { opened = true } else t).first ≡ t.first
      by true = refl
      by false = refl

  answered : (told : Answer) (b : Bool) (t : Transaction) → (keep_answer told b t).node ≡ t.node
  answered told true t = refl
  answered told false t = refl

  answered_first : (told : Answer) (b : Bool) (t : Transaction) → (keep_answer told b t).first ≡ t.first
  answered_first told true t = refl
  answered_first told false t = refl

  took : (b : Bound) (said : Said) (t : Transaction) → (take_statement catalog s b said t).node ≡ t.node
  took bound.Begin said t = opened t
  took bound.Commit said t = refl
  took bound.Rollback said t = refl
  took (bound.Recover gone) said t = refl
  took (bound.Select query) said t = answered said.answer said.answered t
  took (bound.Change edit) said t = answered said.answer said.answered t

  took_first : (b : Bound) (said : Said) (t : Transaction) → (take_statement catalog s b said t).first ≡ t.first
  took_first bound.Begin said t = opened_first t
  took_first bound.Commit said t = refl
  took_first bound.Rollback said t = refl
  took_first (bound.Recover gone) said t = refl
  took_first (bound.Select query) said t = answered_first said.answer said.answered t
  took_first (bound.Change edit) said t = answered_first said.answer said.answered t

  ended : (p : Transaction → Bool) (t : Transaction) (told : Answer) (commits : List Commit) → find p s.held ≡ Some t
      → IsAlone n (end_with told t (record s { commits = commits }))
  ended p t told commits h = by (is_lost t.phase)
    where
      gone : SiState
      gone = record s { held = without_held t.tid s.held; commits = commits }

      by : (b : Bool) → IsAlone n (if b then gone else with_outcome t.node (Some told) gone)
      by true = ends n s a p t commits h
      by false = decides n gone (ends n s a p t commits h) t.node told

  forgot : (state : SiState) → IsAlone n state → (m : ℕ) (b : Bool) → IsAlone n (forget_note m b state)
  forgot state alone m true = forgets n state alone m
  forgot state alone m false = alone

  lost : (m : ℕ) (t : Transaction) → Sees n (length s.commits) t → Sees n (length s.commits) (lose m t)
  lost m t x = by (t.node == m)
    where
      by : (b : Bool) → Sees n (length s.commits) (if b then record t { phase = phase.Lost } else t)
      by true = record { of_node = x.of_node; all = x.all }
      by false = x

  pub next : (e : Entry) → Allowed catalog s e → BeginsBy n e → IsAlone n (after catalog s e)
  next (entry.Asked m) h own = asked m h.1
  next (entry.Began m tid first) h own = began m tid first h.0.0 own h.0.1 h.0.2 h.1
  next (entry.Said m b said) h own =
      forgot (with_held (held_by m s.held) (take_statement catalog s b said) s)
      (with n s a (held_by m s.held) (take_statement catalog s b said) (took b said) (took_first b said) (λ t e. seen_as n s a (λ (x : Transaction). x.node == m) t e)) m
      said.answered
  next (entry.Tried tid) h own = with n s a (held_as tid s.held) try_commit (λ t. refl) (λ t. refl) (λ t e. seen_as n s a (λ (x : Transaction). x.tid == tid) t e)
  next (entry.Clash tid rival at) h own =
      with n s a (held_as tid s.held) (meet_rival rival) (λ t. refl) (λ t. refl) (λ t e. seen_as n s a (λ (x : Transaction). x.tid == tid) t e)
  next (entry.Committed tid) h own = by (held_as tid s.held) refl
    where
      by : (o : Option Transaction) → held_as tid s.held ≡ o → IsAlone n (commit o s)
      by None e = a
      by (Some t) e =
          ended (λ (x : Transaction). x.tid == tid) t (commit_answer t.unanswered) (s.commits ++ record { tid = t.tid; writes = t.own } ∷ []) e
  next (entry.Undone tid) h own = by (held_as tid s.held) refl
    where
      by : (o : Option Transaction) → held_as tid s.held ≡ o → IsAlone n (undo o s)
      by None e = a
      by (Some t) e = ended (λ (x : Transaction). x.tid == tid) t (undo_answer t.rival t.unanswered) s.commits e
  next (entry.Answered m statement told) h own = empties n s a m
  next (entry.Vanished m ending) h own =
      let e = empties n s a m in
      changed n (record s { vanished = with_node s.vanished m; nodes = put_node (idle m) s.nodes }) (record { few = e.few; each = e.each; note = e.note })
      (map (lose m) s.held) (put_node (idle m) s.nodes) (length-map s.held (lose m))
      (all_map (Sees n (length s.commits)) (Sees n (length s.commits)) (lose m) (λ t x. lost m t x) s.held a.each) (λ k i. i)

  drop_all : {A : Type 0} (xs : List A) (k : ℕ) → k ≡ length xs → drop k xs ≡ []
  drop_all {A} [] k e = subst (λ (i : ℕ). ◌≡◌ {A = List A} (drop {A = A} i []) []) (sym e) refl
  drop_all {A} (x ∷ xs) k e = subst (λ (i : ℕ). ◌≡◌ {A = List A} (drop {A = A} i (x ∷ xs)) []) (sym e) (drop_all xs (length xs) refl)

  -- no rival stands outside the snapshot
  pub no_clash : (tid rival at : ℕ) → Allowed catalog s (entry.Clash tid rival at) → ⊥
  no_clash tid rival at h =
      let t : Transaction = h.0 in
      let one : s.held ≡ t ∷ [] = one_of s.held (λ (x : Transaction). x.tid == tid) t a.few h.1 in
      let sees : Sees n (length s.commits) t = seen_as n s a (λ (x : Transaction). x.tid == tid) t h.1 in
      let w : Write = h.2.2.0 in
      let later : list_any (λ (c : Commit). (c.tid == rival) && is_written w.key c.writes) (drop t.first s.commits) ≡ false =
      ap (list_any (λ (c : Commit). (c.tid == rival) && is_written w.key c.writes)) (drop_all s.commits t.first sees.all) in
      let other : (t.tid == rival) ≡ false = different t.tid rival h.2.1 in
      let held : list_any (λ (x : Transaction). (x.tid == rival) && x.tried && is_written w.key x.own) s.held ≡ false =
      ap (list_any (λ (x : Transaction). (x.tid == rival) && x.tried && is_written w.key x.own)) one
      ∙ ap (λ (b : Bool). (b && t.tried && is_written w.key t.own) || false) other in
      both_ways (is_rival s t rival w.key) (ap (λ (b : Bool). b || list_any (λ (x : Transaction). (x.tid == rival) && x.tried && is_written w.key x.own) s.held) later ∙ held) h.2.2.2
    where
      different : (x y : ℕ) → (y == x) ≡ false → (x == y) ≡ false
      different x y e = grind (arith, nat_tests)

-- ---- histories

pub only : (e x : Entry) → Contains (e ∷ []) x → e ≡ x
only e x c = by c.0 c.1 c.2
  where
    by : (k : ℕ) → k < 1 → slice_index_or (e ∷ []) k x ≡ x → e ≡ x
    by zero l is = is
    by (suc k) l is = absurd (omega arith)

-- no history of one node has a clash
pub never_clashes : (n : ℕ) (catalog : Catalog) (s : SiState) (entries : List Entry) → IsAlone n s → IsHistoryFrom catalog s entries
    → AllByRecursion (BeginsBy n) entries → (tid rival at : ℕ) → Contains entries (entry.Clash tid rival at) → ⊥
never_clashes n catalog s [] a h own tid rival at c = absurd (let l = c.1 in omega arith)
never_clashes n catalog s (e ∷ es) a h own tid rival at c =
    ⊎_elim
    (λ (here : Contains (e ∷ []) (entry.Clash tid rival at)).
    no_clash n catalog s a tid rival at (subst (Allowed catalog s) (only e (entry.Clash tid rival at) here) h.0))
    (λ (there : Contains es (entry.Clash tid rival at)).
    never_clashes n catalog (after catalog s e) es (next n catalog s a e h.0 own.0) h.1 own.1 tid rival at there)
    (Contains-append_cases (e ∷ []) es (entry.Clash tid rival at) c)

-- what a list contains stands behind its front
pub split : (xs : List Entry) (x : Entry) → Contains xs x → (past : List Entry) × (later : List Entry) × (xs ≡ past ++ x ∷ later)
split [] x c = absurd (let l = c.1 in omega arith)
split (e ∷ es) x c =
    ⊎_elim
    (λ (here : Contains (e ∷ []) x). ([], es, ap (λ (y : Entry). y ∷ es) (only e x here)))
    (λ (there : Contains es x). let r = split es x there in (e ∷ r.0, r.1, ap (λ (ys : List Entry). e ∷ ys) r.2))
    (Contains-append_cases (e ∷ []) es x c)

-- a script of one session at most begins transactions of its node alone
abbrev number_of : List Session → ℕ
number_of [] = 0
number_of (s ∷ sessions) = s.node

begun_by : (script : Script) (settings : Settings) (past entries : List Entry) → length script.sessions ≤ 1 → Along (SpeaksAt script settings) past entries
    → AllByRecursion (BeginsBy (number_of script.sessions)) entries
begun_by script settings past [] few speaks = tt
begun_by script settings past (e ∷ es) few speaks = (here e speaks.0, begun_by script settings (past ++ e ∷ []) es few speaks.1)
  where
    own : (node : ℕ) (sessions : List Session) → length sessions ≤ 1
        → holds begins_transaction (option_and_then (λ (s : Session). slice_get s.statements (length (answers_by node past))) (find (λ (s : Session). s.node == node) sessions)) ≡ true
        → node ≡ number_of sessions
    own node [] few h = absurd cc
    own node (s ∷ []) few h = by (s.node == node) refl
      where
        by : (b : Bool) → (s.node == node) ≡ b → node ≡ s.node
        by true e = sym (eqb-true s.node node e)
        by false e =
            absurd
            (both_ways false refl
            (sym (ap (λ (b : Bool). holds begins_transaction (option_and_then (λ (s : Session). slice_get s.statements (length (answers_by node past))) (cond b (Some s) None))) e) ∙ h))
    own node (s ∷ t ∷ sessions) few h = absurd (omega arith)

    here : (e : Entry) → SpeaksAt script settings past e → BeginsBy (number_of script.sessions) e
    here (entry.Asked node) h = tt
    here (entry.Began node tid first) h = own node script.sessions few h
    here (entry.Said node bound said) h = tt
    here (entry.Tried tid) h = tt
    here (entry.Clash tid rival at) h = tt
    here (entry.Committed tid) h = tt
    here (entry.Undone tid) h = tt
    here (entry.Answered node statement told) h = tt
    here (entry.Vanished node ending) h = tt

opens_alone : (n : ℕ) (setup : Setup) → IsAlone n (opening_state setup)
opens_alone n setup = record { few = omega arith; each = tt; note = λ k e. absurd cc }

pub never_conflicts : OneHistory → SpeaksScript → ConflictIsReal → NeverConflicts
never_conflicts histories speaks conflicts script settings events run few node statement rival c =
    let entries : List Entry = entries_told events in
    let setup : Setup = setup_of script settings in
    let history : IsHistory setup entries = histories script settings events run in
    let told : Entry = entry.Answered node statement (answer.Conflict rival) in
    let at = split entries told c in
    let clash = conflicts setup at.0 at.1 node statement rival (subst (IsHistory setup) at.2 history) in
    let clashed : Contains entries (entry.Clash clash.0 rival clash.1) =
    subst (λ (es : List Entry). Contains es (entry.Clash clash.0 rival clash.1)) (sym at.2) (Contains-append_left at.0 (told ∷ at.1) (entry.Clash clash.0 rival clash.1) clash.3) in
    never_clashes (number_of script.sessions) script.catalog (opening_state setup) entries (opens_alone (number_of script.sessions) setup) history
    (begun_by script settings [] entries few (speaks script settings events run)) clash.0 rival clash.1 clashed
