-- What is known of a state after its past, and the parts of a step that keep it.
use Rattle.std.proofs.Common.{◌≡◌, ℕ, ◌<◌, ◌⊎◌, inl, inr, ⊎_elim, ◌==◌, Bool, true, false, not, List, [], ◌∷◌, ◌++◌, length, Option, Some, None, option_map, if◌then◌else◌, map, filter, find, refl, sym, ap, subst, ◌∙◌, arith}
use Rattle.std.specs.Option.{option_or, unwrap_or}
use Rattle.std.specs.Prelude.{drop, slice_get}
use Rattle.std.specs.List.{list_any, AllByRecursion}
use Rattle.std.proofs.lemmas.Bool.{both_ways, cases_lt, eqb-false, eqb-true, eq-eqb, ne_eqb, not-true, or_parts}
use Rattle.std.proofs.lemmas.Option.{same_Some, slice_get_within}
use Rattle.std.proofs.lemmas.List.Elements.{Contains-append_right}
use Rattle.std.proofs.lemmas.List.Folds.{find-append, list_any-append}
use Rattle.tl_lemmas.proofs.Lists.{all_append, all_both, all_filter, all_map, all_of, all_push, find_filter, find_map, found, passes, weaker}
use Rattle.tl_write.specs.declared.write.Write.{Write}
use Rattle.tl_write.specs.Own.{is_written}
use Rattle.tl_isolation.specs.declared.entry.Answer.{Answer}
use Rattle.tl_isolation.specs.declared.entry.Answer.TheVariants as answer
use Rattle.tl_isolation.specs.declared.entry.Entry.{Entry}
use Rattle.tl_isolation.specs.declared.entry.Entry.TheVariants as entry
use Rattle.tl_isolation.specs.declared.state.Commit.{Commit}
use Rattle.tl_isolation.specs.declared.state.NodeState.{NodeState}
use Rattle.tl_isolation.specs.declared.state.SiState.{SiState}
use Rattle.tl_isolation.specs.declared.state.Transaction.{Transaction}
use Rattle.tl_isolation.specs.declared.state.TxnPhase.TheVariants as phase
use Rattle.tl_isolation.specs.Promises.{begun_at, begun_with, seen_by}
use Rattle.tl_isolation.specs.State.{held_as, idle, is_idle, node_of, put_held, put_node, without_held}
use Rattle.tl_isolation.specs.Step.{begin, forget_note, is_alone, lose, noted_of, outcome_of, with_noted, with_outcome}
use Rattle.tl_isolation.proofs.Past.{AreApart, IsKnown, IsReal, Saw, apart_more, clashed_more, known_more, last_begins, seen_begun, unseen_more}
use Rattle.tl_isolation.proofs.Places.{later_placed, meet_in, placed_push}

-- a held transaction is found by its number
abbrev pub IsAlone : List Transaction → Transaction → Type 0
IsAlone held t = held_as t.tid held ≡ Some t

abbrev pub IsRealNode : List Entry → NodeState → Type 0
IsRealNode past s = IsReal past s.node s.outcome

-- none of these is the node's
abbrev pub AreOthers : ℕ → List Transaction → Type 0
AreOthers node held = AllByRecursion (λ (t : Transaction). (t.node == node) ≡ false) held

-- a node that is about to begin holds no transaction, and has nothing to answer
abbrev pub IsQuiet : List Transaction → NodeState → Type 0
IsQuiet held s = (noted : ℕ) → s.noted ≡ Some noted → AreOthers s.node held × (s.outcome ≡ None)

-- the state after these entries
pub record Inv (past : List Entry) (state : SiState) : Type 0 where
  pub alone : AllByRecursion (IsAlone state.held) state.held
  pub known : AllByRecursion (IsKnown past) state.held
  pub real : AllByRecursion (IsRealNode past) state.nodes
  pub quiet : AllByRecursion (IsQuiet state.held) state.nodes
  pub unbegun : (tid : ℕ) → list_any (λ (b : ℕ). b == tid) state.begun ≡ false → seen_by tid past ≡ None
  pub apart : AreApart past state.commits

-- an entry that begins nothing leaves what was known
pub grown : (past : List Entry) (e : Entry) (state : SiState) → ((tid : ℕ) → begun_with tid e ≡ None) → ((node : ℕ) → begun_at node e ≡ None) → Inv past state
    → Inv (past ++ e ∷ []) state
grown past e state none nobody v = record {
  alone = v.alone;
  known = weaker (IsKnown past) (IsKnown (past ++ e ∷ [])) (λ t k. known_more past e t (nobody t.node) k) state.held v.known;
  real = weaker (IsRealNode past) (IsRealNode (past ++ e ∷ [])) (λ s h r i. clashed_more past e s.node r (nobody s.node) (h r i)) state.nodes v.real;
  quiet = v.quiet;
  unbegun = λ tid h. unseen_more tid past e (v.unbegun tid h) (none tid);
  apart = apart_more past (e ∷ []) state.commits v.apart;
}

pub node_at : (n : ℕ) (nodes : List NodeState) → (node_of n nodes).node ≡ n
node_at n nodes = go (find (λ s. s.node == n) nodes) refl
  where
    go : (o : Option NodeState) → find (λ s. s.node == n) nodes ≡ o → (unwrap_or o (idle n)).node ≡ n
    go None e = refl
    go (Some s) e = eqb-true s.node n (passes (λ x. x.node == n) nodes s e)

-- what holds of each listed node, and of an idle one, holds of this one
state_at : (P : NodeState → Type 0) (n : ℕ) (nodes : List NodeState) → P (idle n) → AllByRecursion P nodes → P (node_of n nodes)
state_at P n nodes i h = go (find (λ s. s.node == n) nodes) refl
  where
    go : (o : Option NodeState) → find (λ s. s.node == n) nodes ≡ o → P (unwrap_or o (idle n))
    go None e = i
    go (Some s) e = found P (λ x. x.node == n) nodes s h e

-- what is still to be answered by a node
pub real_at : (past : List Entry) (n : ℕ) (nodes : List NodeState) → AllByRecursion (IsRealNode past) nodes → IsReal past n (node_of n nodes).outcome
real_at past n nodes h =
    subst (λ (m : ℕ). IsReal past m (node_of n nodes).outcome) (node_at n nodes) (state_at (IsRealNode past) n nodes (λ r i. absurd cc) h)

-- a node that is about to begin
pub quiet_at : (held : List Transaction) (n noted : ℕ) (nodes : List NodeState) → AllByRecursion (IsQuiet held) nodes → (node_of n nodes).noted ≡ Some noted
    → AreOthers n held × ((node_of n nodes).outcome ≡ None)
quiet_at held n noted nodes h e =
    let q = state_at (IsQuiet held) n nodes (λ k i. absurd cc) h noted e in
    (subst (λ (m : ℕ). AreOthers m held) (node_at n nodes) q.0, q.1)

all_put : (P : NodeState → Type 0) (s : NodeState) (nodes : List NodeState) → AllByRecursion P nodes → P s → AllByRecursion P (put_node s nodes)
all_put P s nodes h i =
    all_append P (filter (λ o. not (o.node == s.node)) nodes) (if is_idle s then [] else s ∷ [])
    (all_filter P P (λ o. not (o.node == s.node)) (λ o q k. k) nodes h) (own (is_idle s))
  where
    own : (b : Bool) → AllByRecursion P (if b then [] else s ∷ [])
    own true = tt
    own false = (i, tt)

-- no other state of the node is listed then
pub put_alone : (P : NodeState → Type 0) (s : NodeState) (nodes : List NodeState) → P s → AllByRecursion (λ (o : NodeState). (o.node == s.node) ≡ true → P o) (put_node s nodes)
put_alone P s nodes i =
    all_append (λ (o : NodeState). (o.node == s.node) ≡ true → P o) (filter (λ o. not (o.node == s.node)) nodes) (if is_idle s then [] else s ∷ [])
    (all_filter (λ (o : NodeState). Unit {0}) (λ (o : NodeState). (o.node == s.node) ≡ true → P o) (λ o. not (o.node == s.node))
    (λ o q k e. absurd (both_ways (o.node == s.node) (not-true (o.node == s.node) q) e)) nodes (all_of (λ (o : NodeState). Unit {0}) (λ o. tt) nodes))
    (own (is_idle s))
  where
    own : (b : Bool) → AllByRecursion (λ (o : NodeState). (o.node == s.node) ≡ true → P o) (if b then [] else s ∷ [])
    own true = tt
    own false = ((λ e. i), tt)

-- a transaction that hasn't begun isn't held
pub unheld : (past : List Entry) (held : List Transaction) (tid : ℕ) → AllByRecursion (IsKnown past) held → seen_by tid past ≡ None → held_as tid held ≡ None
unheld past held tid known none = go (held_as tid held) refl
  where
    go : (o : Option Transaction) → held_as tid held ≡ o → o ≡ None
    go None e = refl
    go (Some t) e =
        let k : IsKnown past t = found (IsKnown past) (λ x. x.tid == tid) held t known e in
        let some : None ≡ Some t.first = sym none ∙ ap (λ (n : ℕ). seen_by n past) (sym (eqb-true t.tid tid (passes (λ x. x.tid == tid) held t e))) ∙ k.seen in
        absurd cc

-- what is found by a number after a change that leaves the numbers
pub as_map : (f : Transaction → Transaction) → ((t : Transaction) → (f t).tid ≡ t.tid) → (held : List Transaction) (tid : ℕ)
    → held_as tid (map f held) ≡ option_map f (held_as tid held)
as_map f same held tid = find_map (λ x. x.tid == tid) f held (all_of (λ x. ((f x).tid == tid) ≡ (x.tid == tid)) (λ x. ap (λ (n : ℕ). n == tid) (same x)) held)

pub put_tid : (t h : Transaction) → (if h.tid == t.tid then t else h).tid ≡ h.tid
put_tid t h = go (h.tid == t.tid) refl
  where
    go : (b : Bool) → (h.tid == t.tid) ≡ b → (if h.tid == t.tid then t else h).tid ≡ h.tid
    go true e = ap (λ (b : Bool). (if b then t else h).tid) e ∙ sym (eqb-true h.tid t.tid e)
    go false e = ap (λ (b : Bool). (if b then t else h).tid) e

pub lose_tid : (n : ℕ) (t : Transaction) → (lose n t).tid ≡ t.tid
lose_tid n t = go (t.node == n)
  where
    go : (b : Bool) → (if b then record t { phase = phase.Lost } else t).tid ≡ t.tid
    go true = refl
    go false = refl

module _ (past : List Entry) (state : SiState) (v : Inv past state) where
  -- the nodes, where one of them is changed
  pub set_node : (s : NodeState) → IsRealNode past s → IsQuiet state.held s → Inv past (record state { nodes = put_node s state.nodes })
  set_node s h q = record {
    alone = v.alone;
    known = v.known;
    real = all_put (IsRealNode past) s state.nodes v.real h;
    quiet = all_put (IsQuiet state.held) s state.nodes v.quiet q;
    unbegun = v.unbegun;
    apart = v.apart;
  }

  noted_so : (n : ℕ) (note : Option ℕ) → ((k : ℕ) → note ≡ Some k → AreOthers n state.held × (outcome_of state n ≡ None)) → Inv past (with_noted n note state)
  noted_so n note q =
      set_node (record (node_of n state.nodes) { noted = note })
      (subst (λ (m : ℕ). IsReal past m (node_of n state.nodes).outcome) (sym (node_at n state.nodes)) (real_at past n state.nodes v.real))
      (λ k e. let r = q k e in (subst (λ (m : ℕ). AreOthers m state.held) (sym (node_at n state.nodes)) r.0, r.1))

  -- a node that holds no transaction, and has nothing to answer, is about to begin
  pub noted : (n k : ℕ) → AreOthers n state.held → outcome_of state n ≡ None → Inv past (with_noted n (Some k) state)
  noted n k others none = noted_so n (Some k) (λ j e. (others, none))

  pub unnoted : (n : ℕ) → Inv past (with_noted n None state)
  unnoted n = noted_so n None (λ k e. absurd cc)

  pub decided : (n : ℕ) (told : Answer) → IsReal past n (Some told) → noted_of state n ≡ None → Inv past (with_outcome n (Some told) state)
  decided n told h none =
      set_node (record (node_of n state.nodes) { outcome = Some told })
      (subst (λ (m : ℕ). IsReal past m (Some told)) (sym (node_at n state.nodes)) h)
      (λ k e. absurd (let clash : None ≡ Some k = sym none ∙ e in cc))

  pub emptied : (n : ℕ) → Inv past (record state { nodes = put_node (idle n) state.nodes })
  emptied n = set_node (idle n) (λ r e. absurd cc) (λ k e. absurd cc)

  pub forgotten : (n : ℕ) (answered : Bool) → Inv past (forget_note n answered state)
  forgotten n true = unnoted n
  forgotten n false = v

  -- a node that holds a transaction isn't about to begin
  pub holder : (tid : ℕ) (t : Transaction) → held_as tid state.held ≡ Some t → noted_of state t.node ≡ None
  holder tid t e = go (noted_of state t.node) refl
    where
      go : (o : Option ℕ) → noted_of state t.node ≡ o → o ≡ None
      go None i = refl
      go (Some k) i =
          let q = quiet_at state.held t.node k state.nodes v.quiet i in
          absurd (both_ways (t.node == t.node) (found (λ (x : Transaction). (x.node == t.node) ≡ false) (λ x. x.tid == tid) state.held t q.0 e) (eq-eqb t.node t.node refl))

  -- held transactions, changed
  pub changed : (f : Transaction → Transaction) → ((t : Transaction) → (f t).tid ≡ t.tid)
      → AllByRecursion (λ (t : Transaction). (f t).node ≡ t.node) state.held → ((t : Transaction) → IsKnown past t → IsKnown past (f t))
      → Inv past (record state { held = map f state.held })
  changed f same home keep = record {
    alone = all_map (IsAlone state.held) (IsAlone (map f state.held)) f
        (λ t h.
        ap (λ (n : ℕ). held_as n (map f state.held)) (same t)
        ∙ as_map f same state.held t.tid
        ∙ ap (option_map f) h)
        state.held v.alone;
    known = all_map (IsKnown past) (IsKnown past) f keep state.held v.known;
    real = v.real;
    quiet = weaker (IsQuiet state.held) (IsQuiet (map f state.held)) (λ s q k e. let r = q k e in (others s.node r.0, r.1)) state.nodes v.quiet;
    unbegun = v.unbegun;
    apart = v.apart;
  }
    where
      others : (n : ℕ) → AreOthers n state.held → AreOthers n (map f state.held)
      others n h =
          all_map (λ (t : Transaction). ((f t).node ≡ t.node) × ((t.node == n) ≡ false)) (λ (t : Transaction). (t.node == n) ≡ false) f
          (λ t i. ap (λ (m : ℕ). m == n) i.0 ∙ i.1) state.held
          (all_both (λ (t : Transaction). (f t).node ≡ t.node) (λ (t : Transaction). (t.node == n) ≡ false) state.held home h)

  -- one of them, of which there is one with its number
  pub placed : (t old : Transaction) → held_as t.tid state.held ≡ Some old → t.node ≡ old.node → IsKnown past t → Inv past (record state { held = put_held t state.held })
  placed t old e same k =
      changed (λ h. if h.tid == t.tid then t else h) (put_tid t) (weaker (IsAlone state.held) (λ (h : Transaction). (if h.tid == t.tid then t else h).node ≡ h.node)
      (λ h a. home h a (h.tid == t.tid) refl) state.held v.alone) (λ h i. keep h i (h.tid == t.tid))
    where
      home : (h : Transaction) → IsAlone state.held h → (b : Bool) → (h.tid == t.tid) ≡ b → (if b then t else h).node ≡ h.node
      home h a true i =
          let one : old ≡ h = same_Some old h (sym e ∙ ap (λ (n : ℕ). held_as n state.held) (sym (eqb-true h.tid t.tid i)) ∙ a) in
          same ∙ ap (λ (x : Transaction). x.node) one
      home h a false i = refl

      keep : (h : Transaction) → IsKnown past h → (b : Bool) → IsKnown past (if b then t else h)
      keep h i true = k
      keep h i false = i

  pub lost : (n : ℕ) → Inv past (record state { held = map (lose n) state.held })
  lost n =
      changed (lose n) (lose_tid n) (all_of (λ (t : Transaction). (lose n t).node ≡ t.node) (λ t. home t (t.node == n)) state.held)
      (λ t k. keep t k (t.node == n))
    where
      home : (t : Transaction) (b : Bool) → (if b then record t { phase = phase.Lost } else t).node ≡ t.node
      home t true = refl
      home t false = refl

      keep : (t : Transaction) → IsKnown past t → (b : Bool) → IsKnown past (if b then record t { phase = phase.Lost } else t)
      keep t k true = k
      keep t k false = k

  pub removed : (tid : ℕ) → Inv past (record state { held = without_held tid state.held })
  removed tid = record {
    alone = all_filter (IsAlone state.held) (IsAlone (without_held tid state.held)) (λ t. not (t.tid == tid))
        (λ t i h. find_filter (λ x. x.tid == t.tid) (λ x. not (x.tid == tid)) state.held
        (all_of (λ x. (x.tid == t.tid) ≡ true → not (x.tid == tid) ≡ true) (λ x e. ap (λ (n : ℕ). not (n == tid)) (eqb-true x.tid t.tid e) ∙ i) state.held) ∙ h)
        state.held v.alone;
    known = all_filter (IsKnown past) (IsKnown past) (λ t. not (t.tid == tid)) (λ t i k. k) state.held v.known;
    real = v.real;
    quiet = weaker (IsQuiet state.held) (IsQuiet (without_held tid state.held))
        (λ s q k e. let r = q k e in
        (all_filter (λ (t : Transaction). (t.node == s.node) ≡ false) (λ (t : Transaction). (t.node == s.node) ≡ false) (λ t. not (t.tid == tid)) (λ t i h. h) state.held r.0, r.1))
        state.nodes v.quiet;
    unbegun = v.unbegun;
    apart = v.apart;
  }

  -- a held transaction that writes no record of a commit that it doesn't see is committed
  pub committed : (t : Transaction) → IsKnown past t → is_alone state t ≡ true
      → Inv past (record state { commits = state.commits ++ record { tid = t.tid; writes = t.own } ∷ [] })
  committed t k alone = record {
    alone = v.alone;
    known = v.known;
    real = v.real;
    quiet = v.quiet;
    unbegun = v.unbegun;
    apart = λ i j earlier later key e f less w x. two i j earlier later key less w x (placed_push state.commits last i earlier e) (placed_push state.commits last j later f);
  }
    where
      last : Commit
      last = record { tid = t.tid; writes = t.own }

      -- what it didn't see it doesn't write
      saw : (i : ℕ) (c : Commit) (key : List ℕ) → slice_get state.commits i ≡ Some c → is_written key c.writes ≡ true → is_written key t.own ≡ true → Saw past t.tid i
      saw i c key e w x = (
        t.first,
        k.seen,
        ⊎_elim (λ below. below)
            (λ above. absurd (both_ways (list_any (λ (o : Commit). list_any (λ (z : Write). is_written z.key o.writes) t.own) (drop t.first state.commits)) (not-true _ alone)
            (later_placed (λ (o : Commit). list_any (λ (z : Write). is_written z.key o.writes) t.own) t.first state.commits i c e above (meet_in key t.own c.writes x w))))
            (cases_lt i t.first),
      )

      two : (i j : ℕ) (earlier later : Commit) (key : List ℕ) → i < j → is_written key earlier.writes ≡ true → is_written key later.writes ≡ true
          → (slice_get state.commits i ≡ Some earlier) ⊎ ((i ≡ length state.commits) × (last ≡ earlier))
          → (slice_get state.commits j ≡ Some later) ⊎ ((j ≡ length state.commits) × (last ≡ later)) → Saw past later.tid i
      two i j earlier later key less w x (inl e) (inl f) = v.apart i j earlier later key e f less w x
      two i j earlier later key less w x (inl e) (inr f) =
          subst (λ (c : Commit). Saw past c.tid i) f.1 (saw i earlier key e w (ap (λ (c : Commit). is_written key c.writes) f.1 ∙ x))
      two i j earlier later key less w x (inr e) (inl f) = let within = slice_get_within state.commits j later f in let end = e.0 in absurd (omega arith)
      two i j earlier later key less w x (inr e) (inr f) = let one = e.0 in let other = f.0 in absurd (omega arith)

  -- a node that holds none begins one; it has nothing to answer, and no note
  pub begun : (node tid first : ℕ) → list_any (λ (b : ℕ). b == tid) state.begun ≡ false → AreOthers node state.held
      → AllByRecursion (λ (s : NodeState). (s.node == node) ≡ true → (s.noted ≡ None) × (s.outcome ≡ None)) state.nodes
      → Inv (past ++ entry.Began node tid first ∷ []) (record state { begun = state.begun ++ tid ∷ []; held = state.held ++ begin node tid first ∷ [] })
  begun node tid first fresh others silent =
      let e : Entry = entry.Began node tid first in
      let new : Transaction = begin node tid first in
      let more : List Entry = e ∷ [] in
      let none : seen_by tid past ≡ None = v.unbegun tid fresh in
      record {
        alone = all_push (IsAlone (state.held ++ new ∷ [])) state.held new
            (weaker (IsAlone state.held) (IsAlone (state.held ++ new ∷ []))
            (λ t h. find-append (λ x. x.tid == t.tid) state.held (new ∷ []) ∙ ap (λ (o : Option Transaction). option_or o (find (λ x. x.tid == t.tid) (new ∷ []))) h) state.held v.alone)
            (find-append (λ x. x.tid == tid) state.held (new ∷ [])
            ∙ ap (λ (o : Option Transaction). option_or o (find (λ x. x.tid == tid) (new ∷ []))) (unheld past state.held tid v.known none)
            ∙ ap (λ (b : Bool). if b then Some new else None) (eq-eqb tid tid refl));
        known = all_push (IsKnown (past ++ more)) state.held new
            (weaker (λ (t : Transaction). ((t.node == node) ≡ false) × IsKnown past t) (IsKnown (past ++ more)) (λ t h. known_more past e t (elsewhere t.node h.0) h.1) state.held
            (all_both (λ (t : Transaction). (t.node == node) ≡ false) (IsKnown past) state.held others v.known))
            (record {
              seen = seen_begun node tid first past none;
              last = last_begins node tid first past;
              clashed = λ r i. absurd cc;
              unlike = λ r i. absurd cc;
            });
        real = weaker (λ (s : NodeState). ((s.node == node) ≡ true → (s.noted ≡ None) × (s.outcome ≡ None)) × IsRealNode past s) (IsRealNode (past ++ more))
            (λ s h. still s h.0 h.1 (s.node == node) refl) state.nodes
            (all_both (λ (s : NodeState). (s.node == node) ≡ true → (s.noted ≡ None) × (s.outcome ≡ None)) (IsRealNode past) state.nodes silent v.real);
        quiet = weaker (λ (s : NodeState). ((s.node == node) ≡ true → (s.noted ≡ None) × (s.outcome ≡ None)) × IsQuiet state.held s) (IsQuiet (state.held ++ new ∷ []))
            (λ s h. hushed s h.0 h.1 (s.node == node) refl) state.nodes
            (all_both (λ (s : NodeState). (s.node == node) ≡ true → (s.noted ≡ None) × (s.outcome ≡ None)) (IsQuiet state.held) state.nodes silent v.quiet);
        unbegun = λ m h.
            let parts = or_parts (list_any (λ (b : ℕ). b == m) state.begun) (list_any (λ (b : ℕ). b == m) (tid ∷ [])) (sym (list_any-append (λ (b : ℕ). b == m) state.begun (tid ∷ [])) ∙ h) in
            unseen_more m past e (v.unbegun m parts.0) (ap (λ (b : Bool). if b then Some first else None) (or_parts (tid == m) false parts.1).0);
        apart = apart_more past more state.commits v.apart;
      }
    where
      turned : (a b : ℕ) → (a == b) ≡ false → (b == a) ≡ false
      turned a b h = ne_eqb b a (λ i. eqb-false a b h (sym i))

      elsewhere : (n : ℕ) → (n == node) ≡ false → begun_at n (entry.Began node tid first) ≡ None
      elsewhere n h = ap (λ (b : Bool). if b then Some tid else None) (turned n node h)

      still : (s : NodeState) → ((s.node == node) ≡ true → (s.noted ≡ None) × (s.outcome ≡ None)) → IsRealNode past s → (b : Bool) → (s.node == node) ≡ b
          → IsRealNode (past ++ entry.Began node tid first ∷ []) s
      still s none h true i = λ r e. absurd (let clash : None ≡ Some (answer.Conflict r) = sym (none i).1 ∙ e in cc)
      still s none h false i = λ r e. clashed_more past (entry.Began node tid first) s.node r (elsewhere s.node i) (h r e)

      hushed : (s : NodeState) → ((s.node == node) ≡ true → (s.noted ≡ None) × (s.outcome ≡ None)) → IsQuiet state.held s → (b : Bool) → (s.node == node) ≡ b
          → IsQuiet (state.held ++ begin node tid first ∷ []) s
      hushed s none h true i = λ k e. absurd (let clash : None ≡ Some k = sym (none i).0 ∙ e in cc)
      hushed s none h false i =
          λ k e. let q = h k e in (all_push (λ (t : Transaction). (t.node == s.node) ≡ false) state.held (begin node tid first) q.0 (turned s.node node i), q.1)
