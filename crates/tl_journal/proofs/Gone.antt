-- A transaction that a vanished node holds is lost.
use Rattle.std.proofs.Common.{◌≡◌, ℕ, ◌≤◌, ◌-◌, ◌^◌, max, ◌==◌, Bool, true, false, not, ◌&&◌, ◌||◌, List, [], ◌∷◌, ◌++◌, Option, Some, None, if◌then◌else◌, refl, sym, ap, ◌∙◌, subst, arith}
use Rattle.std.specs.List.{AllByRecursion}
use Rattle.std.specs.Int.{bit_at}
use Rattle.std.proofs.lemmas.Bool.{both_ways, eqb-true, false≢true, or_right}
use Rattle.std.proofs.lemmas.Bool.Decides.{nat_tests}
use Rattle.std.proofs.lemmas.Nat.Bits.{bit_at_or, bit_at-lt}
use Rattle.tl_lemmas.proofs.Lists.{all_filter, all_map, all_push, found}
use Rattle.tl_base.specs.declared.node.NodeSet.{NodeSet}
use Rattle.tl_base.specs.NodeSet.{has_node, with_node}
use Rattle.tl_schema.specs.declared.catalog.Catalog.{Catalog}
use Rattle.tl_schema.specs.declared.catalog.Setup.{Setup}
use Rattle.tl_isolation.specs.declared.bound.Bound.{Bound}
use Rattle.tl_isolation.specs.declared.bound.Bound.TheVariants as bound
use Rattle.tl_isolation.specs.declared.entry.Answer.{Answer}
use Rattle.tl_isolation.specs.declared.entry.Entry.{Entry}
use Rattle.tl_isolation.specs.declared.entry.Entry.TheVariants as entry
use Rattle.tl_isolation.specs.declared.entry.Said.{Said}
use Rattle.tl_isolation.specs.declared.state.NodeState.{NodeState}
use Rattle.tl_isolation.specs.declared.state.SiState.{SiState}
use Rattle.tl_isolation.specs.declared.state.Transaction.{Transaction}
use Rattle.tl_isolation.specs.declared.state.TxnPhase.{TxnPhase}
use Rattle.tl_isolation.specs.declared.state.TxnPhase.TheVariants as phase
use Rattle.tl_isolation.specs.State.{held_as, held_by, idle, is_fresh, is_live, is_lost, is_trying, node_of, opening_state, put_held, put_node, without_held}
use Rattle.tl_isolation.specs.Step.{Allowed, MayClash, after, awaits_commit, may_try, begin, commit, end_with, forget_note, has_vanished, keep_answer, lose, meet_rival, noted_of, take_statement, try_commit, undo, with_held, with_noted, with_outcome}
use Rattle.tl_isolation.specs.History.{IsHistoryFrom, state_from}
use Rattle.tl_isolation.specs.Script.{vanishes_at}
use Rattle.tl_isolation.specs.Tables.{OpensFitting}
use Rattle.tl_protocol.specs.World.{World}
use Rattle.tl_protocol.specs.Move as move
use Rattle.tl_protocol.specs.Move.{Move}
use Rattle.tl_protocol.specs.Next.{next}
use Rattle.tl_protocol.specs.Told.{told}
use Rattle.tl_protocol.specs.Run.{Layout, Reach, Start, Step}
use Rattle.tl_protocol.proofs.Reached.{reached}
use Rattle.tl_protocol.proofs.Held.{NodeTurn, node_noted, node_outcome, node_put, vanished_here}
use Rattle.tl_journal.proofs.Goings.{leaves}

-- where its node is one of these, it is lost
abbrev IsLostWith : (ℕ → Bool) → Transaction → Type 0
IsLostWith gone t = gone t.node ≡ true → is_lost t.phase ≡ true

-- these nodes have vanished, have noted nothing, and hold lost transactions alone
record Leave (gone : ℕ → Bool) (s : SiState) : Type 0 where
  held : AllByRecursion (IsLostWith gone) s.held
  noted : (n : ℕ) → gone n ≡ true → noted_of s n ≡ None
  vanished : (n : ℕ) → gone n ≡ true → has_vanished s n ≡ true

-- ---- what nodes have noted

noted_turn : (gone : ℕ → Bool) (old new : List NodeState) (n : ℕ) (marked : Option ℕ) (end : Option Answer) → NodeTurn old new n marked end
    → (gone n ≡ true → marked ≡ None) → (m : ℕ) → gone m ≡ true → ((n == m) ≡ false → (node_of m old).noted ≡ None) → (node_of m new).noted ≡ None
noted_turn gone old new n marked end turn here m g there = by (n == m) refl
  where
    by : (b : Bool) → (n == m) ≡ b → (node_of m new).noted ≡ None
    by true e = subst (λ i. (node_of i new).noted ≡ None) (eqb-true n m e) (turn.noted ∙ here (subst (λ i. gone i ≡ true) (sym (eqb-true n m e)) g))
    by false e = ap (λ (x : NodeState). x.noted) (turn.others m e) ∙ there e

module _ (gone : ℕ → Bool) (s : SiState) (l : Leave gone s) where
  after_note : (n : ℕ) (marked : Option ℕ) → (gone n ≡ true → marked ≡ None) → Leave gone (with_noted n marked s)
  after_note n marked h = record {
    held = l.held;
    noted = λ m g. noted_turn gone s.nodes (with_noted n marked s).nodes n marked (node_of n s.nodes).outcome
        (node_noted s.nodes n marked (node_of n s.nodes).outcome refl) h m g (λ e. l.noted m g);
    vanished = l.vanished;
  }

  after_outcome : (n : ℕ) (outcome : Option Answer) → Leave gone (with_outcome n outcome s)
  after_outcome n outcome = record {
    held = l.held;
    noted = λ m g. noted_turn gone s.nodes (with_outcome n outcome s).nodes n (node_of n s.nodes).noted outcome
        (node_outcome s.nodes n (node_of n s.nodes).noted outcome refl) (λ i. l.noted n i) m g (λ e. l.noted m g);
    vanished = l.vanished;
  }

  after_answer : (n : ℕ) → Leave gone (record s { nodes = put_node (idle n) s.nodes })
  after_answer n = record {
    held = l.held;
    noted = λ m g. noted_turn gone s.nodes (put_node (idle n) s.nodes) n None None (node_put s.nodes n (idle n) refl) (λ i. refl) m g (λ e. l.noted m g);
    vanished = l.vanished;
  }

  forgets : (n : ℕ) (answered : Bool) → Leave gone (forget_note n answered s)
  forgets n true = after_note n None (λ i. refl)
  forgets n false = l

  -- ---- held transactions

  after_held : (held : List Transaction) → AllByRecursion (IsLostWith gone) held → Leave gone (record s { held = held })
  after_held held h = record { held = h; noted = l.noted; vanished = l.vanished }

  after_put : (t : Transaction) → IsLostWith gone t → Leave gone (record s { held = put_held t s.held })
  after_put t i = after_held (put_held t s.held)
      (all_map (IsLostWith gone) (IsLostWith gone) (λ (x : Transaction). if x.tid == t.tid then t else x) (λ x h. by x h (x.tid == t.tid)) s.held l.held)
    where
      by : (x : Transaction) → IsLostWith gone x → (b : Bool) → IsLostWith gone (if b then t else x)
      by x h true = i
      by x h false = h

  after_turn : (o : Option Transaction) (f : Transaction → Transaction) → ((t : Transaction) → o ≡ Some t → IsLostWith gone t)
      → ((t : Transaction) → o ≡ Some t → IsLostWith gone t → IsLostWith gone (f t)) → Leave gone (with_held o f s)
  after_turn None f i h = l
  after_turn (Some t) f i h = after_put (f t) (h t refl (i t refl))

  lost_as : (tid : ℕ) (t : Transaction) → held_as tid s.held ≡ Some t → IsLostWith gone t
  lost_as tid t e = found (IsLostWith gone) (λ x. x.tid == tid) s.held t l.held e

  lost_by : (n : ℕ) (t : Transaction) → held_by n s.held ≡ Some t → IsLostWith gone t
  lost_by n t e = found (IsLostWith gone) (λ x. x.node == n) s.held t l.held e

  after_removal : (tid : ℕ) → Leave gone (record s { held = without_held tid s.held })
  after_removal tid = after_held (without_held tid s.held)
      (all_filter (IsLostWith gone) (IsLostWith gone) (λ (x : Transaction). not (x.tid == tid)) (λ x p h. h) s.held l.held)

after_end : (gone : ℕ → Bool) (s : SiState) → Leave gone s → (answer : Answer) (t : Transaction) → Leave gone (end_with answer t s)
after_end gone s l answer t = by (is_lost t.phase)
  where
    ended : SiState
    ended = record s { held = without_held t.tid s.held }

    by : (b : Bool) → Leave gone (if b then ended else with_outcome t.node (Some answer) ended)
    by true = after_removal gone s l t.tid
    by false = after_outcome gone ended (after_removal gone s l t.tid) t.node (Some answer)

-- a statement changes neither node nor phase
takes_lost : (gone : ℕ → Bool) (catalog : Catalog) (s : SiState) (b : Bound) (said : Said) (t : Transaction) → IsLostWith gone t
    → IsLostWith gone (take_statement catalog s b said t)
takes_lost gone catalog s bound.Begin said t h = by (is_fresh t)
  where
    by : (b : Bool) → IsLostWith gone (if b then record t { opened = true } else t)
    by true = h
    by false = h
takes_lost gone catalog s bound.Commit said t h = h
takes_lost gone catalog s bound.Rollback said t h = h
takes_lost gone catalog s (bound.Recover d) said t h = h
takes_lost gone catalog s (bound.Select query) said t h = by said.answered
  where
    by : (b : Bool) → IsLostWith gone (keep_answer said.answer b t)
    by true = h
    by false = h
takes_lost gone catalog s (bound.Change edit) said t h = by said.answered
  where
    by : (b : Bool) → gone (keep_answer said.answer b t).node ≡ true → is_lost (keep_answer said.answer b t).phase ≡ true
    by true = h
    by false = h

live_not_lost : (p : TxnPhase) (x : Bool) → (is_live p && x) ≡ true → is_lost p ≡ true → ⊥
live_not_lost phase.Live x e h = cc
live_not_lost phase.Trying x e h = cc
live_not_lost phase.Undoing x e h = cc
live_not_lost phase.Lost x e h = cc

trying_not_lost : (p : TxnPhase) → is_trying p ≡ true → is_lost p ≡ true → ⊥
trying_not_lost phase.Live e h = cc
trying_not_lost phase.Trying e h = cc
trying_not_lost phase.Undoing e h = cc
trying_not_lost phase.Lost e h = cc

-- the same transaction is held
same_held : (s : SiState) (tid : ℕ) (P : Transaction → Type 0) (t u : Transaction) → held_as tid s.held ≡ Some t → P t → held_as tid s.held ≡ Some u → P u
same_held s tid P t u e p f = subst P (one t u (held_as tid s.held) e f) p
  where
    one : (t u : Transaction) (o : Option Transaction) → o ≡ Some t → o ≡ Some u → t ≡ u
    one t u o e f = cc

none_noted : (k : ℕ) (o : Option ℕ) → o ≡ Some k → o ≡ None → ⊥
none_noted k o e f = cc

greatest : (a : ℕ) → a ≤ 1 → max 1 a ≡ 1
greatest a h = omega arith

still : (set : NodeSet) (n m : ℕ) → has_node set m ≡ true → has_node (with_node set n) m ≡ true
still set n m h =
    ap (λ (b : ℕ). b == 1)
    (bit_at_or set.0 (2 ^ (n - 1)) (m - 1) ∙ ap (λ (a : ℕ). max a (bit_at (2 ^ (n - 1)) (m - 1))) (eqb-true (bit_at set.0 (m - 1)) 1 h)
    ∙ greatest (bit_at (2 ^ (n - 1)) (m - 1)) (let below = bit_at-lt (2 ^ (n - 1)) (m - 1) in omega arith))

-- one entry more
leave_after : (catalog : Catalog) (gone : ℕ → Bool) (s : SiState) (e : Entry) → Allowed catalog s e → Leave gone s
    → Leave (λ n. vanishes_at n e || gone n) (after catalog s e)
leave_after catalog gone s (entry.Asked node) h l =
    after_note gone s l node (Some _) (λ g. absurd (both_ways (has_vanished s node) h.0 (l.vanished node g)))
leave_after catalog gone s (entry.Began node tid first) h l =
    after_note gone (record s { begun = s.begun ++ tid ∷ []; held = s.held ++ begin node tid first ∷ [] })
    (record {
      held = all_push (IsLostWith gone) s.held (begin node tid first) l.held (λ g. absurd (none_noted h.0.0 (noted_of s node) h.0.1 (l.noted node g)));
      noted = l.noted;
      vanished = l.vanished;
    })
    node None (λ i. refl)
leave_after catalog gone s (entry.Said node b said) h l =
    forgets gone (with_held (held_by node s.held) (take_statement catalog s b said) s)
    (after_turn gone s l (held_by node s.held) (take_statement catalog s b said) (λ t e. lost_by gone s l node t e) (λ t e i. takes_lost gone catalog s b said t i))
    node said.answered
leave_after catalog gone s (entry.Tried tid) h l =
    after_turn gone s l (held_as tid s.held) try_commit (λ t e. lost_as gone s l tid t e)
    (λ t e i g. absurd (live_not_lost t.phase (t.opened || awaits_commit t) (same_held s tid (λ x. may_try x ≡ true) h.0 t h.1 h.2 e) (i g)))
leave_after catalog gone s (entry.Clash tid rival at) h l =
    after_turn gone s l (held_as tid s.held) (meet_rival rival) (λ t e. lost_as gone s l tid t e)
    (λ t e i g. absurd (trying_not_lost t.phase (same_held s tid (MayClash s rival at) h.0 t h.1 h.2 e).0 (i g)))
leave_after catalog gone s (entry.Committed tid) h l = by (held_as tid s.held)
  where
    by : (o : Option Transaction) → Leave gone (commit o s)
    by None = l
    by (Some t) = after_end gone _ (record { held = l.held; noted = l.noted; vanished = l.vanished }) _ t
leave_after catalog gone s (entry.Undone tid) h l = by (held_as tid s.held)
  where
    by : (o : Option Transaction) → Leave gone (undo o s)
    by None = l
    by (Some t) = after_end gone s l _ t
leave_after catalog gone s (entry.Answered node statement answer) h l = after_answer gone s l node
leave_after catalog gone s (entry.Vanished node ending) h l = record {
  held = all_map (IsLostWith gone) (IsLostWith (λ n. node == n || gone n)) (lose node) (λ t i. loses t i (t.node == node) refl) s.held l.held;
  noted = λ m g. noted_turn (λ n. node == n || gone n) s.nodes (put_node (idle node) s.nodes) node None None (node_put s.nodes node (idle node) refl)
      (λ i. refl) m g (λ ne. l.noted m (other (node == m) (gone m) ne g));
  vanished = λ m g. gone_too m g (node == m) refl;
}
  where
    other : (x y : Bool) → x ≡ false → (x || y) ≡ true → y ≡ true
    other x y e f = grind arith

    loses : (t : Transaction) → IsLostWith gone t → (b : Bool) → (t.node == node) ≡ b
        → IsLostWith (λ n. node == n || gone n) (if b then record t { phase = phase.Lost } else t)
    loses t i true e = λ g. refl
    loses t i false e = λ g. i (other (node == t.node) (gone t.node) (turned t.node e) g)
      where
        turned : (m : ℕ) → (m == node) ≡ false → (node == m) ≡ false
        turned m e = grind (arith, nat_tests)

    gone_too : (m : ℕ) → (node == m || gone m) ≡ true → (b : Bool) → (node == m) ≡ b → has_node (with_node s.vanished node) m ≡ true
    gone_too m g true e = subst (λ i. has_node (with_node s.vanished node) i ≡ true) (eqb-true node m e) (vanished_here s.vanished node)
    gone_too m g false e = still s.vanished node m (l.vanished m (other (node == m) (gone m) e g))

-- ---- the nodes that have vanished after these entries

abbrev gone_after : (ℕ → Bool) → List Entry → ℕ → Bool
gone_after gone [] = gone
gone_after gone (e ∷ es) = gone_after (λ n. vanishes_at n e || gone n) es

leave_all : (catalog : Catalog) (es : List Entry) (gone : ℕ → Bool) (s : SiState) → IsHistoryFrom catalog s es → Leave gone s
    → Leave (gone_after gone es) (state_from catalog s es)
leave_all catalog [] gone s h l = l
leave_all catalog (e ∷ es) gone s h l =
    leave_all catalog es (λ n. vanishes_at n e || gone n) (after catalog s e) h.1 (leave_after catalog gone s e h.0 l)

stays_gone : (es : List Entry) (gone : ℕ → Bool) (n : ℕ) → gone n ≡ true → gone_after gone es n ≡ true
stays_gone [] gone n h = h
stays_gone (e ∷ es) gone n h = stays_gone es (λ i. vanishes_at i e || gone i) n (or_right (vanishes_at n e) (gone n) h)

gone_append : (es ds : List Entry) (gone : ℕ → Bool) → gone_after gone (es ++ ds) ≡ gone_after (gone_after gone es) ds
gone_append [] ds gone = refl
gone_append (e ∷ es) ds gone = gone_append es ds (λ n. vanishes_at n e || gone n)

abbrev never : ℕ → Bool
never n = false

gone_step : (w : World) (m : Move w) (s : SiState) (before : ℕ → Bool) (n : ℕ) → (w.gone n ≡ true → before n ≡ true) → (next w m).gone n ≡ true
    → gone_after before (told s.commits w m) n ≡ true
gone_step w (move.Vanish i ending run) s before n h g = by (i == n) g
  where
    by : (b : Bool) → (if b then true else w.gone n) ≡ true → (b || before n) ≡ true
    by true g = refl
    by false g = h g
gone_step w m s before n h g = stays_gone (told s.commits w m) before n (h (sym ((leaves w m refl).gone n) ∙ g))

-- where a node has vanished an entry tells it
gone_told : {layout : Layout} {setup : Setup} {w : World} {s : SiState} {entries : List Entry} → Reach layout setup w s entries
    → (n : ℕ) → w.gone n ≡ true → gone_after never entries n ≡ true
gone_told Start n g = cc
gone_told (Step {w = w} {state = s} {entries = es} r m) n g =
    ap (λ (f : ℕ → Bool). f n) (gone_append es (told s.commits w m) never)
    ∙ gone_step w m s (gone_after never es) n (λ h. gone_told r n h) g

-- a transaction that a vanished node holds is lost
pub gone_lost : {layout : Layout} {setup : Setup} {w : World} {s : SiState} {entries : List Entry} → OpensFitting setup → Reach layout setup w s entries
    → (tid : ℕ) (t : Transaction) → held_as tid s.held ≡ Some t → w.gone t.node ≡ true → is_lost t.phase ≡ true
gone_lost {setup = setup} {s = s} {entries = entries} fits reach tid t e g =
    let r = reached fits reach in
    let l : Leave (gone_after never entries) s =
    subst (λ x. Leave (gone_after never entries) x) (sym r.state)
    (leave_all setup.catalog entries never (opening_state setup) r.history
    (record { held = tt; noted = λ n i. absurd (false≢true i); vanished = λ n i. absurd (false≢true i) })) in
    lost_as (gone_after never entries) s l tid t e (gone_told reach t.node g)
