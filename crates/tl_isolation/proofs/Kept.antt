-- Each entry keeps what is known, so it is known after each history.
use Rattle.std.proofs.Common.{◌≡◌, ℕ, ◌==◌, Bool, true, false, List, [], ◌∷◌, ◌++◌, length, map, Option, Some, None, Result, Ok, Err, if◌then◌else◌, refl, sym, ap, subst, ◌∙◌, append_assoc, append-nil, arith}
use Rattle.std.specs.Prelude.{Contains}
use Rattle.std.specs.List.{AllByRecursion}
use Rattle.std.proofs.lemmas.Bool.{eqb-true}
use Rattle.std.proofs.lemmas.Option.{same_Some, slice_get_within}
use Rattle.std.proofs.lemmas.List.Elements.{Contains-append_right}
use Rattle.tl_lemmas.proofs.Lists.{found, none_passes, passes}
use Rattle.tl_schema.specs.declared.catalog.Catalog.{Catalog}
use Rattle.tl_schema.specs.declared.catalog.Setup.{Setup}
use Rattle.tl_write.specs.declared.fault.ChangeFault.{ChangeFault}
use Rattle.tl_write.specs.declared.fault.ChangeFault.TheVariants as fault
use Rattle.tl_write.specs.declared.write.Effect.{Effect}
use Rattle.tl_isolation.specs.declared.bound.Bound.{Bound}
use Rattle.tl_isolation.specs.declared.bound.Bound.TheVariants as bound
use Rattle.tl_isolation.specs.declared.entry.Answer.{Answer}
use Rattle.tl_isolation.specs.declared.entry.Answer.TheVariants as answer
use Rattle.tl_isolation.specs.declared.entry.Said.{Said}
use Rattle.tl_isolation.specs.declared.entry.Entry.{Entry}
use Rattle.tl_isolation.specs.declared.entry.Entry.TheVariants as entry
use Rattle.tl_isolation.specs.declared.state.NodeState.{NodeState}
use Rattle.tl_isolation.specs.declared.state.SiState.{SiState}
use Rattle.tl_isolation.specs.declared.state.Transaction.{Transaction}
use Rattle.tl_isolation.specs.Meaning.{SelectAnswers, refusal_of, told_of}
use Rattle.tl_isolation.specs.State.{held_as, held_by, idle, is_fresh, is_lost, node_of, opening_state, put_node, view_of, without_held}
use Rattle.tl_isolation.specs.Step.{Allowed, MaySay, after, begin, commit, commit_answer, effect_on, end_with, keep_answer, lose, meet_rival, noted_of, open_by_begin, take_statement, try_commit, undo, undo_answer, with_held, with_noted, with_outcome}
use Rattle.tl_isolation.specs.History.{IsHistory, IsHistoryFrom, state_after, state_from}
use Rattle.tl_isolation.proofs.Past.{IsKnown, IsReal, Known}
use Rattle.tl_isolation.proofs.Known.{Inv, IsAlone, begun, committed, decided, emptied, forgotten, grown, holder, lost, node_at, noted, placed, put_alone, quiet_at, removed, unnoted}

-- no change is answered by a conflict
unrefused : (f : ChangeFault) (r : ℕ) → refusal_of f ≡ Some (answer.Conflict r) → ⊥
unrefused fault.Overflow r e = cc
unrefused fault.Null r e = cc
unrefused fault.Long r e = cc
unrefused fault.Duplicate r e = cc
unrefused fault.Many r e = cc
unrefused fault.NoMemory r e = cc

untold : (result : Result Effect ChangeFault) (r : ℕ) → told_of result ≡ Some (answer.Conflict r) → ⊥
untold (Ok effect) r e = cc
untold (Err f) r e = unrefused f r e

kept_answer : (past : List Entry) (told : Answer) (answered : Bool) (t : Transaction) → ((r : ℕ) → told ≡ answer.Conflict r → ⊥)
    → IsKnown past t → IsKnown past (keep_answer told answered t)
kept_answer past told true t unlike k = k
kept_answer past told false t unlike k = record {
  seen = k.seen;
  last = k.last;
  clashed = k.clashed;
  unlike = λ r e. unlike r (same_Some told (answer.Conflict r) e);
}

kept_open : (past : List Entry) (t : Transaction) → IsKnown past t → IsKnown past (open_by_begin t)
kept_open past t k =
    elim (is_fresh t) as (λ b. IsKnown past (if b then record t { opened = true } else t)) [
      | true ↦ k
      | false ↦ k
    ]

-- a statement leaves what is known of its transaction
kept_said : (catalog : Catalog) (state : SiState) (past : List Entry) (node : ℕ) (b : Bound) (said : Said) (t : Transaction)
    → MaySay catalog state node b said.answer said.answered → IsKnown past t → IsKnown past (take_statement catalog state b said t)
kept_said catalog state past node bound.Begin said t may k = kept_open past t k
kept_said catalog state past node bound.Commit said t may k = k
kept_said catalog state past node bound.Rollback said t may k = k
kept_said catalog state past node (bound.Recover gone) said t may k = k
kept_said catalog state past node (bound.Select query) said t may k =
    kept_answer past said.answer said.answered t (λ r e. subst (λ (a : Answer). SelectAnswers query (view_of state may.0) a) e may.2.1) k
kept_said catalog state past node (bound.Change edit) said t may k =
    kept_answer past said.answer said.answered t (λ r e. untold (effect_on catalog state may.0 edit) r (may.2.1 ∙ ap (λ (a : Answer). Some a) e)) k

-- it has its number and its node still
said_tid : (catalog : Catalog) (state : SiState) (b : Bound) (said : Said) (t : Transaction) → (take_statement catalog state b said t).tid ≡ t.tid
said_tid catalog state bound.Begin said t =
    elim (is_fresh t) as (λ b. (if b then record t { opened = true } else t).tid ≡ t.tid) [
      | true ↦ refl
      | false ↦ refl
    ]
said_tid catalog state bound.Commit said t = refl
said_tid catalog state bound.Rollback said t = refl
said_tid catalog state (bound.Recover gone) said t = refl
said_tid catalog state (bound.Select query) said t = answer_tid said.answer said.answered t
  where
    answer_tid : (told : Answer) (answered : Bool) (t : Transaction) → (keep_answer told answered t).tid ≡ t.tid
    answer_tid told true t = refl
    answer_tid told false t = refl
said_tid catalog state (bound.Change edit) said t = answer_tid said.answer said.answered t
  where
    answer_tid : (told : Answer) (answered : Bool) (t : Transaction) → (keep_answer told answered t).tid ≡ t.tid
    answer_tid told true t = refl
    answer_tid told false t = refl

said_node : (catalog : Catalog) (state : SiState) (b : Bound) (said : Said) (t : Transaction) → (take_statement catalog state b said t).node ≡ t.node
said_node catalog state bound.Begin said t =
    elim (is_fresh t) as (λ b. (if b then record t { opened = true } else t).node ≡ t.node) [
      | true ↦ refl
      | false ↦ refl
    ]
said_node catalog state bound.Commit said t = refl
said_node catalog state bound.Rollback said t = refl
said_node catalog state (bound.Recover gone) said t = refl
said_node catalog state (bound.Select query) said t = answer_node said.answer said.answered t
  where
    answer_node : (told : Answer) (answered : Bool) (t : Transaction) → (keep_answer told answered t).node ≡ t.node
    answer_node told true t = refl
    answer_node told false t = refl
said_node catalog state (bound.Change edit) said t = answer_node said.answer said.answered t
  where
    answer_node : (told : Answer) (answered : Bool) (t : Transaction) → (keep_answer told answered t).node ≡ t.node
    answer_node told true t = refl
    answer_node told false t = refl

-- a change that leaves the number and the node of a held transaction, and what is known of it
kept_held : (past : List Entry) (state : SiState) (v : Inv past state) (o : Option Transaction) (f : Transaction → Transaction)
    → ((t : Transaction) → (f t).tid ≡ t.tid) → ((t : Transaction) → (f t).node ≡ t.node) → ((t : Transaction) → o ≡ Some t → held_as t.tid state.held ≡ Some t)
    → ((t : Transaction) → o ≡ Some t → IsKnown past (f t)) → Inv past (with_held o f state)
kept_held past state v None f tids homes alone h = v
kept_held past state v (Some t) f tids homes alone h =
    placed past state v (f t) t (ap (λ (n : ℕ). held_as n state.held) (tids t) ∙ alone t refl) (homes t) (h t refl)

alone_as : (past : List Entry) (state : SiState) (v : Inv past state) (tid : ℕ) (t : Transaction) → held_as tid state.held ≡ Some t → held_as t.tid state.held ≡ Some t
alone_as past state v tid t e = found (IsAlone state.held) (λ x. x.tid == tid) state.held t v.alone e

alone_by : (past : List Entry) (state : SiState) (v : Inv past state) (node : ℕ) (t : Transaction) → held_by node state.held ≡ Some t → held_as t.tid state.held ≡ Some t
alone_by past state v node t e = found (IsAlone state.held) (λ x. x.node == node) state.held t v.alone e

-- the held transaction of this number
known_as : (past : List Entry) (state : SiState) (v : Inv past state) (tid : ℕ) (t : Transaction) → held_as tid state.held ≡ Some t → IsKnown past t
known_as past state v tid t e = found (IsKnown past) (λ x. x.tid == tid) state.held t v.known e

known_by : (past : List Entry) (state : SiState) (v : Inv past state) (node : ℕ) (t : Transaction) → held_by node state.held ≡ Some t → IsKnown past t
known_by past state v node t e = found (IsKnown past) (λ x. x.node == node) state.held t v.known e

pub numbered : (tid : ℕ) (held : List Transaction) (t : Transaction) → held_as tid held ≡ Some t → t.tid ≡ tid
numbered tid held t e = eqb-true t.tid tid (passes (λ x. x.tid == tid) held t e)

kept_end : (past : List Entry) (told : Answer) (t : Transaction) (state : SiState) → Inv past state → noted_of state t.node ≡ None → IsReal past t.node (Some told)
    → Inv past (end_with told t state)
kept_end past told t state v none real =
    let ended : SiState = record state { held = without_held t.tid state.held } in
    let w : Inv past ended = removed past state v t.tid in
    elim (is_lost t.phase) as (λ b. Inv past (if b then ended else with_outcome t.node (Some told) ended)) [
      | true ↦ w
      | false ↦ decided past ended w t.node told real none
    ]

-- a commit is not answered by a conflict
real_commit : (past : List Entry) (node : ℕ) (unanswered : Option Answer) → ((r : ℕ) → unanswered ≡ Some (answer.Conflict r) → ⊥)
    → IsReal past node (Some (commit_answer unanswered))
real_commit past node None unlike r e = absurd cc
real_commit past node (Some a) unlike r e = absurd (unlike r e)

-- an undone transaction is answered its rival, which it clashed with
real_undo : (past : List Entry) (tid node first : ℕ) (rival : Option ℕ) (unanswered : Option Answer) → Known past tid node first rival unanswered
    → IsReal past node (Some (undo_answer rival unanswered))
real_undo past tid node first (Some x) unanswered k r e =
    let same : x ≡ r = cc in
    let c = k.clashed r (ap (λ (n : ℕ). Some n) same) in
    (tid, c.0, k.last, c.1)
real_undo past tid node first None (Some a) k r e = absurd (k.unlike r e)
real_undo past tid node first None None k r e = absurd cc

-- each entry keeps what is known
pub kept : (catalog : Catalog) (state : SiState) (past : List Entry) (e : Entry) → Inv past state → Allowed catalog state e
    → Inv (past ++ e ∷ []) (after catalog state e)
kept catalog state past (entry.Asked node) v h =
    let e : Entry = entry.Asked node in
    noted (past ++ e ∷ []) state (grown past e state (λ tid. refl) (λ n. refl) v) node (length state.commits) (none_passes (λ (t : Transaction). t.node == node) state.held h.1) h.2
kept catalog state past (entry.Began node tid first) v h =
    let quiet = quiet_at state.held node h.0.0 state.nodes v.quiet h.0.1 in
    let next : NodeState = record (node_of node state.nodes) { noted = None } in
    begun past (with_noted node None state) (unnoted past state v node) node tid first h.3 quiet.0
    (subst (λ (m : ℕ). AllByRecursion (λ (s : NodeState). (s.node == m) ≡ true → (s.noted ≡ None) × (s.outcome ≡ None)) (put_node next state.nodes)) (node_at node state.nodes)
    (put_alone (λ (s : NodeState). (s.noted ≡ None) × (s.outcome ≡ None)) next state.nodes (refl, quiet.1)))
kept catalog state past (entry.Said node b said) v h =
    let e : Entry = entry.Said node b said in
    let w : Inv (past ++ e ∷ []) state = grown past e state (λ tid. refl) (λ n. refl) v in
    let f : Transaction → Transaction = take_statement catalog state b said in
    forgotten (past ++ e ∷ []) (with_held (held_by node state.held) f state)
    (kept_held (past ++ e ∷ []) state w (held_by node state.held) f (said_tid catalog state b said) (said_node catalog state b said)
    (λ t i. alone_by (past ++ e ∷ []) state w node t i)
    (λ t i. kept_said catalog state (past ++ e ∷ []) node b said t h.1 (known_by (past ++ e ∷ []) state w node t i)))
    node said.answered
kept catalog state past (entry.Tried tid) v h =
    let e : Entry = entry.Tried tid in
    let w : Inv (past ++ e ∷ []) state = grown past e state (λ tid. refl) (λ n. refl) v in
    kept_held (past ++ e ∷ []) state w (held_as tid state.held) try_commit (λ t. refl) (λ t. refl) (λ t i. alone_as (past ++ e ∷ []) state w tid t i)
    (λ t i. known_as (past ++ e ∷ []) state w tid t i)
kept catalog state past (entry.Clash tid rival at) v h =
    let e : Entry = entry.Clash tid rival at in
    let w : Inv (past ++ e ∷ []) state = grown past e state (λ tid. refl) (λ n. refl) v in
    kept_held (past ++ e ∷ []) state w (held_as tid state.held) (meet_rival rival) (λ t. refl) (λ t. refl) (λ t i. alone_as (past ++ e ∷ []) state w tid t i) (λ t i.
    let k : IsKnown (past ++ e ∷ []) t = known_as (past ++ e ∷ []) state w tid t i in
    record {
      seen = k.seen;
      last = k.last;
      clashed = λ r f. (
        at,
        subst (λ (m : ℕ). Contains (past ++ e ∷ []) (entry.Clash m r at)) (sym (numbered tid state.held t i))
            (subst (λ (m : ℕ). Contains (past ++ e ∷ []) (entry.Clash tid m at)) (same_Some rival r f)
            (Contains-append_right past (e ∷ []) e (0, omega arith, refl))),
      );
      unlike = k.unlike;
    })
kept catalog state past (entry.Committed tid) v h =
    let e : Entry = entry.Committed tid in
    let t : Transaction = h.0 in
    let w : Inv (past ++ e ∷ []) state = grown past e state (λ tid. refl) (λ n. refl) v in
    let k : IsKnown (past ++ e ∷ []) t = known_as (past ++ e ∷ []) state w tid t h.1 in
    subst (λ (o : Option Transaction). Inv (past ++ e ∷ []) (commit o state)) (sym h.1)
    (kept_end (past ++ e ∷ []) (commit_answer t.unanswered) t (record state { commits = state.commits ++ record { tid = t.tid; writes = t.own } ∷ [] })
    (committed (past ++ e ∷ []) state w t k h.2.1) (holder (past ++ e ∷ []) state w tid t h.1) (real_commit (past ++ e ∷ []) t.node t.unanswered k.unlike))
kept catalog state past (entry.Undone tid) v h =
    let e : Entry = entry.Undone tid in
    let t : Transaction = h.0 in
    let w : Inv (past ++ e ∷ []) state = grown past e state (λ tid. refl) (λ n. refl) v in
    let k : IsKnown (past ++ e ∷ []) t = known_as (past ++ e ∷ []) state w tid t h.1 in
    subst (λ (o : Option Transaction). Inv (past ++ e ∷ []) (undo o state)) (sym h.1)
    (kept_end (past ++ e ∷ []) (undo_answer t.rival t.unanswered) t state w (holder (past ++ e ∷ []) state w tid t h.1)
    (real_undo (past ++ e ∷ []) t.tid t.node t.first t.rival t.unanswered k))
kept catalog state past (entry.Answered node statement told) v h =
    let e : Entry = entry.Answered node statement told in
    emptied (past ++ e ∷ []) state (grown past e state (λ tid. refl) (λ n. refl) v) node
kept catalog state past (entry.Vanished node ending) v h =
    let e : Entry = entry.Vanished node ending in
    let w : Inv (past ++ e ∷ []) state = grown past e state (λ tid. refl) (λ n. refl) v in
    let o : Inv (past ++ e ∷ []) (record state { held = map (lose node) state.held }) = lost (past ++ e ∷ []) state w node in
    let n : Inv (past ++ e ∷ []) (record state { held = map (lose node) state.held; nodes = put_node (idle node) state.nodes }) =
    emptied (past ++ e ∷ []) (record state { held = map (lose node) state.held }) o node in
    record { alone = n.alone; known = n.known; real = n.real; quiet = n.quiet; unbegun = n.unbegun; apart = n.apart }

-- it holds of the opening
pub opened : (setup : Setup) → Inv [] (opening_state setup)
opened setup = record {
  alone = tt;
  known = tt;
  real = tt;
  quiet = tt;
  unbegun = λ tid h. refl;
  apart = λ i j earlier later key e f less w x. absurd (
      let below = slice_get_within (opening_state setup).commits j later f in
      let above = slice_get_within (opening_state setup).commits i earlier e in
      omega arith);
}

-- and from there after any entries
pub kept_from : (catalog : Catalog) (state : SiState) (past entries : List Entry) → Inv past state → IsHistoryFrom catalog state entries
    → Inv (past ++ entries) (state_from catalog state entries)
kept_from catalog state past [] v h = subst (λ (es : List Entry). Inv es state) (sym (append-nil past)) v
kept_from catalog state past (e ∷ es) v h =
    subst (λ (xs : List Entry). Inv xs (state_from catalog (after catalog state e) es)) (append_assoc past (e ∷ []) es)
    (kept_from catalog (after catalog state e) (past ++ e ∷ []) es (kept catalog state past e v h.0) h.1)

pub kept_after : (setup : Setup) (entries : List Entry) → IsHistory setup entries → Inv entries (state_after setup entries)
kept_after setup entries h = kept_from setup.catalog (opening_state setup) [] entries (opened setup) h
