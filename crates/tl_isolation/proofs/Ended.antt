-- A transaction that has ended is never held again.
use Rattle.std.proofs.Common.{◌≡◌, ℕ, ◌==◌, Bool, true, false, not, List, [], ◌∷◌, ◌++◌, Option, Some, None, option_map, if◌then◌else◌, map, find, sym, ap, subst, ◌∙◌}
use Rattle.std.specs.Option.{option_or}
use Rattle.std.proofs.lemmas.Bool.{both_ways, eqb-true, eq-eqb, not_from_true, ne_eqb}
use Rattle.std.proofs.lemmas.List.Folds.{find-append}
use Rattle.std.proofs.lemmas.Option.{same_Some}
use Rattle.tl_lemmas.proofs.Lists.{all_of, filter_none, none_passes, weaker}
use Rattle.tl_schema.specs.declared.catalog.Catalog.{Catalog}
use Rattle.tl_isolation.specs.declared.entry.Answer.{Answer}
use Rattle.tl_isolation.specs.declared.entry.Entry.{Entry}
use Rattle.tl_isolation.specs.declared.entry.Entry.TheVariants as entry
use Rattle.tl_isolation.specs.declared.state.SiState.{SiState}
use Rattle.tl_isolation.specs.declared.state.Transaction.{Transaction}
use Rattle.tl_isolation.specs.History.{IsHistoryFrom, state_from}
use Rattle.tl_isolation.specs.Promises.{ends, seen_by}
use Rattle.tl_isolation.specs.State.{held_as, held_by, is_lost, without_held}
use Rattle.tl_isolation.specs.Step.{Allowed, after, begin, commit, commit_answer, end_with, forget_note, lose, meet_rival, take_statement, try_commit, undo, undo_answer, with_held, with_outcome}
use Rattle.tl_isolation.proofs.Known.{Inv, as_map, lose_tid, put_tid}
use Rattle.tl_isolation.proofs.Kept.{kept, numbered}
use Rattle.tl_isolation.proofs.Past.{seen_more}

chosen : (b : Bool) (m n : ℕ) → (if b then Some m else None) ≡ Some n → m ≡ n
chosen true m n e = same_Some m n e
chosen false m n e = absurd cc

removed_end : (tid : ℕ) (told : Answer) (t : Transaction) (state : SiState) → held_as tid (without_held t.tid state.held) ≡ None
    → held_as tid (end_with told t state).held ≡ None
removed_end tid told t state h =
    let ended : SiState = record state { held = without_held t.tid state.held } in
    elim (is_lost t.phase) as (λ b. held_as tid (if b then ended else with_outcome t.node (Some told) ended).held ≡ None) [
      | true ↦ h
      | false ↦ h
    ]

-- it isn't held once it has ended
removed_own : (tid : ℕ) (told : Answer) (t : Transaction) (state : SiState) → t.tid ≡ tid → held_as tid (end_with told t state).held ≡ None
removed_own tid told t state same =
    removed_end tid told t state
    (filter_none (λ x. x.tid == tid) (λ x. not (x.tid == t.tid)) state.held
    (all_of (λ x. (x.tid == tid) ≡ true → not (x.tid == t.tid) ≡ false)
    (λ x e. not_from_true (x.tid == t.tid) (eq-eqb x.tid t.tid (eqb-true x.tid tid e ∙ sym same))) state.held))

-- nor after another has ended
removed_other : (tid : ℕ) (told : Answer) (t : Transaction) (state : SiState) → held_as tid state.held ≡ None → held_as tid (end_with told t state).held ≡ None
removed_other tid told t state h =
    removed_end tid told t state
    (filter_none (λ x. x.tid == tid) (λ x. not (x.tid == t.tid)) state.held
    (weaker (λ x. (x.tid == tid) ≡ false) (λ x. (x.tid == tid) ≡ true → not (x.tid == t.tid) ≡ false)
    (λ x no_one e. absurd (both_ways (x.tid == tid) no_one e)) state.held (none_passes (λ x. x.tid == tid) state.held h)))

-- an entry that ends the transaction finds it held, and leaves it no longer held
pub ended : (catalog : Catalog) (state : SiState) (tid : ℕ) (e : Entry) → Allowed catalog state e → ends tid e ≡ Some tid
    → (t : Transaction) × (held_as tid state.held ≡ Some t) × (held_as tid (after catalog state e).held ≡ None)
ended catalog state tid (entry.Asked node) h e = absurd cc
ended catalog state tid (entry.Began node t first) h e = absurd cc
ended catalog state tid (entry.Said node b said) h e = absurd cc
ended catalog state tid (entry.Tried t) h e = absurd cc
ended catalog state tid (entry.Clash t rival at) h e = absurd cc
ended catalog state tid (entry.Committed m) h e =
    let t : Transaction = h.0 in
    let gone : held_as m (commit (held_as m state.held) state).held ≡ None =
    subst (λ (o : Option Transaction). held_as m (commit o state).held ≡ None) (sym h.1)
    (removed_own m (commit_answer t.unanswered) t (record state { commits = state.commits ++ record { tid = t.tid; writes = t.own } ∷ [] }) (numbered m state.held t h.1)) in
    subst (λ (n : ℕ). (x : Transaction) × (held_as n state.held ≡ Some x) × (held_as n (after catalog state (entry.Committed m)).held ≡ None)) (chosen (m == tid) m tid e)
    (t, h.1, gone)
ended catalog state tid (entry.Undone m) h e =
    let t : Transaction = h.0 in
    let gone : held_as m (undo (held_as m state.held) state).held ≡ None =
    subst (λ (o : Option Transaction). held_as m (undo o state).held ≡ None) (sym h.1)
    (removed_own m (undo_answer t.rival t.unanswered) t state (numbered m state.held t h.1)) in
    subst (λ (n : ℕ). (x : Transaction) × (held_as n state.held ≡ Some x) × (held_as n (after catalog state (entry.Undone m)).held ≡ None)) (chosen (m == tid) m tid e)
    (t, h.1, gone)
ended catalog state tid (entry.Answered node statement told) h e = absurd cc
ended catalog state tid (entry.Vanished node ending) h e = absurd cc

unheld_map : (tid : ℕ) (f : Transaction → Transaction) → ((t : Transaction) → (f t).tid ≡ t.tid) → (held : List Transaction) → held_as tid held ≡ None
    → held_as tid (map f held) ≡ None
unheld_map tid f same held h = as_map f same held tid ∙ ap (option_map f) h

unheld_with : (tid : ℕ) (o : Option Transaction) (f : Transaction → Transaction) (state : SiState) → held_as tid state.held ≡ None
    → held_as tid (with_held o f state).held ≡ None
unheld_with tid None f state h = h
unheld_with tid (Some t) f state h = unheld_map tid (λ x. if x.tid == (f t).tid then f t else x) (put_tid (f t)) state.held h

unheld_forget : (tid node : ℕ) (answered : Bool) (state : SiState) → held_as tid state.held ≡ None → held_as tid (forget_note node answered state).held ≡ None
unheld_forget tid node true state h = h
unheld_forget tid node false state h = h

unheld_commit : (tid : ℕ) (o : Option Transaction) (state : SiState) → held_as tid state.held ≡ None → held_as tid (commit o state).held ≡ None
unheld_commit tid None state h = h
unheld_commit tid (Some t) state h =
    removed_other tid (commit_answer t.unanswered) t (record state { commits = state.commits ++ record { tid = t.tid; writes = t.own } ∷ [] }) h

unheld_undo : (tid : ℕ) (o : Option Transaction) (state : SiState) → held_as tid state.held ≡ None → held_as tid (undo o state).held ≡ None
unheld_undo tid None state h = h
unheld_undo tid (Some t) state h = removed_other tid (undo_answer t.rival t.unanswered) t state h

-- a transaction that has begun and isn't held stays so
unheld_after : (catalog : Catalog) (state : SiState) (past : List Entry) (tid n : ℕ) (e : Entry) → Inv past state → Allowed catalog state e
    → seen_by tid past ≡ Some n → held_as tid state.held ≡ None → held_as tid (after catalog state e).held ≡ None
unheld_after catalog state past tid n (entry.Asked node) v a seen h = h
unheld_after catalog state past tid n (entry.Began node t first) v a seen h =
    let new : Transaction = begin node t first in
    let other : (t == tid) ≡ false = ne_eqb t tid (λ (same : t ≡ tid).
    let clash : None ≡ Some n = sym (v.unbegun t a.3) ∙ ap (λ (m : ℕ). seen_by m past) same ∙ seen in
    cc) in
    find-append (λ x. x.tid == tid) state.held (new ∷ [])
    ∙ ap (λ (o : Option Transaction). option_or o (find (λ x. x.tid == tid) (new ∷ []))) h
    ∙ ap (λ (b : Bool). if b then Some new else None) other
unheld_after catalog state past tid n (entry.Said node b said) v a seen h =
    let f : Transaction → Transaction = take_statement catalog state b said in
    unheld_forget tid node said.answered (with_held (held_by node state.held) f state) (unheld_with tid (held_by node state.held) f state h)
unheld_after catalog state past tid n (entry.Tried t) v a seen h = unheld_with tid (held_as t state.held) try_commit state h
unheld_after catalog state past tid n (entry.Clash t rival at) v a seen h = unheld_with tid (held_as t state.held) (meet_rival rival) state h
unheld_after catalog state past tid n (entry.Committed t) v a seen h = unheld_commit tid (held_as t state.held) state h
unheld_after catalog state past tid n (entry.Undone t) v a seen h = unheld_undo tid (held_as t state.held) state h
unheld_after catalog state past tid n (entry.Answered node statement told) v a seen h = h
unheld_after catalog state past tid n (entry.Vanished node ending) v a seen h = unheld_map tid (lose node) (lose_tid node) state.held h

pub unheld_from : (catalog : Catalog) (state : SiState) (past between : List Entry) (tid n : ℕ) → Inv past state → IsHistoryFrom catalog state between
    → seen_by tid past ≡ Some n → held_as tid state.held ≡ None → held_as tid (state_from catalog state between).held ≡ None
unheld_from catalog state past [] tid n v a seen h = h
unheld_from catalog state past (e ∷ es) tid n v a seen h =
    unheld_from catalog (after catalog state e) (past ++ e ∷ []) es tid n (kept catalog state past e v a.0) a.1 (seen_more tid n past (e ∷ []) seen)
    (unheld_after catalog state past tid n e v a.0 seen h)
