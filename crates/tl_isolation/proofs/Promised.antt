-- The promises of a history, from what is known of each state in it.
use Rattle.std.proofs.Common.{◌≡◌, ℕ, ◌==◌, ⊎_elim, inl, inr, Bool, true, false, ◌&&◌, List, [], ◌∷◌, ◌++◌, Some, None, drop, refl, sym, ap, ◌∙◌}
use Rattle.std.specs.List.{list_any, AllByRecursion}
use Rattle.std.proofs.lemmas.Bool.{and_parts, eqb-true, or_cases}
use Rattle.tl_lemmas.proofs.Lists.{found}
use Rattle.tl_schema.specs.declared.catalog.Catalog.{Catalog}
use Rattle.tl_write.specs.declared.write.Write.{Write}
use Rattle.tl_write.specs.Own.{is_written}
use Rattle.tl_isolation.specs.declared.entry.Answer.TheVariants as answer
use Rattle.tl_isolation.specs.declared.entry.Entry.{Entry}
use Rattle.tl_isolation.specs.declared.entry.Entry.TheVariants as entry
use Rattle.tl_isolation.specs.declared.state.Commit.{Commit}
use Rattle.tl_isolation.specs.declared.state.SiState.{SiState}
use Rattle.tl_isolation.specs.declared.state.Transaction.{Transaction}
use Rattle.tl_isolation.specs.History.{IsHistoryFrom, state_after, state_from}
use Rattle.tl_isolation.specs.Promises.{ClashIsReal, ConflictIsReal, EndsOnce, IsOutside, NeverOverlap, seen_by}
use Rattle.tl_isolation.specs.State.{held_as, opening_state}
use Rattle.tl_isolation.specs.Step.{Allowed, after, is_rival}
use Rattle.tl_isolation.proofs.Past.{IsKnown, seen_more}
use Rattle.tl_isolation.proofs.Places.{placed_later}
use Rattle.tl_isolation.proofs.Known.{Inv, IsAlone, real_at}
use Rattle.tl_isolation.proofs.Kept.{kept, kept_after, numbered}
use Rattle.tl_isolation.proofs.Ended.{ended, unheld_from}

-- the entries of a history after its first ones
split : (catalog : Catalog) (state : SiState) (past rest : List Entry) → IsHistoryFrom catalog state (past ++ rest)
    → IsHistoryFrom catalog state past × IsHistoryFrom catalog (state_from catalog state past) rest
split catalog state [] rest h = (tt, h)
split catalog state (e ∷ es) rest h = let r = split catalog (after catalog state e) es rest h.1 in ((h.0, r.0), r.1)

pub never_overlap : NeverOverlap
never_overlap setup entries h = (kept_after setup entries h).apart

three : (x y z : Bool) → (x && y && z) ≡ true → (x ≡ true) × (y ≡ true) × (z ≡ true)
three true true true e = (refl, refl, refl)
three true true false e = absurd cc
three true false z e = absurd cc
three false y z e = absurd cc

-- a held rival is found by its number
rival_held : (held : List Transaction) (rival : ℕ) (key : List ℕ) (xs : List Transaction) → AllByRecursion (IsAlone held) xs
    → list_any (λ (x : Transaction). (x.tid == rival) && x.tried && is_written key x.own) xs ≡ true
    → (other : Transaction) × (held_as rival held ≡ Some other) × (other.tried ≡ true) × (is_written key other.own ≡ true)
rival_held held rival key [] h e = absurd cc
rival_held held rival key (x ∷ xs) h e =
    ⊎_elim (λ i. let p = three (x.tid == rival) x.tried (is_written key x.own) i in (x, ap (λ (n : ℕ). held_as n held) (sym (eqb-true x.tid rival p.0)) ∙ h.0, p.1, p.2))
    (λ i. rival_held held rival key xs h.1 i)
    (or_cases ((x.tid == rival) && x.tried && is_written key x.own) (list_any (λ (y : Transaction). (y.tid == rival) && y.tried && is_written key y.own) xs) e)

-- a rival has written the record outside the snapshot
outside : (past : List Entry) (state : SiState) (t : Transaction) (rival : ℕ) (key : List ℕ) → Inv past state → is_rival state t rival key ≡ true
    → IsOutside state t rival key
outside past state t rival key v h =
    ⊎_elim (λ i.
    let r = placed_later (λ (c : Commit). (c.tid == rival) && is_written key c.writes) t.first state.commits i in
    let p = and_parts (r.1.tid == rival) (is_written key r.1.writes) r.4 in
    inl (r.0, r.1, r.2, r.3, eqb-true r.1.tid rival p.0, p.1))
    (λ i. inr (rival_held state.held rival key state.held v.alone i))
    (or_cases (list_any (λ (c : Commit). (c.tid == rival) && is_written key c.writes) (drop t.first state.commits))
    (list_any (λ (x : Transaction). (x.tid == rival) && x.tried && is_written key x.own) state.held) h)

pub clash_is_real : ClashIsReal
clash_is_real setup past later tid rival at h =
    let state : SiState = state_after setup past in
    let s = split setup.catalog (opening_state setup) past (entry.Clash tid rival at ∷ later) h in
    let v : Inv past state = kept_after setup past s.0 in
    let a : Allowed setup.catalog state (entry.Clash tid rival at) = s.1.0 in
    let t : Transaction = a.0 in
    let w : Write = a.2.2.0 in
    (t, w, a.1, a.2.2.1, ap (λ (n : ℕ). rival == n) (sym (numbered tid state.held t a.1)) ∙ a.2.1, outside past state t rival w.key v a.2.2.2)

pub conflict_is_real : ConflictIsReal
conflict_is_real setup past later node statement rival h =
    let s = split setup.catalog (opening_state setup) past (entry.Answered node statement (answer.Conflict rival) ∷ later) h in
    real_at past node (state_after setup past).nodes (kept_after setup past s.0).real rival s.1.0

pub ends_once : EndsOnce
ends_once setup past between later one other tid h e f =
    let catalog : Catalog = setup.catalog in
    let state : SiState = state_after setup past in
    let next : SiState = after catalog state one in
    let s = split catalog (opening_state setup) past (one ∷ (between ++ other ∷ later)) h in
    let v : Inv past state = kept_after setup past s.0 in
    let first = ended catalog state tid one s.1.0 e in
    let t : Transaction = first.0 in
    let k : IsKnown past t = found (IsKnown past) (λ x. x.tid == tid) state.held t v.known first.1 in
    let seen : seen_by tid past ≡ Some t.first = ap (λ (n : ℕ). seen_by n past) (sym (numbered tid state.held t first.1)) ∙ k.seen in
    let r = split catalog next between (other ∷ later) s.1.1 in
    let none : held_as tid (state_from catalog next between).held ≡ None =
    unheld_from catalog next (past ++ one ∷ []) between tid t.first (kept catalog state past one v s.1.0) r.0 (seen_more tid t.first past (one ∷ []) seen) first.2 in
    let again = ended catalog (state_from catalog next between) tid other r.1.0 f in
    let clash : None ≡ Some again.0 = sym none ∙ again.1 in
    cc
