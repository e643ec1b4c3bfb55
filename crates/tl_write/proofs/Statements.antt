-- What is left of a statement, by the places of its records.
use Rattle.std.proofs.Common.{◌≡◌, ℕ, zero, suc, arith, ◌+◌, ◌<◌, Bool, true, false, cond, List, [], ◌∷◌, Option, Result, Ok, Err, length, get_or, drop, map, filter, refl, sym, ap, subst, ◌∙◌}
use Rattle.std.proofs.lemmas.List.{drop_more}
use Rattle.tl_values.specs.declared.value.Value.{Value}
use Rattle.tl_schema.specs.declared.catalog.Table.{Table}
use Rattle.tl_schema.specs.Record.{record_key}
use Rattle.tl_algebra.specs.declared.condition.Condition.{Condition}
use Rattle.tl_algebra.specs.declared.edit.SetColumn.{SetColumn}
use Rattle.tl_algebra.specs.Truth.{lets_through}
use Rattle.tl_write.specs.declared.fault.ChangeFault.{ChangeFault}
use Rattle.tl_write.specs.declared.judge.Progress.{Progress}
use Rattle.tl_write.specs.declared.write.Effect.{Effect}
use Rattle.tl_write.specs.declared.write.Write.{Write}
use Rattle.tl_write.specs.Change.{Deed, Add, Remove, judge, judged, nothing, replaced, set_columns}
use Rattle.tl_write.specs.Fault.{IsFault}
use Rattle.tl_write.specs.Places.{AreWithin, record_at, row_at}
use Rattle.tl_write.specs.Progress.{Meets, done}
use Rattle.tl_write.proofs.Judged.{done_then, fault_then}

abbrev pub found : Option Condition → List (List Value) → List (List ℕ × ℕ) → List (List ℕ × List Value)
found condition rows es = filter (λ e. lets_through condition e.1) (map (record_at rows) es)

abbrev pub updates : List SetColumn → Option Condition → List (List Value) → List (List ℕ × ℕ) → List Deed
updates sets condition rows es = map (λ (e : List ℕ × List Value). replaced e.0 (set_columns sets e.1 e.1)) (found condition rows es)

abbrev pub removals : Option Condition → List (List Value) → List (List ℕ × ℕ) → List Deed
removals condition rows es = map (λ (e : List ℕ × List Value). Remove e.0) (found condition rows es)

abbrev pub additions : ℕ → Table → List (List Value) → List Deed
additions n t rows = map (λ row. Add (record_key n t row) row) rows

found_one : (b : Bool) (e : List ℕ × List Value) (es : List (List ℕ × List Value)) → b ≡ true → cond b (e ∷ es) es ≡ e ∷ es
found_one true e es h = refl
found_one false e es h = absurd cc

found_none : (b : Bool) (e : List ℕ × List Value) (es : List (List ℕ × List Value)) → b ≡ false → cond b (e ∷ es) es ≡ es
found_none true e es h = absurd cc
found_none false e es h = refl

-- at the first of the places
removed : (t : Table) (there : List ℕ → Bool) (own : List Write) (condition : Option Condition) (rows : List (List Value)) (k : List ℕ) (at : ℕ) (es left : List (List ℕ × ℕ)) → left ≡ (k, at) ∷ es →
    lets_through condition (row_at rows at) ≡ true → (p : Effect) → judged t there own (removals condition rows left) p ≡ judged t there own (Remove k ∷ removals condition rows es) p
removed t there own condition rows k at es left e h p =
    ap (λ (l : List (List ℕ × ℕ)). judged t there own (removals condition rows l) p) e
    ∙ ap (λ (l : List (List ℕ × List Value)). judged t there own (map (λ (e : List ℕ × List Value). Remove e.0) l) p) (found_one _ (k, row_at rows at) (found condition rows es) h)

pub removed_on : (t : Table) (there : List ℕ → Bool) (own : List Write) (condition : Option Condition) (rows : List (List Value)) (k : List ℕ) (at : ℕ) (es left : List (List ℕ × ℕ)) → left ≡ (k, at) ∷ es →
    lets_through condition (row_at rows at) ≡ true → (p more : Progress) → Meets own (Ok more) (judge t there own (Remove k) (done p)) →
    judged t there own (removals condition rows es) (done more) ≡ judged t there own (removals condition rows left) (done p)
removed_on t there own condition rows k at es left e h p more m =
    sym (removed t there own condition rows k at es left e h (done p) ∙ done_then t there own (Remove k) (removals condition rows es) p more m)

pub removed_fault : (t : Table) (there : List ℕ → Bool) (own : List Write) (condition : Option Condition) (rows : List (List Value)) (k : List ℕ) (at : ℕ) (es left : List (List ℕ × ℕ)) → left ≡ (k, at) ∷ es →
    lets_through condition (row_at rows at) ≡ true → (p : Progress) (f : ChangeFault) → IsFault f (judge t there own (Remove k) (done p)) →
    IsFault f (judged t there own (removals condition rows left) (done p))
removed_fault t there own condition rows k at es left e h p f m =
    subst (λ (r : Result Effect ChangeFault). IsFault f r) (sym (removed t there own condition rows k at es left e h (done p)))
    (fault_then f (judge t there own (Remove k) (done p)) (λ (more : Effect). judged t there own (removals condition rows es) more) m)

added : (t : Table) (there : List ℕ → Bool) (own : List Write) (n : ℕ) (rows : List (List Value)) (i : ℕ) (row : List Value) → i < length rows → row ≡ get_or rows i row →
    (p : Effect) → judged t there own (additions n t (drop i rows)) p ≡ judged t there own (Add (record_key n t row) row ∷ additions n t (drop (i + 1) rows)) p
added t there own n rows i row l is p =
    ap (λ (left : List (List Value)). judged t there own (additions n t left) p) (drop_more rows i row l ∙ ap (λ (x : List Value). x ∷ drop (i + 1) rows) (sym is))

pub added_on : (t : Table) (there here : List ℕ → Bool) (own : List Write) (n : ℕ) (rows : List (List Value)) (i : ℕ) (row : List Value) → i < length rows → row ≡ get_or rows i row →
    ((k : List ℕ) → here k ≡ there k) → (p more : Progress) → Meets own (Ok more) (judge t here own (Add (record_key n t row) row) (done p)) →
    judged t there own (additions n t (drop (i + 1) rows)) (done more) ≡ judged t there own (additions n t (drop i rows)) (done p)
added_on t there here own n rows i row l is same p more m =
    let agree : here ≡ there = λ j k. same k j in
    sym (added t there own n rows i row l is (done p)
    ∙ done_then t there own (Add (record_key n t row) row) (additions n t (drop (i + 1) rows)) p more (subst (λ (x : List ℕ → Bool). Meets own (Ok more) (judge t x own (Add (record_key n t row) row) (done p))) agree m))

pub added_fault : (t : Table) (there here : List ℕ → Bool) (own : List Write) (n : ℕ) (rows : List (List Value)) (i : ℕ) (row : List Value) → i < length rows → row ≡ get_or rows i row →
    ((k : List ℕ) → here k ≡ there k) → (p : Progress) (f : ChangeFault) → IsFault f (judge t here own (Add (record_key n t row) row) (done p)) →
    IsFault f (judged t there own (additions n t (drop i rows)) (done p))
added_fault t there here own n rows i row l is same p f m =
    let agree : here ≡ there = λ j k. same k j in
    subst (λ (r : Result Effect ChangeFault). IsFault f r) (sym (added t there own n rows i row l is (done p)))
    (fault_then f (judge t there own (Add (record_key n t row) row) (done p)) (λ (more : Effect). judged t there own (additions n t (drop (i + 1) rows)) more)
    (subst (λ (x : List ℕ → Bool). IsFault f (judge t x own (Add (record_key n t row) row) (done p))) agree m))

abbrev effect_or : Effect → Result Effect ChangeFault → Effect
effect_or d (Ok a) = a
effect_or d (Err f) = d

-- what is done at first is nothing
pub from_nothing : (t : Table) (there : List ℕ → Bool) (own : List Write) (p : Progress) → Meets own (Ok p) (Ok nothing) → (ds : List Deed) → judged t there own ds (done p) ≡ judged t there own ds nothing
from_nothing t there own p m ds = ap (λ (x : Effect). judged t there own ds x) (sym (ap (effect_or nothing) m.0))

-- before the first
pub begun : (t : Table) (there : List ℕ → Bool) (own : List Write) (p : Progress) → Meets own (Ok p) (Ok nothing) →
    (f : List ℕ × List Value → Deed) (es all : List (List ℕ × List Value)) → es ≡ all → judged t there own (map f es) (done p) ≡ judged t there own (map f all) nothing
begun t there own p m f es all e =
    from_nothing t there own p m (map f es) ∙ ap (λ (l : List (List ℕ × List Value)). judged t there own (map f l) nothing) e

same_read : (xs : List (List Value)) (i : ℕ) → i < length xs → (a b : List Value) → get_or xs i a ≡ get_or xs i b
same_read [] i l a b = absurd (omega arith)
same_read (x ∷ xs) zero l a b = refl
same_read (x ∷ xs) (suc i) l a b = same_read xs i (omega arith) a b

-- WHERE is true of the row at the first of the places
pub passes_at : (condition : Option Condition) (rows : List (List Value)) (k : List ℕ) (at : ℕ) (es left : List (List ℕ × ℕ)) → left ≡ (k, at) ∷ es → AreWithin rows left →
    (row : List Value) → row ≡ get_or rows at row → (b c : Bool) → b ≡ lets_through condition row → b ≡ c → lets_through condition (row_at rows at) ≡ c
passes_at condition rows k at es left e h row is b c l p =
    let within : AreWithin rows ((k, at) ∷ es) = subst (λ (x : List (List ℕ × ℕ)). AreWithin rows x) e h in
    ap (lets_through condition) (same_read rows at within.0 [] row ∙ sym is) ∙ sym l ∙ p

pub within_rest : (rows : List (List Value)) (k : List ℕ) (at : ℕ) (es left : List (List ℕ × ℕ)) → left ≡ (k, at) ∷ es → AreWithin rows left → AreWithin rows es
within_rest rows k at es left e h =
    let within : AreWithin rows ((k, at) ∷ es) = subst (λ (x : List (List ℕ × ℕ)). AreWithin rows x) e h in within.1
