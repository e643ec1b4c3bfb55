-- COUNT, SUM, MIN and MAX, one row after the other.
use Rattle.std.proofs.Common.{◌≡◌, ◌≢◌, ℕ, ◌+◌, ◌<◌, Bool, true, false, not, cond, ℤ, ◌+ℤ◌, Option, None, Some, List, [], ◌∷◌, length, get_or, drop, refl, ap, sym, ◌∙◌, arith, count_by}
use Rattle.std.proofs.lemmas.Int.{ints}
use Rattle.std.proofs.lemmas.List.{drop_more}
use Rattle.std.proofs.lemmas.List.Sums.{sum_by-cons}
use Rattle.std.specs.List.{fold}
use Rattle.tl_values.specs.declared.value.Value.{Value}
use Rattle.tl_values.specs.declared.value.Value.TheVariants as value
use Rattle.tl_values.specs.Value.{is_null, value_at}
use Rattle.tl_algebra.specs.Aggregate.{chosen, known_at, number_of, numbers, total}
use Rattle.tl_algebra.specs.Row.{or_null}
use Rattle.tl_algebra.specs.Steps.{known_by, number_or_zero}

-- the choice from this one and further ones
abbrev pub chosen_from : (Value → Value → Value) → Option Value → List Value → Value
chosen_from choose None vs = chosen choose vs
chosen_from choose (Some a) vs = fold choose a vs

step : (choose : Value → Value → Value) (a : Option Value) (v : Value) (vs : List Value) →
    chosen_from choose a (cond (not (is_null v)) (v ∷ vs) vs) ≡ chosen_from choose (known_by choose a v) vs
step choose None value.Null vs = refl
step choose None (value.Bool b) vs = refl
step choose None (value.Int n) vs = refl
step choose None (value.Text t) vs = refl
step choose (Some a) value.Null vs = refl
step choose (Some a) (value.Bool b) vs = refl
step choose (Some a) (value.Int n) vs = refl
step choose (Some a) (value.Text t) vs = refl

pub chosen_step : (choose : Value → Value → Value) (a : Option Value) (at : ℕ) (row : List Value) (rows : List (List Value)) →
    chosen_from choose a (known_at at (row ∷ rows)) ≡ chosen_from choose (known_by choose a (value_at row at)) (known_at at rows)
chosen_step choose a at row rows = step choose a (value_at row at) (known_at at rows)

pub chosen_end : (choose : Value → Value → Value) (a : Option Value) → chosen_from choose a [] ≡ or_null a
chosen_end choose None = refl
chosen_end choose (Some a) = refl

-- COUNT
one_more : (b : Bool) (v : Value) (vs : List Value) (n : ℕ) → n ≡ length vs → cond b 1 0 + n ≡ length (cond b (v ∷ vs) vs)
one_more true v vs n h = grind arith
one_more false v vs n h = grind arith

pub counted : (at : ℕ) (rows : List (List Value)) → count_by (λ (row : List Value). not (is_null (value_at row at))) rows ≡ length (known_at at rows)
counted at [] = refl
counted at (row ∷ rows) =
    sum_by-cons (λ (r : List Value). cond (not (is_null (value_at r at))) 1 0) row rows
    ∙ one_more (not (is_null (value_at row at))) (value_at row at) (known_at at rows) _ (counted at rows)

-- SUM
total_one : (v : Value) (vs : List Value) → total (numbers (cond (not (is_null v)) (v ∷ vs) vs)) ≡ number_or_zero v +ℤ total (numbers vs)
total_one value.Null vs = omega (arith, ints)
total_one (value.Bool b) vs = omega (arith, ints)
total_one (value.Int n) vs = refl
total_one (value.Text t) vs = omega (arith, ints)

pub total_next : (at : ℕ) (rows : List (List Value)) (i : ℕ) (row : List Value) → i < length rows → row ≡ get_or rows i row →
    total (numbers (known_at at (drop i rows))) ≡ number_or_zero (value_at row at) +ℤ total (numbers (known_at at (drop (i + 1) rows)))
total_next at rows i row h e =
    ap (λ (l : List (List Value)). total (numbers (known_at at l))) (drop_more rows i row h)
    ∙ total_one (value_at (get_or rows i row) at) (known_at at (drop (i + 1) rows))
    ∙ ap (λ (r : List Value). number_or_zero (value_at r at) +ℤ total (numbers (known_at at (drop (i + 1) rows)))) (sym e)

-- whether there is a number
no_number : (v : Value) (vs : List Value) → number_of v ≡ None → numbers (cond (not (is_null v)) (v ∷ vs) vs) ≡ numbers vs
no_number value.Null vs e = refl
no_number (value.Bool b) vs e = refl
no_number (value.Int n) vs e = absurd cc
no_number (value.Text t) vs e = refl

a_number : (v : Value) (vs : List Value) → number_of v ≢ None → numbers (cond (not (is_null v)) (v ∷ vs) vs) ≢ []
a_number value.Null vs e = absurd (e refl)
a_number (value.Bool b) vs e = absurd (e refl)
a_number (value.Int n) vs e = λ h. cc
a_number (value.Text t) vs e = absurd (e refl)
