-- COUNT, SUM, MIN and MAX of a column. All of them skip NULL.
use Rattle.std.specs.Prelude.{ℕ, ℤ, pos, ◌+ℤ◌, not, List, [], ◌∷◌, length, map, filter, Option, Some, None, if◌then◌else◌}
use Rattle.std.specs.List.{filter_map, fold}
use Rattle.std.specs.Ordering.{is_le, is_ge}
use Rattle.tl_values.specs.declared.value.Value.{Value}
use Rattle.tl_values.specs.declared.value.Value.TheVariants as value
use Rattle.tl_values.specs.Value.{is_null, value_at, value_cmp}
use Rattle.tl_algebra.specs.Value.{checked}

-- the values of a column that aren't NULL
abbrev pub known_at : ℕ → List (List Value) → List Value
known_at at rows = filter (λ v. not (is_null v)) (map (λ row. value_at row at) rows)

abbrev pub count_of : {A : Type 0} → List A → Value
count_of xs = value.Int (pos (length xs))

abbrev pub number_of : Value → Option ℤ
number_of value.Null = None
number_of (value.Bool b) = None
number_of (value.Int n) = Some n
number_of (value.Text t) = None

abbrev pub numbers : List Value → List ℤ
numbers = filter_map number_of

abbrev pub total : List ℤ → ℤ
total [] = pos 0
total (n ∷ ns) = n +ℤ total ns

-- over no numbers it is NULL
abbrev pub sum_of : List ℤ → Option Value
sum_of [] = Some value.Null
sum_of (n ∷ ns) = checked (total (n ∷ ns))

abbrev pub lesser_value : Value → Value → Value
lesser_value a b = if is_le (value_cmp a b) then a else b

abbrev pub greater_value : Value → Value → Value
greater_value a b = if is_ge (value_cmp a b) then a else b

-- the one that is chosen of all; over no values it is NULL
abbrev pub chosen : (Value → Value → Value) → List Value → Value
chosen choose [] = value.Null
chosen choose (v ∷ vs) = fold choose v vs

abbrev pub least_of : List Value → Value
least_of = chosen lesser_value

abbrev pub greatest_of : List Value → Value
greatest_of = chosen greater_value
