-- The order of values, and what a comparison of two values comes to.
use Rattle.std.specs.Prelude.{ℕ, Bool, true, false, not, List, map, slice_index_or}
use Rattle.std.specs.declared.cmp.Ordering.{Ordering}
use Rattle.std.specs.Ordering.{nat_cmp, int_cmp, bool_cmp, is_eq, is_lt, is_le, is_gt, is_ge}
use Rattle.std.specs.Cmp.Lexicographic.{slice_cmp}
use Rattle.tl_values.specs.declared.value.Value.{Value}
use Rattle.tl_values.specs.declared.value.Value.TheVariants as value
use Rattle.tl_values.specs.declared.value.Comparison.{Comparison}
use Rattle.tl_values.specs.declared.value.Comparison.TheVariants as by
use Rattle.tl_values.specs.declared.value.Truth.{Truth}
use Rattle.tl_values.specs.declared.value.Truth.TheVariants as truth

-- NULL stands first, then booleans, numbers and texts
abbrev pub rank : Value → ℕ
rank value.Null = 0
rank (value.Bool b) = 1
rank (value.Int n) = 2
rank (value.Text t) = 3

-- FALSE before TRUE, numbers by size, texts by bytes
abbrev pub value_cmp : Value → Value → Ordering
value_cmp (value.Bool a) (value.Bool b) = bool_cmp a b
value_cmp (value.Int a) (value.Int b) = int_cmp a b
value_cmp (value.Text a) (value.Text b) = slice_cmp nat_cmp a b
value_cmp a b = nat_cmp (rank a) (rank b)

-- rows by their values from the left
abbrev pub row_cmp : List Value → List Value → Ordering
row_cmp = slice_cmp value_cmp

abbrev pub is_null : Value → Bool
is_null value.Null = true
is_null (value.Bool b) = false
is_null (value.Int n) = false
is_null (value.Text t) = false

-- whether two sides in this order meet the comparison
abbrev pub passes : Comparison → Ordering → Bool
passes by.Equal o = is_eq o
passes by.NotEqual o = not (is_eq o)
passes by.Less o = is_lt o
passes by.LessEqual o = is_le o
passes by.Greater o = is_gt o
passes by.GreaterEqual o = is_ge o

abbrev pub known : Bool → Truth
known false = truth.False
known true = truth.True

-- unknown where a side is NULL, and else by the order of values
abbrev pub compared : Value → Comparison → Value → Truth
compared value.Null c b = truth.Unknown
compared a c value.Null = truth.Unknown
compared a c b = known (passes c (value_cmp a b))

-- a place outside the row reads NULL
abbrev pub value_at : List Value → ℕ → Value
value_at values at = slice_index_or values at value.Null

abbrev pub values_at : List ℕ → List Value → List Value
values_at places values = map (value_at values) places
