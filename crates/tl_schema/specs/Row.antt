-- The one spelling of a row in a record cell.
use Rattle.std.specs.Prelude.{ℕ, ◌<◌, ◌^◌, List, [], ◌∷◌, ◌++◌, length}
use Rattle.std.specs.Int.{w16, w64, cast_unsigned, from_bool, to_be_bytes}
use Rattle.std.specs.List.{flat_map, AllByRecursion}
use Rattle.tl_values.specs.declared.value.Value.{Value}
use Rattle.tl_values.specs.declared.value.Value.TheVariants as value
use Rattle.tl_values.specs.Key.{AreValues}

-- a byte for the kind, and the value: a number in two's complement, a text behind its length
abbrev pub value_spelling : Value → List ℕ
value_spelling value.Null = 0 ∷ []
value_spelling (value.Bool b) = 1 ∷ from_bool b ∷ []
value_spelling (value.Int n) = 2 ∷ to_be_bytes w64 (cast_unsigned w64 n)
value_spelling (value.Text t) = 3 ∷ (to_be_bytes w16 (length t) ++ t)

-- the number of values, and the values
abbrev pub row_spelling : List Value → List ℕ
row_spelling row = length row ∷ flat_map value_spelling row

-- a text's length has two bytes
abbrev pub IsShort : Value → Type 0
IsShort value.Null = Unit {0}
IsShort (value.Bool b) = Unit {0}
IsShort (value.Int n) = Unit {0}
IsShort (value.Text t) = length t < 2 ^ 16

-- what a row of a program has to be to have a spelling
pub record FitsRow (row : List Value) : Type 0 where
  pub count : length row < 256
  pub short : AllByRecursion IsShort row
  pub values : AreValues row
