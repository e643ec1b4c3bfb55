-- The bytes under which a list of values is a key: their order is the order of the lists.
use Rattle.std.specs.Prelude.{ℕ, zero, suc, ◌+◌, ◌-◌, ◌^◌, ℤ, pos, negsuc, List, [], ◌∷◌}
use Rattle.std.specs.Int.{w64, from_bool, to_be_bytes}
use Rattle.std.specs.Int.RustNames.{FitsSigned}
use Rattle.std.specs.List.{flat_map, AllByRecursion}
use Rattle.std.specs.Str.{IsUtf8}
use Rattle.tl_values.specs.declared.value.Value.{Value}
use Rattle.tl_values.specs.declared.value.Value.TheVariants as value

-- a number of 64 bits plus 2^63, so that the least is 0
abbrev pub from_least : ℤ → ℕ
from_least (pos n) = 2 ^ 63 + n
from_least (negsuc n) = 2 ^ 63 - suc n

-- a text's bytes with FF behind each 00, and 00 00 at the end, so that no text's bytes begin another's
abbrev pub text_key : List ℕ → List ℕ
text_key [] = 0 ∷ 0 ∷ []
text_key (zero ∷ bytes) = 0 ∷ 255 ∷ text_key bytes
text_key (suc byte ∷ bytes) = suc byte ∷ text_key bytes

-- a byte for the kind, and the value's bytes
abbrev pub value_key : Value → List ℕ
value_key value.Null = 0 ∷ []
value_key (value.Bool b) = 1 ∷ from_bool b ∷ []
value_key (value.Int n) = 2 ∷ to_be_bytes w64 (from_least n)
value_key (value.Text t) = 3 ∷ text_key t

abbrev pub key_bytes : List Value → List ℕ
key_bytes = flat_map value_key

-- what a value of a program can be: a number has 64 bits, a text is UTF-8
abbrev pub IsValue : Value → Type 0
IsValue value.Null = Unit {0}
IsValue (value.Bool b) = Unit {0}
IsValue (value.Int n) = FitsSigned w64 n
IsValue (value.Text t) = IsUtf8 t

abbrev pub AreValues : List Value → Type 0
AreValues = AllByRecursion IsValue
