-- Numbers of directives.
use Rattle.std.specs.Prelude.{ℕ, Bool, true, false, not, ◌&&◌, List, [], ◌∷◌, Option, nat_le, if◌then◌else◌}
use Rattle.std.specs.declared.option.Option.TheVariants.{Some, None}
use Rattle.std.specs.Char.{is_ascii_digit}
use Rattle.std.specs.List.{list_all, take_while}
use Rattle.std.specs.Str.Parse.{digits_value}

-- the digits that the bytes begin with
abbrev pub digits_at : List ℕ → List ℕ
digits_at bytes = take_while is_ascii_digit bytes

abbrev pub is_empty : List ℕ → Bool
is_empty [] = true
is_empty (b ∷ bytes) = false

-- the number of these digits, where it is one from the least to the most
abbrev pub number_within : ℕ → ℕ → List ℕ → Option ℕ
number_within least most digits =
    if not (is_empty digits) && list_all is_ascii_digit digits && nat_le least (digits_value 10 digits) && nat_le (digits_value 10 digits) most
    then Some (digits_value 10 digits) else None

-- the node of these digits, from 1 to 16
abbrev pub node_in : List ℕ → Option ℕ
node_in digits = number_within 1 16 digits
