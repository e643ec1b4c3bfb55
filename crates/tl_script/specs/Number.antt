-- Numbers: 1 to 18 digits behind an optional minus sign.
use Rattle.std.specs.Prelude.{ℕ, ℤ, pos, neg_ℤ, Bool, true, false, not, ◌&&◌, List, [], ◌∷◌, Option, length, drop, nat_lt, nat_le, codes, if◌then◌else◌}
use Rattle.std.specs.declared.option.Option.TheVariants.{Some, None}
use Rattle.std.specs.Char.{is_ascii_digit}
use Rattle.std.specs.List.{list_all, take_while}
use Rattle.std.specs.Option.{option_map}
use Rattle.std.specs.Str.Parse.{digits_value}
use Rattle.tl_script.specs.Lines.{after_text}

-- the digits that the bytes begin with
abbrev pub digits_at : List ℕ → List ℕ
digits_at bytes = take_while is_ascii_digit bytes

-- the number of the digits that the bytes begin with, and what stands after them
unfoldable pub magnitude_at : List ℕ → Option (ℕ × List ℕ)
magnitude_at bytes =
    let digits = digits_at bytes in
    if nat_lt 0 (length digits) && nat_le (length digits) 18
    then Some (digits_value 10 digits, drop (length digits) bytes)
    else None

-- the number with its sign, and what stands after it
abbrev pub signed : (ℕ → ℤ) → Option (ℕ × List ℕ) → Option (ℤ × List ℕ)
signed sign read = option_map (λ found. (sign found.0, found.1)) read

-- a minus sign, where there is one, turns the number round
abbrev pub number_behind : List ℕ → Option (List ℕ) → Option (ℤ × List ℕ)
number_behind bytes None = signed (λ n. pos n) (magnitude_at bytes)
number_behind bytes (Some digits) = signed (λ n. neg_ℤ (pos n)) (magnitude_at digits)

-- the number that the bytes begin with, and what stands after it
unfoldable pub number_at : List ℕ → Option (ℤ × List ℕ)
number_at bytes = number_behind bytes (after_text (codes "-") bytes)

abbrev pub is_empty : List ℕ → Bool
is_empty [] = true
is_empty (b ∷ bytes) = false

-- the number of these digits, where it is one from the least to the most
abbrev pub number_within : ℕ → ℕ → List ℕ → Option ℕ
number_within least most digits =
    if not (is_empty digits) && list_all is_ascii_digit digits && nat_le least (digits_value 10 digits) && nat_le (digits_value 10 digits) most
    then Some (digits_value 10 digits) else None
