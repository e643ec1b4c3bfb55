-- Reading a key from left to right: what is read, and the bytes after it.
use Rattle.std.specs.Prelude.{ℕ, zero, suc, ◌^◌, ℤ, pos, ◌-ℤ◌, List, [], ◌∷◌, Option, Some, None, ◌==◌, if◌then◌else◌}
use Rattle.std.specs.Int.{w64}
use Rattle.std.specs.Str.{is_utf8}
use Rattle.tl_codec.specs.Reading.{◌>>=◌, read_flag, read_number}
use Rattle.tl_values.specs.declared.value.Value.{Value}
use Rattle.tl_values.specs.declared.value.Value.TheVariants as value

unfoldable pub read_bool : List ℕ → Option (Value × List ℕ)
read_bool bytes = do
  flag ← read_flag bytes
  Some (value.Bool flag.0, flag.1)

-- the number of this place, counted from the least
abbrev pub number_at : ℕ → ℤ
number_at n = pos n -ℤ pos (2 ^ 63)

unfoldable pub read_int : List ℕ → Option (Value × List ℕ)
read_int bytes = do
  number ← read_number w64 bytes
  Some (value.Int (number_at number.0), number.1)

-- the next byte of a text, where 00 FF is a 00, and none at its end, 00 00
unfoldable pub read_byte : List ℕ → Option (Option ℕ × List ℕ)
read_byte [] = None
read_byte (zero ∷ []) = None
read_byte (zero ∷ mark ∷ rest) = if mark == 0 then Some (None, rest) else (if mark == 255 then Some (Some 0, rest) else None)
read_byte (suc byte ∷ rest) = Some (Some (suc byte), rest)

-- the bytes up to the end of a text
unfoldable pub read_escaped : List ℕ → Option (List ℕ × List ℕ)
read_escaped [] = None
read_escaped (zero ∷ []) = None
read_escaped (zero ∷ mark ∷ rest) = if mark == 0 then Some ([], rest) else (if mark == 255 then (read_escaped rest >>= λ text. Some (0 ∷ text.0, text.1)) else None)
read_escaped (suc byte ∷ rest) = do
  text ← read_escaped rest
  Some (suc byte ∷ text.0, text.1)

unfoldable pub read_text : List ℕ → Option (Value × List ℕ)
read_text bytes = do
  text ← read_escaped bytes
  if is_utf8 text.0 then Some (value.Text text.0, text.1) else None

unfoldable pub read_key_value : List ℕ → Option (Value × List ℕ)
read_key_value [] = None
read_key_value (zero ∷ rest) = Some (value.Null, rest)
read_key_value (suc zero ∷ rest) = read_bool rest
read_key_value (suc (suc zero) ∷ rest) = read_int rest
read_key_value (suc (suc (suc zero)) ∷ rest) = read_text rest
read_key_value (suc (suc (suc (suc byte))) ∷ rest) = None
