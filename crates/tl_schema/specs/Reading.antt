-- Reading a row's bytes from left to right: what is read, and the bytes after it.
use Rattle.std.specs.Prelude.{ℕ, zero, suc, List, [], ◌∷◌, Option, Some, None, if◌then◌else◌}
use Rattle.std.specs.Int.{w16, w64, cast_signed}
use Rattle.std.specs.Str.{is_utf8}
use Rattle.tl_values.specs.declared.value.Value.{Value}
use Rattle.tl_values.specs.declared.value.Value.TheVariants as value
use Rattle.tl_codec.specs.Reading.{◌>>=◌, all_read, read_byte, read_many, read_number, read_span}
use Rattle.tl_values.specs.Reading.{read_bool}

unfoldable pub read_int : List ℕ → Option (Value × List ℕ)
read_int bytes = do
  number ← read_number w64 bytes
  Some (value.Int (cast_signed w64 number.0), number.1)

unfoldable pub read_text : List ℕ → Option (Value × List ℕ)
read_text bytes = do
  size ← read_number w16 bytes
  text ← read_span size.0 size.1
  if is_utf8 text.0 then Some (value.Text text.0, text.1) else None

unfoldable pub read_value : List ℕ → Option (Value × List ℕ)
read_value [] = None
read_value (zero ∷ rest) = Some (value.Null, rest)
read_value (suc zero ∷ rest) = read_bool rest
read_value (suc (suc zero) ∷ rest) = read_int rest
read_value (suc (suc (suc zero)) ∷ rest) = read_text rest
read_value (suc (suc (suc (suc byte))) ∷ rest) = None

-- all of the bytes
unfoldable pub read_row : List ℕ → Option (List Value)
read_row bytes = do
  count ← read_byte bytes
  values ← read_many read_value count.0 count.1
  all_read values
