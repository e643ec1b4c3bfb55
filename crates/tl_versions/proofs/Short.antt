-- A row of few bytes has short texts.
use Rattle.std.proofs.Common.{◌^◌, ◌<◌, List, [], ◌∷◌, length, arith}
use Rattle.std.specs.Int.{w16, to_be_bytes}
use Rattle.std.specs.List.{AllByRecursion, flat_map}
use Rattle.std.proofs.lemmas.List.{length-append}
use Rattle.tl_values.specs.declared.value.Value.{Value}
use Rattle.tl_values.specs.declared.value.Value.TheVariants as value
use Rattle.tl_values.specs.Key.{AreValues}
use Rattle.tl_schema.specs.Row.{IsShort, row_spelling, value_spelling}
use Rattle.tl_versions.specs.Cell.{FitsChange, IsShortRow}

short_value : (v : Value) → length (value_spelling v) < 2 ^ 16 → IsShort v
short_value value.Null h = tt
short_value (value.Bool b) h = tt
short_value (value.Int n) h = tt
short_value (value.Text t) h = omega (arith, h, length-append (to_be_bytes w16 (length t)) t)

short_values : (vs : List Value) → length (flat_map value_spelling vs) < 2 ^ 16 → AllByRecursion IsShort vs
short_values [] h = tt
short_values (v ∷ vs) h =
    let both = length-append (value_spelling v) (flat_map value_spelling vs) in
    (short_value v (omega (arith, h, both)), short_values vs (omega (arith, h, both)))

pub fits_change : (row : List Value) → IsShortRow row → AreValues row → FitsChange row
fits_change row s values =
    let few : length (row_spelling row) < 2 ^ 16 = s.short in
    record { fits = record { count = s.count; short = short_values row (omega arith); values = values }; short = few }
