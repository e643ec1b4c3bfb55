-- A row is read exactly where bytes spell one.
use Rattle.std.proofs.Common.{◌≡◌, ℕ, List, Option, Some, None, Result, Err, refl, ap, ◌∙◌}
use Rattle.std.specs.Result.{IsErrOf}
use Rattle.tl_schema.specs.declared.fault.RowFault.{RowFault}
use Rattle.tl_schema.specs.declared.fault.RowFault.TheVariants as fault
use Rattle.tl_codec.specs.Taken.{IsBytes}
use Rattle.tl_values.specs.declared.value.Value.{Value}
use Rattle.tl_schema.specs.Reading.{read_row}
use Rattle.tl_schema.specs.Row.{FitsRow, row_spelling}
use Rattle.tl_schema.proofs.Rows.{row_again, row_takes}

pub is_row : (bytes : List ℕ) (row : List Value) → bytes ≡ row_spelling row → FitsRow row → read_row bytes ≡ Some row
is_row bytes row spelled fits = ap read_row spelled ∙ row_again row fits

pub is_no_row : (bytes : List ℕ) → IsBytes bytes → ((row : List Value) → FitsRow row → bytes ≡ row_spelling row → ⊥) → read_row bytes ≡ None
is_no_row bytes fits bad = by (read_row bytes) refl
  where
    by : (o : Option (List Value)) → read_row bytes ≡ o → o ≡ None
    by None e = refl
    by (Some row) e = let h = row_takes bytes row fits e in absurd (bad row h.1 h.0)

pub told : (e : RowFault) → e ≡ fault.BadRow → IsErrOf {T = List Value} {E = RowFault} (Err e) fault.BadRow
told e same = ap (λ (x : RowFault). let r : Result (List Value) RowFault = Err x in r) same
