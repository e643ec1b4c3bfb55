-- The record of an access of INSERT is that of the row, in its table.
use Rattle.std.proofs.Common.{◌≡◌, ℕ, List, ◌∷◌, refl}
use Rattle.tl_values.specs.declared.value.Value.{Value}
use Rattle.tl_values.specs.Key.{key_bytes}
use Rattle.tl_schema.specs.declared.catalog.Table.{Table}
use Rattle.tl_schema.specs.Record.{key_values, record_key}

pub point_is_record : (number : ℕ) (table : Table) (row : List Value) → 4 ∷ number ∷ key_bytes (key_values table row) ≡ record_key number table row
point_is_record number table row = refl
