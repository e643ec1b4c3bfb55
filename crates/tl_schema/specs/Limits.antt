-- What a row of a table may be.
use Rattle.std.specs.Prelude.{ℕ, Bool, false, ◌||◌, ◌&&◌, List, [], ◌∷◌, length, nat_lt}
use Rattle.std.specs.List.{list_any}
use Rattle.tl_values.specs.declared.value.Value.{Value}
use Rattle.tl_values.specs.Value.{is_null, values_at}
use Rattle.tl_values.specs.Key.{key_bytes}
use Rattle.tl_schema.specs.declared.catalog.Column.{Column}
use Rattle.tl_schema.specs.declared.catalog.Table.{Table}
use Rattle.tl_schema.specs.Record.{key_values}
use Rattle.tl_schema.specs.Row.{row_spelling}

-- whether a column that refuses NULL has one
abbrev pub breaks_not_null : List Column → List Value → Bool
breaks_not_null [] row = false
breaks_not_null (c ∷ cs) [] = c.not_null || breaks_not_null cs []
breaks_not_null (c ∷ cs) (v ∷ vs) = (c.not_null && is_null v) || breaks_not_null cs vs

-- the bytes of an index key: those of the values of its columns
abbrev pub index_key_length : List Value → List ℕ → ℕ
index_key_length row columns = length (key_bytes (values_at columns row))

-- whether the row, its key or an index key is above its limit
abbrev pub is_long : Table → List Value → Bool
is_long table row =
    nat_lt 1024 (length (row_spelling row)) || nat_lt 255 (length (key_bytes (key_values table row)))
    || list_any (λ index. nat_lt 255 (index_key_length row index.columns)) table.indexes
