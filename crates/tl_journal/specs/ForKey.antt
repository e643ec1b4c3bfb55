-- A cell for its key, as code can test it: the rows of a record cell, and the records that a log cell names.
use Rattle.std.specs.Prelude.{ℕ, ◌^◌, ◌==◌, Bool, true, false, not, ◌&&◌, nat_le, nat_lt, List, [], ◌∷◌, Option, Some, None, length, slice_get}
use Rattle.std.specs.List.{list_all}
use Rattle.tl_values.specs.declared.value.Value.{Value}
use Rattle.tl_values.specs.Reading.{read_key_value}
use Rattle.tl_values.specs.Value.{is_null}
use Rattle.tl_schema.specs.declared.catalog.Catalog.{Catalog}
use Rattle.tl_schema.specs.declared.catalog.Column.{Column}
use Rattle.tl_schema.specs.declared.catalog.Table.{Table}
use Rattle.tl_schema.specs.Limits.{breaks_not_null, is_long}
use Rattle.tl_schema.specs.Record.{record_key}
use Rattle.tl_versions.specs.declared.version.Version.{Version}
use Rattle.tl_isolation.specs.Kinds.{are_of_kinds, is_of_kind}
use Rattle.tl_isolation.specs.Tables.{table_of}
use Rattle.tl_protocol.specs.Move.{is_empty}
use Rattle.tl_protocol.specs.Store.{Key, same_key}

-- numbers of transactions end here
abbrev pub greatest_tid : ℕ
greatest_tid = 2 ^ 62

-- a row that the table may have: one value for each column, NULL or of its kind, no NULL that a column refuses, and within
-- the limits of a row, of its key and of its index keys
abbrev pub is_row_of : Table → List Value → Bool
is_row_of table row = are_of_kinds table.columns row && not (breaks_not_null table.columns row) && not (is_long table row)

-- the catalog has a table of this number, which may have the row, and the row's own record key is this one
abbrev pub is_home_in : Catalog → ℕ → Key → List Value → Bool
is_home_in catalog number key row =
    nat_lt number (length catalog.tables) && is_row_of (table_of catalog number) row
    && same_key key (record_key number (table_of catalog number) row)

-- the second byte of a record key is the number of its table
abbrev pub is_home : Catalog → Key → List Value → Bool
is_home catalog [] row = false
is_home catalog (byte ∷ []) row = false
is_home catalog (byte ∷ number ∷ values) row = is_home_in catalog number (byte ∷ number ∷ values) row

-- a deletion has no row
abbrev pub is_change_for : Catalog → Key → Option (List Value) → Bool
is_change_for catalog key None = true
is_change_for catalog key (Some row) = is_home catalog key row

-- a record cell for its key: each row is home there, and no number of a transaction is too great
abbrev pub is_record_for : Catalog → Key → List Version → Bool
is_record_for catalog key versions =
    list_all (λ (version : Version). nat_le version.tid greatest_tid && is_change_for catalog key version.row) versions

-- the value is of the column's kind, and no NULL that it refuses; nothing is asked where there is no column
abbrev pub is_of_column : Option Column → Value → Bool
is_of_column None v = true
is_of_column (Some column) v = is_of_kind column.kind v && not (column.not_null && is_null v)

-- the first value that is read is of the column, and the bytes behind it pass
abbrev pub first_passes : Option Column → (List ℕ → Bool) → Option (Value × List ℕ) → Bool
first_passes column passes None = false
first_passes column passes (Some x) = is_of_column column x.0 && passes x.1

-- the bytes are those of one value for each of these columns, and no more
abbrev pub are_values_of : List Column → List ℕ → List ℕ → Bool
are_values_of columns [] bytes = is_empty bytes
are_values_of columns (place ∷ places) bytes =
    first_passes (slice_get columns place) (λ (rest : List ℕ). are_values_of columns places rest) (read_key_value bytes)

-- the bytes of a primary key of the table, within their limit
abbrev pub is_key_in : Table → List ℕ → Bool
is_key_in table bytes = nat_le (length bytes) 255 && are_values_of table.columns table.key bytes

-- the key is that of a record of one of the catalog's tables
abbrev pub is_key_of : Catalog → Key → Bool
is_key_of catalog [] = false
is_key_of catalog (byte ∷ []) = false
is_key_of catalog (byte ∷ number ∷ values) =
    byte == 4 && nat_lt number (length catalog.tables) && is_key_in (table_of catalog number) values
