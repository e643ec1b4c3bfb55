-- The rows that a script opens with.
use Rattle.std.specs.Prelude.{ℕ, List, map, slice_index_or}
use Rattle.std.specs.FinMap as finmap
use Rattle.tl_values.specs.declared.value.Value.{Value}
use Rattle.tl_schema.specs.declared.catalog.OpeningRow.{OpeningRow}
use Rattle.tl_write.specs.Tables.{Tables}

-- the number of the table in a record key: its second byte
abbrev pub number_in : List ℕ → ℕ
number_in key = slice_index_or key 1 0

-- the row, with the number of its table
abbrev pub opening_row : List ℕ × List Value → OpeningRow
opening_row e = record { table = number_in e.0; row = e.1 }

-- the rows in rising order of record keys
abbrev pub opening_rows : Tables → List OpeningRow
opening_rows tables = map opening_row (finmap.entries tables)
