-- Tables: which row stands under which record key.
use Rattle.std.specs.Prelude.{ℕ, Bool, List, [], ◌∷◌, Option, Some, None, map, filter, nat_eq}
use Rattle.std.specs.List.{starts_with}
use Rattle.std.specs.FinMap as finmap
use Rattle.tl_values.specs.declared.value.Value.{Value}
use Rattle.tl_schema.specs.declared.catalog.Table.{Table}
use Rattle.tl_schema.specs.Record.{store_key, record_key}
use Rattle.tl_write.specs.declared.write.Write.{Write}
use Rattle.tl_write.specs.Own.{key_cmp}

-- a row for each record key that has one
abbrev pub Tables : Type 0
Tables = finmap.FinMap key_cmp (List Value)

-- a write is laid over the tables
abbrev pub laid_write : Tables → Write → Tables
laid_write tables w = by w.row
  where
    by : Option (List Value) → Tables
    by None = finmap.remove tables w.key
    by (Some row) = finmap.insert tables w.key row

-- writes are laid over the tables, the first one first
abbrev pub laid_over : Tables → List Write → Tables
laid_over tables [] = tables
laid_over tables (w ∷ ws) = laid_over (laid_write tables w) ws

-- a row, written under its record key
abbrev pub write_of : ℕ → Table → List Value → Write
write_of number table row = record { key = record_key number table row; row = Some row }

-- the table of this number that has these rows: of two with one record key the later stands
abbrev pub tables_of : ℕ → Table → List (List Value) → Tables
tables_of number table rows = laid_over finmap.empty (map (write_of number table) rows)

-- whether the key is that of a record in the table of this number
abbrev pub is_in : ℕ → List ℕ → Bool
is_in number key = starts_with nat_eq key (store_key number [])

-- the records of the table of this number, in rising order of keys
abbrev pub records_in : ℕ → Tables → List (List ℕ × List Value)
records_in number tables = filter (λ e. is_in number e.0) (finmap.entries tables)

-- the writes of records in the table of this number
abbrev pub writes_in : ℕ → List Write → List Write
writes_in number writes = filter (λ w. is_in number w.key) writes

-- the rows of the table once its own writes are laid over these, in rising order of record keys
abbrev pub laid_rows : ℕ → Table → List Write → List (List Value) → List (List Value)
laid_rows number table own rows = finmap.values (laid_over (tables_of number table rows) (writes_in number own))
