-- The key of a record in the store, and those of its entries in the indexes.
use Rattle.std.specs.Prelude.{ℕ, List, ◌∷◌, ◌++◌, map}
use Rattle.tl_values.specs.declared.value.Value.{Value}
use Rattle.tl_values.specs.Key.{key_bytes}
use Rattle.tl_values.specs.Value.{values_at}
use Rattle.tl_schema.specs.declared.catalog.Index.{Index}
use Rattle.tl_schema.specs.declared.catalog.Table.{Table}

-- the values of the primary key columns, in the order of the key
abbrev pub key_values : Table → List Value → List Value
key_values table values = values_at table.key values

-- the key of the record in a table of this number whose primary key has these values
abbrev pub store_key : ℕ → List Value → List ℕ
store_key number values = 4 ∷ number ∷ key_bytes values

abbrev pub record_key : ℕ → Table → List Value → List ℕ
record_key number table values = store_key number (key_values table values)

-- the values of an entry: those of the index columns, and behind them those of the primary key
abbrev pub entry_values : Table → Index → List Value → List Value
entry_values table index values = values_at index.columns values ++ key_values table values

abbrev pub entry_key : Table → Index → List Value → List ℕ
entry_key table index values = key_bytes (entry_values table index values)

-- one key for each index, in order of creation
abbrev pub entries_of : Table → List Value → List (List ℕ)
entries_of table values = map (λ index. entry_key table index values) table.indexes
