-- Which entries of an index the versions of a record have.
use Rattle.std.specs.Prelude.{ℕ, Bool, false, List, Option, Some, None, nat_eq, slice_get}
use Rattle.std.specs.List.{list_any}
use Rattle.std.specs.Cmp.Lexicographic.{pointwise}
use Rattle.tl_values.specs.declared.value.Value.{Value}
use Rattle.tl_schema.specs.declared.catalog.Index.{Index}
use Rattle.tl_schema.specs.declared.catalog.Table.{Table}
use Rattle.tl_schema.specs.Record.{entry_key}
use Rattle.tl_versions.specs.declared.version.Version.{Version}

-- the row's entry in the index has this key
abbrev pub has_entry : Table → Index → List ℕ → Option (List Value) → Bool
has_entry table index key None = false
has_entry table index key (Some row) = pointwise nat_eq (entry_key table index row) key

-- some version's row has an entry of this key in the index
abbrev pub bears_at : Table → Option Index → List ℕ → List Version → Bool
bears_at table None key versions = false
bears_at table (Some index) key versions = list_any (λ version. has_entry table index key version.row) versions

-- the same in the index of this number
abbrev pub bears : Table → ℕ → List ℕ → List Version → Bool
bears table index key versions = bears_at table (slice_get table.indexes index) key versions
