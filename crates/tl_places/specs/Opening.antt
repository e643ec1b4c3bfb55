-- How the store opens: which cells its shards have stored.
use Rattle.std.specs.Prelude.{◌≡◌, ℕ, ◌<◌, ◌==◌, List, [], ◌∷◌, Some, length, slice_get, filter, map}
use Rattle.std.specs.FinMap as finmap
use Rattle.tl_cells.specs.Cells.{ShardState, cell_under, greatest}
use Rattle.tl_cells.specs.Place.{shard_of_key}
use Rattle.tl_cells.specs.Serves.{Call}
use Rattle.tl_descriptor.specs.Reading as sets
use Rattle.tl_manager.specs.State.{ManagerState, opening_copy}
use Rattle.tl_schema.specs.declared.catalog.Catalog.{Catalog}
use Rattle.tl_schema.specs.declared.catalog.OpeningRow.{OpeningRow}
use Rattle.tl_schema.specs.Record.{record_key}
use Rattle.tl_values.specs.declared.value.Value.{Value}
use Rattle.tl_versions.specs.Cell as cells
use Rattle.tl_write.specs.declared.write.Write.{Write}
use Rattle.tl_write.specs.Tables.{Tables}
use Rattle.tl_isolation.specs.Tables.{table_of}
use Rattle.tl_journal.specs.Bytes.{commits_key}
use Rattle.tl_journal.specs.Journal.{stores_from}
use Rattle.tl_places.specs.Places.{ManagerHasServed, ShardHasServed}

-- the key and the bytes of a cell
abbrev pub Stored : Type 0
Stored = List ℕ × List ℕ

abbrev pub commits_cell : Stored
commits_cell = (commits_key, sets.spelling opening_copy)

-- the cell of a row that was there before the first transaction
abbrev pub row_cell : List ℕ × List Value → Stored
row_cell e = (e.0, cells.spelling (record { tid = 0; row = Some e.1 } ∷ []))

-- the calls of a shard at which these cells were stored, as far as they live there
abbrev pub stores_at : ℕ → List Stored → ℕ → List Call
stores_at count stored shard = stores_from 0 (filter (λ c. shard_of_key c.0 count == shard) stored)

-- so many shards have stored these cells, and done nothing else
pub record HaveStored (count : ℕ) (stored : List Stored) (shards : List ShardState) : Type 0 where
  pub shard_count : length shards ≡ count
  pub each : (s : ℕ) (state : ShardState) → slice_get shards s ≡ Some state → ShardHasServed (stores_at count stored s) state

-- a shard has no cell under this key, and a stamp for it
pub record HasRoom (key : List ℕ) (state : ShardState) : Type 0 where
  pub absent : (cell_under key state.cells).stamp ≡ 0
  pub stamps : state.last < greatest

-- so has the one where the key lives, of so many shards
abbrev pub HaveRoom : ℕ → List ℕ → List ShardState → Type 0
HaveRoom count key shards = (state : ShardState) → slice_get shards (shard_of_key key count) ≡ Some state → HasRoom key state

-- a row takes its place by its record key, where one of that key stood before too
abbrev pub with_row : Catalog → OpeningRow → Tables → Tables
with_row catalog o rows = finmap.insert rows (record_key o.table (table_of catalog o.table) o.row) o.row

-- the last of these rows takes its place, and then those before it
abbrev pub with_rows : Catalog → List OpeningRow → Tables → Tables
with_rows catalog [] rows = rows
with_rows catalog (o ∷ os) rows = with_row catalog o (with_rows catalog os rows)

-- the rows by their record keys, as writes
abbrev pub row_writes : Tables → List Write
row_writes rows = map (λ (e : List ℕ × List Value). record { key = e.0; row = Some e.1 }) (finmap.entries rows)

-- so many managers have served nothing
pub record AreNew (count : ℕ) (managers : List ManagerState) : Type 0 where
  pub manager_count : length managers ≡ count
  pub each : (m : ℕ) (state : ManagerState) → slice_get managers m ≡ Some state → ManagerHasServed [] state
