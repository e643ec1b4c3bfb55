-- Reading a record cell from left to right.
use Rattle.std.specs.Prelude.{ℕ, zero, suc, List, [], ◌∷◌, Option, Some, None, if◌then◌else◌}
use Rattle.std.specs.Int.{w16, w32, w64}
use Rattle.tl_codec.specs.Reading.{◌>>=◌, read_many, read_number, read_span}
use Rattle.tl_values.specs.declared.value.Value.{Value}
use Rattle.tl_schema.specs.Reading.{read_row}
use Rattle.tl_versions.specs.declared.version.Version.{Version}
use Rattle.tl_versions.specs.Versions.{are_distinct}

-- a row behind the number of its bytes
unfoldable pub read_present : List ℕ → Option (Option (List Value) × List ℕ)
read_present bytes = do
  count ← read_number w16 bytes
  text ← read_span count.0 count.1
  row ← read_row text.0
  Some (Some row, text.1)

-- 0 for a deletion, 1 before a row
unfoldable pub read_change : List ℕ → Option (Option (List Value) × List ℕ)
read_change [] = None
read_change (zero ∷ rest) = Some (None, rest)
read_change (suc zero ∷ rest) = read_present rest
read_change (suc (suc byte) ∷ rest) = None

unfoldable pub read_version : List ℕ → Option (Version × List ℕ)
read_version bytes = do
  tid ← read_number w64 bytes
  change ← read_change tid.1
  Some (record { tid = tid.0; row = change.0 }, change.1)

-- the versions, where nothing is left behind them and no two have the same tid
abbrev pub distinct_versions : List Version × List ℕ → Option (List Version)
distinct_versions (versions, []) = if are_distinct versions then Some versions else None
distinct_versions (versions, byte ∷ rest) = None

-- all of the bytes after the first one
unfoldable pub read_versions : List ℕ → Option (List Version)
read_versions bytes = do
  count ← read_number w32 bytes
  versions ← read_many read_version count.0 count.1
  distinct_versions versions

-- no bytes at all are no versions; else the first byte is 1
unfoldable pub read_cell : List ℕ → Option (List Version)
read_cell [] = Some []
read_cell (zero ∷ rest) = None
read_cell (suc zero ∷ rest) = read_versions rest
read_cell (suc (suc byte) ∷ rest) = None
