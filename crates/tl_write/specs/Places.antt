-- The records of a list of rows, by the place of each in the list.
use Rattle.std.specs.Prelude.{ℕ, ◌<◌, List, [], map, length, slice_index_or}
use Rattle.std.specs.List.{AllByRecursion}
use Rattle.std.specs.FinMap as finmap
use Rattle.tl_values.specs.declared.value.Value.{Value}
use Rattle.tl_write.specs.Own.{key_cmp}
use Rattle.tl_write.specs.Tables.{Tables}

-- a place for each record key that has one
abbrev pub Places : Type 0
Places = finmap.FinMap key_cmp ℕ

abbrev pub row_at : List (List Value) → ℕ → List Value
row_at rows at = slice_index_or rows at []

-- the record of a key and a place
abbrev pub record_at : List (List Value) → List ℕ × ℕ → List ℕ × List Value
record_at rows e = (e.0, row_at rows e.1)

-- the tables that these places in the rows stand for
abbrev pub tables_at : List (List Value) → Places → Tables
tables_at rows places = finmap.from_sorted (map (record_at rows) (finmap.entries places))

-- each place is one in the rows
abbrev pub AreWithin : List (List Value) → List (List ℕ × ℕ) → Type 0
AreWithin rows es = AllByRecursion (λ e. e.1 < length rows) es
