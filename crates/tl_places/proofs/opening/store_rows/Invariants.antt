use Rattle.std.proofs.Common.{◌≡◌, ℕ, List, ◌∷◌, ◌++◌, map}
use Rattle.std.specs.FinMap as finmap
use Rattle.std.specs.List.{AllByRecursion}
use Rattle.tl_values.specs.declared.value.Value.{Value}
use Rattle.tl_versions.specs.Cell.{IsShortRow}
use Rattle.tl_places.specs.Opening.{HaveStored, Stored, commits_cell, row_cell}
use Rattle.tl_places.proofs.opening.store_rows.Given as goal

-- what is stored and what is left are all, and what is left has room in cells
abbrev pub invariant-loop-key : goal.invariant-loop-key
invariant-loop-key l = record {
  stored : List Stored;
  are_stored : HaveStored l.layout.shards stored l.shards.items;
  short : AllByRecursion (λ (e : List ℕ × List Value). IsShortRow e.1) l.key-iterator;
  all : stored ++ map row_cell l.key-iterator ≡ commits_cell ∷ map row_cell (finmap.entries l.rows);
}
