use Rattle.std.proofs.Common.{◌≡◌, ◌≤◌, ◌+◌, length}
use Rattle.std.specs.FinMap as finmap
use Rattle.std.specs.List.{AllByRecursion}
use Rattle.tl_schema.specs.declared.catalog.OpeningRow.{OpeningRow}
use Rattle.tl_isolation.specs.Tables.{HasTable}
use Rattle.tl_places.specs.Opening.{with_rows}
use Rattle.tl_places.proofs.rows.opening_rows.Given as goal

-- there is the table of each row that is left, what is left over the rows so far is all, and no row counts twice
abbrev pub invariant-loop-opening : goal.invariant-loop-opening
invariant-loop-opening l = record {
  tables : AllByRecursion (λ (o : OpeningRow). HasTable l.script.catalog o.table) l.left;
  count : finmap.len l.rows + length l.left ≤ length l.script.rows;
  all : with_rows l.script.catalog l.left l.rows ≡ with_rows l.script.catalog l.script.rows finmap.empty;
}

abbrev pub decreases-loop-opening : goal.decreases-loop-opening
decreases-loop-opening l = length l.left
