use Rattle.std.proofs.Common.{◌≡◌, ◌++◌, drop, map, take}
use Rattle.std.specs.List.{AllByRecursion}
use Rattle.tl_bind.specs.Change.{row_of}
use Rattle.tl_bind.specs.Values.{TupleHasValues}
use Rattle.tl_bind.proofs.change.rows_of.Given as goal

-- those so far and those that are left, and the literals so far
abbrev pub invariant-loop-tuple : goal.invariant-loop-tuple
invariant-loop-tuple l = record {
  same : l.rows ++ map (row_of l.columns l.named) (drop l.tuple-index l.tuple-items) ≡ map (row_of l.columns l.named) l.tuples;
  values : AllByRecursion TupleHasValues (take l.tuple-index l.tuple-items);
}
