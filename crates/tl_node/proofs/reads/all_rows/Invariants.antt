use Rattle.std.proofs.Common.{◌≡◌, ◌++◌}
use Rattle.std.specs.Vec.Iter.{into_iter_items}
use Rattle.tl_node.specs.Saying.{all_rows}
use Rattle.tl_node.proofs.reads.all_rows.Given as goal

-- the rows that are taken, and then those of the reads that are left, are all
abbrev pub invariant-loop-rows : goal.invariant-loop-rows
invariant-loop-rows l = l.all ++ all_rows (into_iter_items l.rows-iterator) ≡ all_rows l.fn.found
