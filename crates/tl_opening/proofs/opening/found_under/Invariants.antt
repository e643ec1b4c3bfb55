use Rattle.std.proofs.Common.{◌≡◌, ◌++◌, drop}
use Rattle.tl_opening.specs.Insert.{found_under}
use Rattle.tl_opening.proofs.opening.found_under.Given as goal

abbrev pub invariant-loop-row : goal.invariant-loop-row
invariant-loop-row l = l.found ++ found_under l.number l.table l.opening (drop l.row-index l.rows) ≡ found_under l.number l.table l.opening l.rows
