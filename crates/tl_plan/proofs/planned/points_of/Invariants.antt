use Rattle.std.proofs.Common.{◌≡◌, ◌++◌, drop}
use Rattle.tl_plan.specs.Plan.{points_of}
use Rattle.tl_plan.proofs.planned.points_of.Given as goal

-- the records so far and those of the rows that are left are all
abbrev pub invariant-loop-row : goal.invariant-loop-row
invariant-loop-row l = l.points ++ points_of l.table (drop l.row-index l.rows) ≡ points_of l.table l.rows
