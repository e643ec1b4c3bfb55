use Rattle.std.proofs.Common.{◌≡◌, drop}
use Rattle.tl_algebra.specs.Select.{each}
use Rattle.tl_algebra.proofs.Each.{following}
use Rattle.tl_plan.specs.Steps.{equal_in}
use Rattle.tl_plan.proofs.access.point_of.Given as goal

-- the values so far and those of the columns that are left are all
abbrev pub invariant-loop-column : goal.invariant-loop-column
invariant-loop-column l = following l.values (each (equal_in l.offset l.parts) (drop l.column-index l.columns)) ≡ each (equal_in l.offset l.parts) l.columns
