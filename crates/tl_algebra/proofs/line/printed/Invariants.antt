use Rattle.std.proofs.Common.{◌≡◌, drop}
use Rattle.tl_algebra.specs.Select.{each, item}
use Rattle.tl_algebra.proofs.Each.{following}
use Rattle.tl_algebra.proofs.line.printed.Given as goal

-- the items so far and those that are left are all
abbrev pub invariant-loop-output : goal.invariant-loop-output
invariant-loop-output l = following l.printed (each (item l.rows) (drop l.output-index l.output-items)) ≡ each (item l.rows) l.outputs
