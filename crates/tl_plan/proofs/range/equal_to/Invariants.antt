use Rattle.std.proofs.Common.{◌≡◌, ◌+◌, drop}
use Rattle.tl_plan.specs.Steps.{first_equal}
use Rattle.tl_plan.proofs.range.equal_to.Given as goal

-- the parts so far test nothing for equality
abbrev pub invariant-loop-part : goal.invariant-loop-part
invariant-loop-part l = first_equal (l.offset + l.column) (drop l.part-index l.parts) ≡ first_equal (l.offset + l.column) l.parts
