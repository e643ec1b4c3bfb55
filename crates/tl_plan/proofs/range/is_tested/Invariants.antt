use Rattle.std.proofs.Common.{◌≡◌, ◌+◌, drop, filter_map}
use Rattle.tl_plan.specs.Access.{test_of}
use Rattle.tl_plan.specs.Steps.{are_some}
use Rattle.tl_plan.proofs.range.is_tested.Given as goal

-- the parts so far test nothing
abbrev pub invariant-loop-part : goal.invariant-loop-part
invariant-loop-part l = are_some (filter_map (test_of (l.offset + l.column)) (drop l.part-index l.parts)) ≡ are_some (filter_map (test_of (l.offset + l.column)) l.parts)
