use Rattle.std.proofs.Common.{◌≡◌, take}
use Rattle.tl_algebra.proofs.+copy_condition.Given as goal

abbrev pub invariant-copy::copy_conditions-loop-condition : goal.invariant-copy::copy_conditions-loop-condition
invariant-copy::copy_conditions-loop-condition l = l.copies ≡ take l.condition-index l.condition-items
