use Rattle.std.proofs.Common.{◌≡◌, take}
use Rattle.tl_algebra.proofs.+copy_expression.Given as goal

abbrev pub invariant-copy::copy_steps-loop-step : goal.invariant-copy::copy_steps-loop-step
invariant-copy::copy_steps-loop-step l = l.copies ≡ take l.step-index l.step-items
