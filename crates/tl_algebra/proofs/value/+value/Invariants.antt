use Rattle.std.proofs.Common.{◌≡◌, Some, drop, map}
use Rattle.tl_algebra.specs.Value.{chained}
use Rattle.tl_algebra.specs.Steps.{step_value}
use Rattle.tl_algebra.proofs.value.+value.Given as goal

-- what is left of the chain, from the value so far, is the whole
abbrev pub invariant-chained-loop-step : goal.invariant-chained-loop-step
invariant-chained-loop-step l =
    chained (Some l.value) (map (step_value l.row) (drop l.step-index l.step-items)) ≡ chained (Some l.fn.first) (map (step_value l.row) l.steps)
