use Rattle.std.proofs.Common.{◌≡◌, drop, map}
use Rattle.tl_scope.specs.Expression.{step_faults, step_sum}
use Rattle.tl_scope.specs.Fault.{earliest, least}
use Rattle.tl_scope.proofs.expression.+sums.Given as goal

-- the first so far and of those that are left
abbrev pub invariant-steps_fault-loop-step : goal.invariant-steps_fault-loop-step
invariant-steps_fault-loop-step l =
    earliest l.fault (least (step_faults (map (step_sum l.scope) (drop l.step-index l.step-items))))
    ≡ least (step_faults (map (step_sum l.scope) l.steps))
