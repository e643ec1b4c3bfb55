use Rattle.std.proofs.Common.{◌≡◌, ◌++◌, drop, map}
use Rattle.tl_values.specs.Key.{AreValues}
use Rattle.tl_bind.specs.Expression.{bound_step, step_values, values_of_step}
use Rattle.tl_bind.proofs.expression.+bound.Given as goal

-- those so far and those that are left, whose literals are all that remain to be seen
abbrev pub invariant-bound_steps-loop-step : goal.invariant-bound_steps-loop-step
invariant-bound_steps-loop-step l = record {
  same : l.bound ++ map (bound_step l.scope) (drop l.step-index l.step-items) ≡ map (bound_step l.scope) l.steps;
  values : AreValues (step_values (map values_of_step (drop l.step-index l.step-items))) → AreValues (step_values (map values_of_step l.steps));
}
