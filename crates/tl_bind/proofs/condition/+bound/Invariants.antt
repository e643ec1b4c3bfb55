use Rattle.std.proofs.Common.{◌≡◌, ◌++◌, drop, map}
use Rattle.std.specs.Prelude.{flat_map}
use Rattle.tl_values.specs.Key.{AreValues}
use Rattle.tl_bind.specs.Condition.{bound_condition, values_in}
use Rattle.tl_bind.proofs.condition.+bound.Given as goal

-- those so far and those that are left, whose literals are all that remain to be seen
abbrev pub invariant-bound_conditions-loop-condition : goal.invariant-bound_conditions-loop-condition
invariant-bound_conditions-loop-condition l = record {
  same : l.bound ++ map (bound_condition l.scope) (drop l.condition-index l.condition-items) ≡ map (bound_condition l.scope) l.conditions;
  values : AreValues (flat_map (λ vs. vs) (map values_in (drop l.condition-index l.condition-items))) → AreValues (flat_map (λ vs. vs) (map values_in l.conditions));
}
