use Rattle.std.proofs.Common.{◌≡◌, drop, map}
use Rattle.tl_scope.specs.Condition.{all_of, condition_faults}
use Rattle.tl_scope.specs.Fault.{earliest, least}
use Rattle.tl_scope.proofs.condition.+conditions.Given as goal

-- the first so far and of those that are left
abbrev pub invariant-conditions_fault-loop-condition : goal.invariant-conditions_fault-loop-condition
invariant-conditions_fault-loop-condition l =
    earliest l.fault (least (all_of (map (condition_faults l.scope) (drop l.condition-index l.condition-items))))
    ≡ least (all_of (map (condition_faults l.scope) l.conditions))
