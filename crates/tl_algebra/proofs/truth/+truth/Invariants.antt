use Rattle.std.proofs.Common.{◌≡◌, drop, map}
use Rattle.tl_algebra.specs.declared.condition.Condition.{Condition}
use Rattle.tl_algebra.specs.Truth.{greater, greatest, least, lesser, truth_of}
use Rattle.tl_algebra.proofs.truth.+truth.Given as goal

-- what the conditions so far and those that are left come to is what all come to
abbrev pub invariant-greatest-loop-condition : goal.invariant-greatest-loop-condition
invariant-greatest-loop-condition l =
    greater l.truth (greatest (map (λ (condition : Condition). truth_of condition l.row) (drop l.condition-index l.condition-items)))
    ≡ greatest (map (λ (condition : Condition). truth_of condition l.row) l.conditions)

abbrev pub invariant-least-loop-condition : goal.invariant-least-loop-condition
invariant-least-loop-condition l =
    lesser l.truth (least (map (λ (condition : Condition). truth_of condition l.row) (drop l.condition-index l.condition-items)))
    ≡ least (map (λ (condition : Condition). truth_of condition l.row) l.conditions)
