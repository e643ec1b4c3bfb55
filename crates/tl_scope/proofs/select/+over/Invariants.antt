use Rattle.std.proofs.Common.{◌≡◌, Bool, drop, map}
use Rattle.std.specs.List.{list_all}
use Rattle.tl_grammar.specs.declared.expression.Step.{Step}
use Rattle.tl_scope.specs.Select.{step_over}
use Rattle.tl_scope.proofs.select.+over.Given as goal

-- it is so exactly where it is of those that are left
abbrev pub invariant-steps_are_over-loop-step : goal.invariant-steps_are_over-loop-step
invariant-steps_are_over-loop-step l =
    list_all (λ (s : Step Bool). s.of) (map (step_over l.scope l.columns) (drop l.step-index l.step-items))
    ≡ list_all (λ (s : Step Bool). s.of) (map (step_over l.scope l.columns) l.steps)
