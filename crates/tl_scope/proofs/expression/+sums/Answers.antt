use Rattle.std.proofs.Common.{List, ap, sym, ◌∙◌, map}
use Rattle.tl_grammar.specs.declared.expression.Expr.{Expr}
use Rattle.tl_grammar.specs.declared.expression.Step.{Step}
use Rattle.tl_scope.specs.declared.fault.BindFault.{BindFault}
use Rattle.tl_scope.specs.Expression.{step_faults, step_sum, sum_faults}
use Rattle.tl_scope.specs.Fault.{earliest, least}
use Rattle.tl_scope.proofs.Chains.{sum_of_chain}
use Rattle.tl_scope.proofs.Faults.{joined, loop_next}
use Rattle.tl_scope.proofs.expression.+sums.Goals as goal

pub steps_fault-loop-step-preserved : goal.steps_fault-loop-step-preserved
steps_fault-loop-step-preserved t c =
    let l = c.loop-step in
    loop_next (λ (s : Step (List BindFault)). s.of) (step_sum c.args.scope.now) l.fault c.earliest-fault.result
    c.as_slice-step-items.result.now l.step-index c.step-item.result c.loop-step-test.true c.step-item.is
    (c.earliest-fault.ensures ∙ ap (earliest l.fault) c.sum_fault.ensures)
    ∙ l.invariant

pub sum_fault-returns-in-Chain : goal.sum_fault-returns-in-Chain
sum_fault-returns-in-Chain t c =
    let scope = c.args.scope.now in
    joined c.earliest.result c.sum_fault-fault.result c.steps_fault.result (sum_faults scope c.in-Chain.first) (step_faults (map (step_sum scope) c.in-Chain.rest)) c.earliest.ensures
    (c.sum_fault-fault.ensures ∙ ap (λ (e : Expr). least (sum_faults scope e)) c.get.ensures) c.steps_fault.ensures
    ∙ ap least (sym (sum_of_chain scope c.args.expression.now c.in-Chain.first c.in-Chain.rest c.in-Chain.is))
