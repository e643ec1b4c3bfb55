use Rattle.std.proofs.Common.{Option, Some, ap, map, subst, sym, ◌∙◌}
use Rattle.std.proofs.lemmas.Result.{err_from_is_err_and}
use Rattle.tl_values.specs.declared.value.Value.{Value}
use Rattle.tl_algebra.specs.declared.expression.Expression.{Expression}
use Rattle.tl_algebra.specs.Value.{Fails, chained, stepped, value_of}
use Rattle.tl_algebra.specs.Steps.{step_value}
use Rattle.tl_algebra.proofs.Chains.{chained_fault, stepped_fault, value_of_chain}
use Rattle.tl_algebra.proofs.LinesOn.{chain_stops}
use Rattle.tl_algebra.proofs.value.+value.Goals as goal

pub chained-returns-in_err-next : goal.chained-returns-in_err-next
chained-returns-in_err-next t c =
    let p = err_from_is_err_and c.from_residual.result c.from_residual.ensures.1 in
    let e = c.in_err-next.field-0.0 in
    let l = c.loop-step in
    rw (p.1, p.2) (subst (λ (o : Option Value). Fails e o) l.invariant
    (chain_stops e l.value c.as_slice-step-items.result.now c.args.row.now l.step-index c.step-item.result c.loop-step-test.true c.step-item.is
    (stepped_fault e l.value c.step-item.result.by _ c.in_err-next.ensures)))

pub chained-returns-in_err-value : goal.chained-returns-in_err-value
chained-returns-in_err-value t c =
    let p = err_from_is_err_and c.from_residual-in_err-value.result c.from_residual-in_err-value.ensures.1 in
    let e = c.in_err-value.field-0.0 in
    let l = c.loop-step in
    rw (p.1, p.2) (subst (λ (o : Option Value). Fails e o) l.invariant
    (chain_stops e l.value c.as_slice-step-items.result.now c.args.row.now l.step-index c.step-item.result c.loop-step-test.true c.step-item.is
    (subst (λ (o : Option Value). Fails e (stepped (Some l.value) c.step-item.result.by o)) (sym c.in_ok-next.ensures) c.in_err-value.ensures)))

pub value_of-returns-in_err-value-in-Chain : goal.value_of-returns-in_err-value-in-Chain
value_of-returns-in_err-value-in-Chain t c =
    let p = err_from_is_err_and c.from_residual-in_err-value-in-Chain.result c.from_residual-in_err-value-in-Chain.ensures.1 in
    let e = c.in_err-value-in-Chain.field-0.0 in
    rw (p.1, p.2) (subst (λ (o : Option Value). Fails e o) (sym (value_of_chain c.args.expression.now c.args.row.now c.in-Chain.first c.in-Chain.rest c.in-Chain.is ∙ ap (λ (first : Expression). chained (value_of first c.args.row.now) (map (step_value c.args.row.now) c.in-Chain.rest)) (sym c.get.ensures)))
    (chained_fault e (value_of c.get.result.now c.args.row.now) (map (step_value c.args.row.now) c.in-Chain.rest) c.in_err-value-in-Chain.ensures))
