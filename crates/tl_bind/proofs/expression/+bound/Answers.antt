use Rattle.std.proofs.Common.{List, map, ap, sym, subst, ◌∙◌}
use Rattle.tl_values.specs.Key.{AreValues}
use Rattle.tl_algebra.specs.declared.expression.Expression.{Expression}
use Rattle.tl_algebra.specs.declared.expression.Expression.TheVariants as bound
use Rattle.tl_algebra.specs.declared.expression.Step.{Step}
use Rattle.tl_grammar.specs.declared.expression.Expr.{Expr}
use Rattle.tl_bind.specs.Expression.{bound_expression, step_values, values_in, values_of_step}
use Rattle.tl_bind.proofs.Chains.{bound_of_chain, values_of_chain}
use Rattle.tl_bind.proofs.Values.{values_append}
use Rattle.tl_bind.proofs.expression.+bound.Goals as goal

pub bound_expression-returns-in_ok-rest-in-Chain-clause-same :
    goal.bound_expression-returns-in_ok-rest-in-Chain-clause-same
bound_expression-returns-in_ok-rest-in-Chain-clause-same t c =
    let scope = c.args.scope.now in
    ap (λ (e : Expression). bound.Chain e c.in_ok-rest-in-Chain.rest)
    (c.in_ok-first-in-Chain-2.ensures ∙ c.in_ok-first-in-Chain.ensures.same ∙ ap (bound_expression scope) c.get.ensures)
    ∙ ap (λ (steps : List (Step Expression)). bound.Chain (bound_expression scope c.in-Chain.first) steps) c.in_ok-rest-in-Chain.ensures.same
    ∙ sym (bound_of_chain scope c.args.expression.now c.in-Chain.first c.in-Chain.rest c.in-Chain.is)

pub bound_expression-returns-in_ok-rest-in-Chain-clause-values :
    goal.bound_expression-returns-in_ok-rest-in-Chain-clause-values
bound_expression-returns-in_ok-rest-in-Chain-clause-values t c =
    subst AreValues (sym (values_of_chain c.args.expression.now c.in-Chain.first c.in-Chain.rest c.in-Chain.is))
    (values_append (values_in c.in-Chain.first) (step_values (map values_of_step c.in-Chain.rest))
    (subst (λ (e : Expr). AreValues (values_in e)) c.get.ensures c.in_ok-first-in-Chain.ensures.values)
    c.in_ok-rest-in-Chain.ensures.values)
