-- The faults of a chain are those of its parts.
use Rattle.std.proofs.Common.{◌≡◌, List, ◌++◌, map, ap, ◌∙◌}
use Rattle.tl_grammar.specs.declared.expression.Expr.{Expr, out-Expr}
use Rattle.tl_grammar.specs.declared.expression.Expr.TheOpen.{Expr-F}
use Rattle.tl_grammar.specs.declared.expression.Expr.TheVariants as expr
use Rattle.tl_grammar.specs.declared.expression.Expr.TheVariants.{outs-Chain}
use Rattle.tl_grammar.specs.declared.expression.Expr.TheFolds.{fold-Expr, fold_out-Expr, map-Expr}
use Rattle.tl_grammar.specs.declared.expression.Step.{Step}
use Rattle.tl_scope.specs.declared.fault.BindFault.{BindFault}
use Rattle.tl_scope.specs.Expression.{step_faults, step_sum, sum_faults, sum_layer}
use Rattle.tl_scope.specs.Scope.{Source}

pub sum_of_chain : (scope : List Source) (x first : Expr) (rest : List (Step Expr)) → x ≡ expr.Chain first rest →
    sum_faults scope x ≡ sum_faults scope first ++ step_faults (map (step_sum scope) rest)
unfolding sum_faults
sum_of_chain scope x first rest e =
    fold_out-Expr (List BindFault) (sum_layer scope) x
    ∙ ap (λ (l : Expr-F Expr). sum_layer scope (map-Expr Expr (List BindFault) (fold-Expr (List BindFault) (sum_layer scope)) l)) (ap out-Expr e ∙ outs-Chain first rest)
