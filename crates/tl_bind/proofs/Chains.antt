-- A chain is bound to the chain of its bound parts, and its literals are those of its parts.
use Rattle.std.proofs.Common.{◌≡◌, List, [], ◌∷◌, ◌++◌, map, refl, ap, ◌∙◌}
use Rattle.tl_values.specs.declared.value.Value.{Value}
use Rattle.tl_algebra.specs.declared.expression.Expression.{Expression}
use Rattle.tl_algebra.specs.declared.expression.Expression.TheVariants as bound
use Rattle.tl_algebra.specs.declared.expression.Step as algebra_step
use Rattle.tl_grammar.specs.declared.expression.Expr.{Expr, out-Expr}
use Rattle.tl_grammar.specs.declared.expression.Expr.TheOpen.{Expr-F}
use Rattle.tl_grammar.specs.declared.expression.Expr.TheVariants as expr
use Rattle.tl_grammar.specs.declared.expression.Expr.TheVariants.{outs-Chain}
use Rattle.tl_grammar.specs.declared.expression.Expr.TheFolds.{fold-Expr, fold_out-Expr, map-Expr}
use Rattle.tl_grammar.specs.declared.expression.Step.{Step}
use Rattle.tl_scope.specs.Scope.{Source}
use Rattle.tl_bind.specs.Expression.{bound_expression, bound_layer, bound_step, step_of, step_values, values_in, values_layer, values_of_step, operator_of}

steps_at_once : (f : Expr → Expression) (rest : List (Step Expr)) → map step_of (map (λ (s : Step Expr). record { by = s.by; of = f s.of }) rest) ≡ map (λ (s : Step Expr). record { by = operator_of s.by; of = f s.of }) rest
steps_at_once f [] = refl
steps_at_once f (s ∷ rest) = ap (λ (l : List (algebra_step.Step Expression)). record { by = operator_of s.by; of = f s.of } ∷ l) (steps_at_once f rest)

pub bound_of_chain : (scope : List Source) (x first : Expr) (rest : List (Step Expr)) → x ≡ expr.Chain first rest →
    bound_expression scope x ≡ bound.Chain (bound_expression scope first) (map (bound_step scope) rest)
unfolding bound_expression
bound_of_chain scope x first rest e =
    fold_out-Expr Expression (bound_layer scope) x
    ∙ ap (λ (l : Expr-F Expr). bound_layer scope (map-Expr Expr Expression (fold-Expr Expression (bound_layer scope)) l)) (ap out-Expr e ∙ outs-Chain first rest)
    ∙ ap (λ (l : List (algebra_step.Step Expression)). bound.Chain (fold-Expr Expression (bound_layer scope) first) l) (steps_at_once (fold-Expr Expression (bound_layer scope)) rest)

pub values_of_chain : (x first : Expr) (rest : List (Step Expr)) → x ≡ expr.Chain first rest → values_in x ≡ values_in first ++ step_values (map values_of_step rest)
unfolding values_in
values_of_chain x first rest e =
    fold_out-Expr (List Value) values_layer x
    ∙ ap (λ (l : Expr-F Expr). values_layer (map-Expr Expr (List Value) (fold-Expr (List Value) values_layer) l)) (ap out-Expr e ∙ outs-Chain first rest)
