-- Expressions by places.
use Rattle.std.specs.Prelude.{List, ◌++◌, flat_map, map}
use Rattle.tl_values.specs.declared.value.Value.{Value}
use Rattle.tl_algebra.specs.declared.expression.Expression.{Expression}
use Rattle.tl_algebra.specs.declared.expression.Expression.TheVariants as bound
use Rattle.tl_algebra.specs.declared.expression.Operator.TheVariants as by
use Rattle.tl_algebra.specs.declared.expression.Operator as algebra
use Rattle.tl_algebra.specs.declared.expression.Step as algebra_step
use Rattle.tl_grammar.specs.declared.expression.Expr.{Expr}
use Rattle.tl_grammar.specs.declared.expression.Expr.TheOpen.{Expr-F}
use Rattle.tl_grammar.specs.declared.expression.Expr.TheOpen as layer
use Rattle.tl_grammar.specs.declared.expression.Expr.TheFolds.{fold-Expr}
use Rattle.tl_grammar.specs.declared.expression.Operator.{Operator}
use Rattle.tl_grammar.specs.declared.expression.Operator.TheVariants as operator
use Rattle.tl_grammar.specs.declared.expression.Step.{Step}
use Rattle.tl_grammar.specs.declared.operand.Operand.{Operand}
use Rattle.tl_grammar.specs.declared.operand.Operand.TheVariants as operand
use Rattle.tl_scope.specs.Scope.{Source}
use Rattle.tl_bind.specs.Condition.{operand_values}
use Rattle.tl_bind.specs.Place.{place_of}

abbrev pub operator_of : Operator → algebra.Operator
operator_of operator.Add = by.Add
operator_of operator.Subtract = by.Subtract
operator_of operator.Multiply = by.Multiply

abbrev pub bound_operand : List Source → Operand → Expression
bound_operand scope (operand.Column c) = bound.Place (place_of scope c)
bound_operand scope (operand.Literal l) = bound.Literal l.value

abbrev pub step_of : Step Expression → algebra_step.Step Expression
step_of s = record { by = operator_of s.by; of = s.of }

abbrev pub bound_layer : List Source → Expr-F Expression → Expression
bound_layer scope (layer.Operand o) = bound_operand scope o
bound_layer scope (layer.Chain first rest) = bound.Chain first (map step_of rest)

unfoldable pub bound_expression : List Source → Expr → Expression
bound_expression scope e = fold-Expr Expression (bound_layer scope) e

abbrev pub bound_step : List Source → Step Expr → algebra_step.Step Expression
bound_step scope s = record { by = operator_of s.by; of = bound_expression scope s.of }

abbrev pub step_values : List (Step (List Value)) → List Value
step_values = flat_map (λ (s : Step (List Value)). s.of)

abbrev pub values_layer : Expr-F (List Value) → List Value
values_layer (layer.Operand o) = operand_values o
values_layer (layer.Chain vs rest) = vs ++ step_values rest

-- the literals of an expression
unfoldable pub values_in : Expr → List Value
values_in e = fold-Expr (List Value) values_layer e

abbrev pub values_of_step : Step Expr → Step (List Value)
values_of_step s = record { by = s.by; of = values_in s.of }
