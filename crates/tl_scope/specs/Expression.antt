-- The faults of expressions.
use Rattle.std.specs.Prelude.{List, ◌++◌, flat_map, Option, Some}
use Rattle.tl_values.specs.declared.value.Kind.{Kind}
use Rattle.tl_values.specs.declared.value.Kind.TheVariants as type
use Rattle.tl_grammar.specs.declared.expression.Expr.{Expr, out-Expr}
use Rattle.tl_grammar.specs.declared.expression.Expr.TheOpen.{Expr-F}
use Rattle.tl_grammar.specs.declared.expression.Expr.TheOpen as part
use Rattle.tl_grammar.specs.declared.expression.Expr.TheFolds.{fold-Expr}
use Rattle.tl_grammar.specs.declared.operand.Operand.{Operand}
use Rattle.tl_grammar.specs.declared.expression.Step.{Step}
use Rattle.tl_scope.specs.declared.fault.BindKind.TheVariants as kind
use Rattle.tl_scope.specs.declared.fault.BindFault.{BindFault}
use Rattle.tl_scope.specs.Condition.{differ, operand_at, operand_faults, operand_kind}
use Rattle.tl_scope.specs.Fault.{fault_if}
use Rattle.tl_scope.specs.Scope.{Source}

-- of an operand where a number is wanted
abbrev pub number_faults : List Source → Operand → List BindFault
number_faults scope o =
    operand_faults scope o ++ fault_if (differ (operand_kind scope o) (Some type.Int)) (operand_at o) kind.WrongType

abbrev pub step_faults : List (Step (List BindFault)) → List BindFault
step_faults = flat_map (λ (s : Step (List BindFault)). s.of)

-- arithmetic wants numbers, and is one
abbrev pub sum_layer : List Source → Expr-F (List BindFault) → List BindFault
sum_layer scope (part.Operand o) = number_faults scope o
sum_layer scope (part.Chain fs rest) = fs ++ step_faults rest

-- the faults of an expression where a number is wanted
unfoldable pub sum_faults : List Source → Expr → List BindFault
sum_faults scope e = fold-Expr (List BindFault) (sum_layer scope) e

abbrev pub part_faults : List Source → Expr → Expr-F Expr → List BindFault
part_faults scope e (part.Operand o) = operand_faults scope o
part_faults scope e (part.Chain first rest) = sum_faults scope e

-- the faults of an expression that may be of any type
abbrev pub expression_faults : List Source → Expr → List BindFault
expression_faults scope e = part_faults scope e (out-Expr e)

abbrev pub step_sum : List Source → Step Expr → Step (List BindFault)
step_sum scope s = record { by = s.by; of = sum_faults scope s.of }

abbrev pub part_kind : List Source → Expr-F Expr → Option Kind
part_kind scope (part.Operand o) = operand_kind scope o
part_kind scope (part.Chain first rest) = Some type.Int

-- the type of an expression
abbrev pub expression_kind : List Source → Expr → Option Kind
expression_kind scope e = part_kind scope (out-Expr e)
