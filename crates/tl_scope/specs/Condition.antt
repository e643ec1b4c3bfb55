-- The faults of conditions.
use Rattle.std.specs.Prelude.{ℕ, Bool, true, false, not, List, [], ◌++◌, flat_map, Option, Some, None}
use Rattle.tl_values.specs.declared.value.Kind.{Kind}
use Rattle.tl_values.specs.declared.value.Kind.TheVariants as type
use Rattle.tl_values.specs.declared.value.Value.{Value}
use Rattle.tl_values.specs.declared.value.Value.TheVariants as value
use Rattle.tl_grammar.specs.declared.condition.Cond.{Cond}
use Rattle.tl_grammar.specs.declared.condition.Cond.TheOpen.{Cond-F}
use Rattle.tl_grammar.specs.declared.condition.Cond.TheOpen as layer
use Rattle.tl_grammar.specs.declared.condition.Cond.TheFolds.{fold-Cond}
use Rattle.tl_grammar.specs.declared.operand.Operand.{Operand}
use Rattle.tl_grammar.specs.declared.operand.Operand.TheVariants.{Column, Literal}
use Rattle.tl_scope.specs.declared.fault.BindKind.TheVariants as kind
use Rattle.tl_scope.specs.declared.fault.BindFault.{BindFault}
use Rattle.tl_scope.specs.Fault.{fault_if}
use Rattle.tl_scope.specs.Scope.{Source, column_at, column_faults, column_found, kind_of}

-- NULL has every type
abbrev pub value_kind : Value → Option Kind
value_kind value.Null = None
value_kind (value.Bool b) = Some type.Bool
value_kind (value.Int n) = Some type.Int
value_kind (value.Text t) = Some type.Text

abbrev pub same_kind : Kind → Kind → Bool
same_kind type.Int type.Int = true
same_kind type.Text type.Text = true
same_kind type.Bool type.Bool = true
same_kind a b = false

-- two types that differ
abbrev pub differ : Option Kind → Option Kind → Bool
differ None b = false
differ (Some a) None = false
differ (Some a) (Some b) = not (same_kind a b)

abbrev pub operand_kind : List Source → Operand → Option Kind
operand_kind scope (Column c) = kind_of (column_found scope c)
operand_kind scope (Literal l) = value_kind l.value

abbrev pub operand_at : Operand → ℕ
operand_at (Column c) = column_at c
operand_at (Literal l) = l.at

abbrev pub operand_faults : List Source → Operand → List BindFault
operand_faults scope (Column c) = column_faults scope c
operand_faults scope (Literal l) = []

-- of a comparison: those of its sides, and sides of different types
abbrev pub test_faults : List Source → Operand → Operand → List BindFault
test_faults scope a b =
    operand_faults scope a ++ operand_faults scope b
    ++ fault_if (differ (operand_kind scope a) (operand_kind scope b)) (operand_at a) kind.WrongType

abbrev pub all_of : List (List BindFault) → List BindFault
all_of = flat_map (λ fs. fs)

abbrev pub condition_layer : List Source → Cond-F (List BindFault) → List BindFault
condition_layer scope (layer.Test a by b) = test_faults scope a b
condition_layer scope (layer.IsNull a negated) = operand_faults scope a
condition_layer scope (layer.Not fs) = fs
condition_layer scope (layer.All fss) = all_of fss
condition_layer scope (layer.Any fss) = all_of fss

unfoldable pub condition_faults : List Source → Cond → List BindFault
condition_faults scope c = fold-Cond (List BindFault) (condition_layer scope) c

-- the faults of ON or WHERE, where it is written
abbrev pub filter_faults : List Source → Option Cond → List BindFault
filter_faults scope None = []
filter_faults scope (Some c) = condition_faults scope c
