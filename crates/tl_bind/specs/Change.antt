-- INSERT, UPDATE and DELETE by places.
use Rattle.std.specs.Prelude.{ℕ, ◌+◌, ◌==◌, Bool, false, List, [], ◌∷◌, map, Option, Some, None, position, slice_get}
use Rattle.tl_values.specs.declared.value.Value.{Value}
use Rattle.tl_values.specs.declared.value.Value.TheVariants as value
use Rattle.tl_schema.specs.declared.catalog.Column.{Column}
use Rattle.tl_schema.specs.declared.catalog.Table.{Table}
use Rattle.tl_algebra.specs.declared.edit.Edit.{Edit}
use Rattle.tl_algebra.specs.declared.edit.Edit.TheVariants as edit
use Rattle.tl_algebra.specs.declared.edit.SetColumn.{SetColumn}
use Rattle.tl_grammar.specs.declared.condition.Cond.{Cond}
use Rattle.tl_grammar.specs.declared.name.Name.{Name}
use Rattle.tl_grammar.specs.declared.operand.Literal.{Literal}
use Rattle.tl_grammar.specs.declared.statement.SetItem.{SetItem}
use Rattle.tl_grammar.specs.declared.statement.Tuple.{Tuple}
use Rattle.tl_scope.specs.Scope.{column_place, scope_in}
use Rattle.tl_bind.specs.Condition.{bound_filter}
use Rattle.tl_bind.specs.Expression.{bound_expression}
use Rattle.tl_bind.specs.Select.{number_or_zero}

-- whether the name is that of the column at this place
abbrev pub is_place : ℕ → Option ℕ → Bool
is_place at None = false
is_place at (Some p) = p == at

-- the place in the tuples of the literals for this column
abbrev pub source : List Column → Option (List Name) → ℕ → Option ℕ
source columns None at = Some at
source columns (Some names) at = position (λ (n : Name). is_place at (column_place n.text columns)) names

abbrev pub literal_or_null : Option Literal → Value
literal_or_null None = value.Null
literal_or_null (Some l) = l.value

abbrev pub value_from : List Literal → Option ℕ → Value
value_from values None = value.Null
value_from values (Some at) = literal_or_null (slice_get values at)

-- a row of all columns from this place on; those that aren't named are NULL
abbrev pub row_from : List Column → Option (List Name) → List Literal → ℕ → List Column → List Value
row_from columns named values at [] = []
row_from columns named values at (c ∷ cs) = value_from values (source columns named at) ∷ row_from columns named values (at + 1) cs

abbrev pub row_of : List Column → Option (List Name) → Tuple → List Value
row_of columns named t = row_from columns named t.values 0 columns

abbrev pub insert_of : ℕ → Table → Option (List Name) → List Tuple → Edit
insert_of number table named tuples = edit.Insert number (map (row_of table.columns named) tuples)

abbrev pub set_of : Table → SetItem → SetColumn
set_of table item = record { column = number_or_zero (column_place item.column.text table.columns); value = bound_expression (scope_in table) item.value }

abbrev pub update_of : ℕ → Table → List SetItem → Option Cond → Edit
update_of number table sets filter = edit.Update number (map (set_of table) sets) (bound_filter (scope_in table) filter)

abbrev pub delete_of : ℕ → Table → Option Cond → Edit
delete_of number table filter = edit.Delete number (bound_filter (scope_in table) filter)
