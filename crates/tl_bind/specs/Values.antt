-- The literals of a statement are values as programs have them.
use Rattle.std.specs.Prelude.{List, Option, Some, None}
use Rattle.std.specs.List.{AllByRecursion}
use Rattle.tl_values.specs.Key.{AreValues, IsValue}
use Rattle.tl_grammar.specs.declared.operand.Literal.{Literal}
use Rattle.tl_grammar.specs.declared.select.FromItem.{FromItem}
use Rattle.tl_grammar.specs.declared.select.SelectForm.{SelectForm}
use Rattle.tl_grammar.specs.declared.select.SelectForm.TheVariants as form
use Rattle.tl_grammar.specs.declared.select.SelectItem.{SelectItem}
use Rattle.tl_grammar.specs.declared.statement.SetItem.{SetItem}
use Rattle.tl_grammar.specs.declared.statement.Statement.{Statement}
use Rattle.tl_grammar.specs.declared.statement.Statement.TheVariants as statement
use Rattle.tl_grammar.specs.declared.statement.Tuple.{Tuple}
use Rattle.tl_bind.specs.Condition.{filter_values}
use Rattle.tl_bind.specs.Expression.{values_in}

abbrev pub LiteralHasValue : Literal → Type 0
LiteralHasValue l = IsValue l.value

abbrev pub TupleHasValues : Tuple → Type 0
TupleHasValues t = AllByRecursion LiteralHasValue t.values

abbrev pub SetHasValues : SetItem → Type 0
SetHasValues item = AreValues (values_in item.value)

abbrev pub FormHasValues : SelectForm → Type 0
FormHasValues (form.Expr e) = AreValues (values_in e)
FormHasValues form.CountRows = Unit {0}
FormHasValues (form.Count c) = Unit {0}
FormHasValues (form.Sum c) = Unit {0}
FormHasValues (form.Min c) = Unit {0}
FormHasValues (form.Max c) = Unit {0}

abbrev pub ItemHasValues : SelectItem → Type 0
ItemHasValues item = FormHasValues item.form

abbrev pub ItemsHaveValues : Option (List SelectItem) → Type 0
ItemsHaveValues None = Unit {0}
ItemsHaveValues (Some items) = AllByRecursion ItemHasValues items

abbrev pub JoinHasValues : FromItem → Type 0
JoinHasValues item = AreValues (filter_values item.on)

-- each literal of the statement is one
abbrev pub HasValues : Statement → Type 0
HasValues (statement.CreateTable name columns key) = Unit {0}
HasValues (statement.CreateIndex name table columns) = Unit {0}
HasValues (statement.Insert table columns tuples) = AllByRecursion TupleHasValues tuples
HasValues (statement.Update table sets filter) = AllByRecursion SetHasValues sets × AreValues (filter_values filter)
HasValues (statement.Delete table filter) = AreValues (filter_values filter)
HasValues (statement.Select items from filter group order limit) = ItemsHaveValues items × AllByRecursion JoinHasValues from × AreValues (filter_values filter)
HasValues statement.Begin = Unit {0}
HasValues statement.Commit = Unit {0}
HasValues statement.Rollback = Unit {0}
HasValues (statement.Recover node) = Unit {0}
