-- What the lines stand for.
use Rattle.std.specs.Prelude.{ℤ, true, false, List, [], ◌∷◌, Option}
use Rattle.std.specs.declared.option.Option.TheVariants.{Some, None}
use Rattle.tl_values.specs.declared.value.Comparison.TheVariants as by
use Rattle.tl_values.specs.declared.value.Kind.TheVariants as kind
use Rattle.tl_values.specs.declared.value.Value.{Value}
use Rattle.tl_values.specs.declared.value.Value.TheVariants as value
use Rattle.tl_schema.specs.declared.catalog.OpeningRow.{OpeningRow}
use Rattle.tl_schema.specs.declared.catalog.Table.{Table}
use Rattle.tl_algebra.specs.declared.condition.Condition.{Condition}
use Rattle.tl_algebra.specs.declared.condition.Condition.TheVariants as condition
use Rattle.tl_algebra.specs.declared.condition.Side.TheVariants as side
use Rattle.tl_algebra.specs.declared.edit.Edit.TheVariants as edit
use Rattle.tl_algebra.specs.declared.edit.SetColumn.{SetColumn}
use Rattle.tl_algebra.specs.declared.expression.Expression.TheVariants as expression
use Rattle.tl_algebra.specs.declared.query.Output.TheVariants as output
use Rattle.tl_algebra.specs.declared.query.Query.{Query}
use Rattle.tl_isolation.specs.declared.bound.Bound.{Bound}
use Rattle.tl_isolation.specs.declared.bound.Bound.TheVariants as bound
use Rattle.tl_script.specs.declared.statement.Statement.{Statement}
use Rattle.tl_script.specs.declared.statement.Statement.TheVariants.{Begin, Commit, Rollback, Recover, Insert, SelectAll, Select, Update, Delete}
use Rattle.tl_script.specs.Statement.{Names}

-- two INT columns, of which the first is the primary key
abbrev pub table_of : Names → Table
table_of names =
    record {
      name = names.table;
      columns =
          record { name = names.key; kind = kind.Int; not_null = true } ∷ record { name = names.other; kind = kind.Int; not_null = false } ∷ [];
      key = 0 ∷ [];
      indexes = [];
    }

abbrev pub row_of : ℤ → ℤ → List Value
row_of key other = value.Int key ∷ value.Int other ∷ []

-- a row that the table opens with
abbrev pub opening_row : ℤ → ℤ → OpeningRow
opening_row key other = record { table = 0; row = row_of key other }

-- the key column has this number
abbrev pub key_is : ℤ → Condition
key_is key = condition.Test (side.Place 0) by.Equal (side.Literal (value.Int key))

-- both columns of the table's rows that pass
abbrev pub query_of : Option Condition → Query
query_of filter =
    record {
      from = record { table = 0; on = None } ∷ [];
      filter = filter;
      group = [];
      outputs = output.Expression (expression.Place 0) ∷ output.Expression (expression.Place 1) ∷ [];
      sort = [];
      limit = None;
    }

-- the other column is set to this number
abbrev pub set_other : ℤ → SetColumn
set_other other = record { column = 1; value = expression.Literal (value.Int other) }

abbrev pub bound_of : Statement → Bound
bound_of Begin = bound.Begin
bound_of Commit = bound.Commit
bound_of Rollback = bound.Rollback
bound_of (Recover node) = bound.Recover node
bound_of (Insert key other) = bound.Change (edit.Insert 0 (row_of key other ∷ []))
bound_of SelectAll = bound.Select (query_of None)
bound_of (Select key) = bound.Select (query_of (Some (key_is key)))
bound_of (Update other key) = bound.Change (edit.Update 0 (set_other other ∷ []) (Some (key_is key)))
bound_of (Delete key) = bound.Change (edit.Delete 0 (Some (key_is key)))
