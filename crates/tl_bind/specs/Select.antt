-- A SELECT by places.
use Rattle.std.specs.Prelude.{ℕ, zero, suc, ◌+◌, ◌-◌, ◌^◌, List, [], ◌∷◌, length, map, Option, Some, None, min, position, take}
use Rattle.tl_schema.specs.declared.catalog.Catalog.{Catalog}
use Rattle.tl_schema.specs.declared.catalog.Table.{Table}
use Rattle.tl_algebra.specs.declared.expression.Expression.TheVariants as bound
use Rattle.tl_algebra.specs.declared.query.Join.{Join}
use Rattle.tl_algebra.specs.declared.query.Output.{Output}
use Rattle.tl_algebra.specs.declared.query.Output.TheVariants as output
use Rattle.tl_algebra.specs.declared.query.Query.{Query}
use Rattle.tl_algebra.specs.declared.query.Sort.{Sort}
use Rattle.tl_algebra.specs.declared.query.SortBy.{SortBy}
use Rattle.tl_algebra.specs.declared.query.SortBy.TheVariants as sort
use Rattle.tl_grammar.specs.declared.condition.Cond.{Cond}
use Rattle.tl_grammar.specs.declared.name.ColumnName.{ColumnName}
use Rattle.tl_grammar.specs.declared.select.FromItem.{FromItem}
use Rattle.tl_grammar.specs.declared.select.OrderBy.{OrderBy}
use Rattle.tl_grammar.specs.declared.select.OrderBy.TheVariants as by
use Rattle.tl_grammar.specs.declared.select.OrderItem.{OrderItem}
use Rattle.tl_grammar.specs.declared.select.SelectForm.{SelectForm}
use Rattle.tl_grammar.specs.declared.select.SelectForm.TheVariants as form
use Rattle.tl_grammar.specs.declared.select.SelectItem.{SelectItem}
use Rattle.tl_scope.specs.Scope.{Source, same, scope_of}
use Rattle.tl_bind.specs.Condition.{bound_filter}
use Rattle.tl_bind.specs.Expression.{bound_expression}
use Rattle.tl_bind.specs.Place.{columns_in, place_of}

abbrev pub number_or_zero : Option ℕ → ℕ
number_or_zero None = 0
number_or_zero (Some n) = n

-- the number of the table of this name; one that isn't there is a fault
abbrev pub table_number : Catalog → List ℕ → ℕ
table_number catalog name = number_or_zero (position (λ (t : Table). same t.name name) catalog.tables)

-- the FROM items from the i-th on; ON may name its own item and those before it
abbrev pub joins_from : Catalog → List Source → ℕ → List FromItem → List Join
joins_from catalog scope i [] = []
joins_from catalog scope i (item ∷ items) =
    record { table = table_number catalog item.table.text; on = bound_filter (take (i + 1) scope) item.on } ∷ joins_from catalog scope (i + 1) items

abbrev pub output_of : List Source → SelectForm → Output
output_of scope (form.Expr e) = output.Expression (bound_expression scope e)
output_of scope form.CountRows = output.CountRows
output_of scope (form.Count c) = output.Count (place_of scope c)
output_of scope (form.Sum c) = output.Sum (place_of scope c)
output_of scope (form.Min c) = output.Least (place_of scope c)
output_of scope (form.Max c) = output.Greatest (place_of scope c)

abbrev pub item_output : List Source → SelectItem → Output
item_output scope item = output_of scope item.form

-- so many columns, from this place on
abbrev pub columns_from : ℕ → ℕ → List Output
columns_from at zero = []
columns_from at (suc count) = output.Expression (bound.Place at) ∷ columns_from (at + 1) count

-- `*` shows each column
abbrev pub outputs_of : List Source → Option (List SelectItem) → List Output
outputs_of scope None = columns_from 0 (length (columns_in scope))
outputs_of scope (Some items) = map (item_output scope) items

-- a printed column, which counted from 1
abbrev pub printed_place : ℕ → ℕ
printed_place n = min (n - 1) (2 ^ 32 - 1)

abbrev pub by_of : List Source → OrderBy → SortBy
by_of scope (by.Column c) = sort.Place (place_of scope c)
by_of scope (by.Number at n) = sort.Printed (printed_place n)

abbrev pub sort_of : List Source → OrderItem → Sort
sort_of scope o = record { by = by_of scope o.by; descending = o.descending }

abbrev pub query_of : Catalog → Option (List SelectItem) → List FromItem → Option Cond → List ColumnName → List OrderItem → Option ℕ → Query
query_of catalog items from filter group order limit = record {
  from = joins_from catalog (scope_of catalog from) 0 from;
  filter = bound_filter (scope_of catalog from) filter;
  group = map (place_of (scope_of catalog from)) group;
  outputs = outputs_of (scope_of catalog from) items;
  sort = map (sort_of (scope_of catalog from)) order;
  limit = limit;
}
