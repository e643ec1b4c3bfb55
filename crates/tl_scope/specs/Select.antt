-- The faults of a SELECT.
use Rattle.std.specs.Prelude.{ℕ, ◌+◌, ◌==◌, Bool, true, false, not, ◌&&◌, ◌||◌, List, [], ◌∷◌, ◌++◌, flat_map, length, map, Option, Some, None, nat_lt, take}
use Rattle.std.specs.List.{list_all, list_any}
use Rattle.tl_values.specs.declared.value.Kind.TheVariants as type
use Rattle.tl_schema.specs.declared.catalog.Catalog.{Catalog}
use Rattle.tl_schema.specs.declared.catalog.Column.{Column}
use Rattle.tl_grammar.specs.declared.condition.Cond.{Cond}
use Rattle.tl_grammar.specs.declared.expression.Expr.{Expr}
use Rattle.tl_grammar.specs.declared.expression.Expr.TheOpen.{Expr-F}
use Rattle.tl_grammar.specs.declared.expression.Expr.TheOpen as part
use Rattle.tl_grammar.specs.declared.expression.Expr.TheFolds.{fold-Expr}
use Rattle.tl_grammar.specs.declared.expression.Step.{Step}
use Rattle.tl_grammar.specs.declared.name.ColumnName.{ColumnName}
use Rattle.tl_grammar.specs.declared.operand.Operand.{Operand}
use Rattle.tl_grammar.specs.declared.operand.Operand.TheVariants as operand
use Rattle.tl_grammar.specs.declared.select.FromItem.{FromItem}
use Rattle.tl_grammar.specs.declared.select.OrderBy.{OrderBy}
use Rattle.tl_grammar.specs.declared.select.OrderBy.TheVariants as by
use Rattle.tl_grammar.specs.declared.select.OrderItem.{OrderItem}
use Rattle.tl_grammar.specs.declared.select.SelectForm.{SelectForm}
use Rattle.tl_grammar.specs.declared.select.SelectForm.TheVariants as form
use Rattle.tl_grammar.specs.declared.select.SelectItem.{SelectItem}
use Rattle.tl_scope.specs.declared.fault.BindKind.TheVariants as kind
use Rattle.tl_scope.specs.declared.fault.BindFault.{BindFault}
use Rattle.tl_scope.specs.declared.found.Found.{Found}
use Rattle.tl_scope.specs.declared.found.Found.TheVariants.{One}
use Rattle.tl_scope.specs.Condition.{differ, filter_faults}
use Rattle.tl_scope.specs.Expression.{expression_faults}
use Rattle.tl_scope.specs.Fault.{each_from, fault_if}
use Rattle.tl_scope.specs.Named.{is_none, repeated_faults}
use Rattle.tl_scope.specs.Scope.{Source, called, column_at, column_faults, column_found, kind_of, scope_of, table_named}

-- of the FROM item at this place: there are four at most, and ON may name its own item and those before it
abbrev pub from_faults : Catalog → List Source → ℕ → FromItem → List BindFault
from_faults catalog scope i item =
    fault_if (is_none (table_named catalog item.table.text)) item.table.at kind.UnknownTable
    ++ fault_if (nat_lt 3 i) item.table.at kind.TooMany
    ++ filter_faults (take (i + 1) scope) item.on

-- the same column
abbrev pub is_same : Found → Found → Bool
is_same (One a) (One b) = a.item == b.item && a.column == b.column
is_same a b = false

-- what GROUP BY names
abbrev pub grouping : List Source → List ColumnName → List Found
grouping scope group = map (column_found scope) group

-- one of the columns of GROUP BY; what isn't one column is none of them
abbrev pub is_grouped_by : List Found → Found → Bool
is_grouped_by group f = list_any (λ g. is_same g f) group

abbrev pub operand_is_over : List Source → List Found → Operand → Bool
operand_is_over scope group (operand.Column c) = is_grouped_by group (column_found scope c)
operand_is_over scope group (operand.Literal l) = true

abbrev pub over_layer : List Source → List Found → Expr-F Bool → Bool
over_layer scope group (part.Operand o) = operand_is_over scope group o
over_layer scope group (part.Chain b rest) = b && list_all (λ (s : Step Bool). s.of) rest

-- an expression over columns of GROUP BY alone
unfoldable pub is_over : List Source → List Found → Expr → Bool
is_over scope group e = fold-Expr Bool (over_layer scope group) e

abbrev pub step_over : List Source → List Found → Step Expr → Step Bool
step_over scope group s = record { by = s.by; of = is_over scope group s.of }

-- SUM is of numbers
abbrev pub sum_column_faults : List Source → ColumnName → List BindFault
sum_column_faults scope c =
    column_faults scope c ++ fault_if (differ (kind_of (column_found scope c)) (Some type.Int)) (column_at c) kind.WrongType

-- of an item: where there are groups, an expression is over their columns alone
abbrev pub form_faults : List Source → List Found → Bool → ℕ → SelectForm → List BindFault
form_faults scope group grouped at (form.Expr e) = fault_if (grouped && not (is_over scope group e)) at kind.Grouping ++ expression_faults scope e
form_faults scope group grouped at form.CountRows = []
form_faults scope group grouped at (form.Count c) = column_faults scope c
form_faults scope group grouped at (form.Sum c) = sum_column_faults scope c
form_faults scope group grouped at (form.Min c) = column_faults scope c
form_faults scope group grouped at (form.Max c) = column_faults scope c

abbrev pub item_faults : List Source → List Found → Bool → SelectItem → List BindFault
item_faults scope group grouped item = form_faults scope group grouped item.at item.form

-- the columns of the i-th item from this place on are all of GROUP BY
abbrev pub columns_are_grouped : List Found → ℕ → ℕ → List Column → Bool
columns_are_grouped group i at [] = true
columns_are_grouped group i at (c ∷ cs) =
    is_grouped_by group (One (record { item = i; column = at; kind = c.kind })) && columns_are_grouped group i (at + 1) cs

-- and those of all items, of which the first is the i-th
abbrev pub all_are_grouped : List Found → ℕ → List Source → Bool
all_are_grouped group i [] = true
all_are_grouped group i (source ∷ sources) = columns_are_grouped group i 0 source.columns && all_are_grouped group (i + 1) sources

-- of `*`, which shows each column: beside GROUP BY each is one of its columns, or the first name of GROUP BY is at fault
abbrev pub star_faults : List Source → List Found → List ColumnName → List BindFault
star_faults scope group [] = []
star_faults scope group (c ∷ cs) = fault_if (not (all_are_grouped group 0 scope)) (column_at c) kind.Grouping

abbrev pub items_faults : List Source → List ColumnName → Bool → Option (List SelectItem) → List BindFault
items_faults scope group grouped None = star_faults scope (grouping scope group) group
items_faults scope group grouped (Some items) = flat_map (item_faults scope (grouping scope group) grouped) items

-- of an ORDER BY item beside so many printed columns, which count from 1
abbrev pub by_faults : List Source → List Found → Bool → ℕ → OrderBy → List BindFault
by_faults scope group grouped printed (by.Column c) =
    column_faults scope c ++ fault_if (grouped && not (is_grouped_by group (column_found scope c))) (column_at c) kind.Grouping
by_faults scope group grouped printed (by.Number at n) = fault_if (n == 0 || nat_lt printed n) at kind.UnknownColumn

abbrev pub order_faults : List Source → List Found → Bool → ℕ → OrderItem → List BindFault
order_faults scope group grouped printed o = by_faults scope group grouped printed o.by

abbrev pub is_aggregate : SelectForm → Bool
is_aggregate (form.Expr e) = false
is_aggregate f = true

abbrev pub has_aggregate : Option (List SelectItem) → Bool
has_aggregate None = false
has_aggregate (Some items) = list_any (λ (item : SelectItem). is_aggregate item.form) items

-- there are groups: by GROUP BY, or by an aggregate
abbrev pub is_grouped : Option (List SelectItem) → List ColumnName → Bool
is_grouped items [] = has_aggregate items
is_grouped items (c ∷ cs) = true

-- how many columns the items have
abbrev pub width : List Source → ℕ
width [] = 0
width (source ∷ sources) = length source.columns + width sources

-- how many columns are printed
abbrev pub printed : List Source → Option (List SelectItem) → ℕ
printed scope None = width scope
printed scope (Some items) = length items

-- of what stands before and behind the FROM items
abbrev pub shown_faults : List Source → Option (List SelectItem) → Option Cond → List ColumnName → List OrderItem → List BindFault
shown_faults scope items filter group order =
    items_faults scope group (is_grouped items group) items
    ++ filter_faults scope filter
    ++ flat_map (column_faults scope) group
    ++ flat_map (order_faults scope (grouping scope group) (is_grouped items group) (printed scope items)) order

abbrev pub select_faults : Catalog → Option (List SelectItem) → List FromItem → Option Cond → List ColumnName → List OrderItem → List BindFault
select_faults catalog items from filter group order =
    each_from (from_faults catalog (scope_of catalog from)) 0 from
    ++ repeated_faults (map called from)
    ++ shown_faults (scope_of catalog from) items filter group order
