-- What the name of a column stands for among the FROM items of a statement.
use Rattle.std.specs.Prelude.{ℕ, ◌+◌, Bool, List, [], ◌∷◌, map, Option, Some, None, find, position, slice_get, nat_eq, if◌then◌else◌}
use Rattle.std.specs.Cmp.Lexicographic.{pointwise}
use Rattle.tl_values.specs.declared.value.Kind.{Kind}
use Rattle.tl_schema.specs.declared.catalog.Catalog.{Catalog}
use Rattle.tl_schema.specs.declared.catalog.Column.{Column}
use Rattle.tl_schema.specs.declared.catalog.Table.{Table}
use Rattle.tl_grammar.specs.declared.name.ColumnName.{ColumnName}
use Rattle.tl_grammar.specs.declared.name.Name.{Name}
use Rattle.tl_grammar.specs.declared.select.FromItem.{FromItem}
use Rattle.tl_scope.specs.declared.fault.BindKind.TheVariants as kind
use Rattle.tl_scope.specs.declared.fault.BindFault.{BindFault}
use Rattle.tl_scope.specs.declared.found.Found.{Found}
use Rattle.tl_scope.specs.declared.found.Found.TheVariants.{NoTable, NoColumn, One, Several}

-- the same name
abbrev pub same : List ℕ → List ℕ → Bool
same = pointwise nat_eq

-- a FROM item as names see it: what it is called, and the columns of its table
pub record Source : Type 0 where
  pub name : List ℕ
  pub columns : List Column

-- the table of this name
abbrev pub table_named : Catalog → List ℕ → Option Table
table_named catalog name = find (λ (t : Table). same t.name name) catalog.tables

abbrev pub columns_or : Option Table → List Column
columns_or None = []
columns_or (Some t) = t.columns

-- the columns of the table of this name; none, where there is no such table
abbrev pub columns_named : Catalog → List ℕ → List Column
columns_named catalog name = columns_or (table_named catalog name)

abbrev pub name_or : Option Name → Name → Name
name_or None n = n
name_or (Some called) n = called

-- the name under which an item is known: with another name its table's own is unknown
abbrev pub called : FromItem → Name
called item = name_or item.called item.table

abbrev pub source_of : Catalog → FromItem → Source
source_of catalog item = record { name = (called item).text; columns = columns_named catalog item.table.text }

-- the FROM items as names see them
abbrev pub scope_of : Catalog → List FromItem → List Source
scope_of catalog from = map (source_of catalog) from

-- the scope of UPDATE and DELETE: their table, under its own name
abbrev pub scope_in : Table → List Source
scope_in table = record { name = table.name; columns = table.columns } ∷ []

abbrev pub column_place : List ℕ → List Column → Option ℕ
column_place name columns = position (λ (c : Column). same c.name name) columns

abbrev pub spot_at : ℕ → ℕ → Option Column → Found
spot_at item at None = NoColumn
spot_at item at (Some column) = One (record { item = item; column = at; kind = column.kind })

abbrev pub spotted : ℕ → List Column → Option ℕ → Found
spotted item columns None = NoColumn
spotted item columns (Some at) = spot_at item at (slice_get columns at)

-- in the i-th item
abbrev pub in_source : List ℕ → ℕ → Source → Found
in_source name i source = spotted i source.columns (column_place name source.columns)

-- of two finds: several, where both are one
abbrev pub also : Found → Found → Found
also NoTable b = NoTable
also a NoTable = NoTable
also NoColumn b = b
also a NoColumn = a
also a b = Several

-- in all of the items, of which the first is the i-th
abbrev pub in_sources : List ℕ → ℕ → List Source → Found
in_sources name i [] = NoColumn
in_sources name i (source ∷ sources) = also (in_source name i source) (in_sources name (i + 1) sources)

-- in the first item that is called so
abbrev pub in_source_called : List ℕ → List ℕ → ℕ → List Source → Found
in_source_called table name i [] = NoTable
in_source_called table name i (source ∷ sources) =
    if same source.name table then in_source name i source else in_source_called table name (i + 1) sources

abbrev pub found_by : List Source → Option Name → Name → Found
found_by scope None name = in_sources name.text 0 scope
found_by scope (Some table) name = in_source_called table.text name.text 0 scope

-- what the name of a column stands for
abbrev pub column_found : List Source → ColumnName → Found
column_found scope c = found_by scope c.table c.column

abbrev pub at_or : Option Name → ℕ → ℕ
at_or None at = at
at_or (Some table) at = table.at

-- the place of the first byte of a column's name
abbrev pub column_at : ColumnName → ℕ
column_at c = at_or c.table c.column.at

abbrev pub found_faults : ColumnName → Found → List BindFault
found_faults c NoTable = record { at = column_at c; kind = kind.UnknownTable } ∷ []
found_faults c NoColumn = record { at = c.column.at; kind = kind.UnknownColumn } ∷ []
found_faults c Several = record { at = c.column.at; kind = kind.Ambiguous } ∷ []
found_faults c (One spot) = []

-- the name of a column stands for none, or for several
abbrev pub column_faults : List Source → ColumnName → List BindFault
column_faults scope c = found_faults c (column_found scope c)

-- what isn't one column has every type
abbrev pub kind_of : Found → Option Kind
kind_of NoTable = None
kind_of NoColumn = None
kind_of (One spot) = Some spot.kind
kind_of Several = None

abbrev pub unknown_table : Name → BindFault
unknown_table name = record { at = name.at; kind = kind.UnknownTable }

-- the faults in the table of this name; where it isn't there, nothing else is looked at
abbrev pub in_table : Option Table → Name → (Table → List BindFault) → List BindFault
in_table None name faults = unknown_table name ∷ []
in_table (Some t) name faults = faults t
