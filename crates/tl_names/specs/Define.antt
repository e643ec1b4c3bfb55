-- What CREATE makes.
use Rattle.std.specs.Prelude.{◌≡◌, ℕ, ◌+◌, Bool, true, false, ◌||◌, List, [], ◌∷◌, ◌++◌, map, Option, Some, None, Result, Ok, Err, position, slice_get, slice_set}
use Rattle.tl_schema.specs.declared.catalog.Catalog.{Catalog}
use Rattle.tl_schema.specs.declared.catalog.Column.{Column}
use Rattle.tl_schema.specs.declared.catalog.Index.{Index}
use Rattle.tl_schema.specs.declared.catalog.Table.{Table}
use Rattle.tl_grammar.specs.declared.name.Name.{Name}
use Rattle.tl_grammar.specs.declared.statement.ColumnForm.{ColumnForm}
use Rattle.tl_grammar.specs.declared.statement.Statement.{Statement}
use Rattle.tl_grammar.specs.declared.statement.Statement.TheVariants as statement
use Rattle.tl_scope.specs.declared.fault.BindFault.{BindFault}
use Rattle.tl_scope.specs.Change.{is_in_key}
use Rattle.tl_scope.specs.Scope.{column_place, same}
use Rattle.tl_bind.specs.Select.{number_or_zero}
use Rattle.tl_names.specs.declared.error.BindError.{BindError}
use Rattle.tl_names.specs.Bind.{Refuses}

abbrev pub and_if : Bool → ℕ → List ℕ → List ℕ
and_if true at places = at ∷ places
and_if false at places = places

-- the places of the columns that are called PRIMARY KEY, from this one on
abbrev pub primary_from : ℕ → List ColumnForm → List ℕ
primary_from at [] = []
primary_from at (c ∷ cs) = and_if c.primary at (primary_from (at + 1) cs)

-- the place of the column of this name; one that isn't there is a fault
abbrev pub form_place : List ColumnForm → Name → ℕ
form_place columns n = number_or_zero (position (λ (c : ColumnForm). same c.name.text n.text) columns)

abbrev pub key_places : List ColumnForm → Option (List Name) → List ℕ
key_places columns None = primary_from 0 columns
key_places columns (Some names) = map (form_place columns) names

-- columns of the primary key refuse NULL
abbrev pub column_made : List ℕ → ℕ → ColumnForm → Column
column_made key at c = record { name = c.name.text; kind = c.kind; not_null = c.not_null || is_in_key key at }

abbrev pub columns_made : List ℕ → ℕ → List ColumnForm → List Column
columns_made key at [] = []
columns_made key at (c ∷ cs) = column_made key at c ∷ columns_made key (at + 1) cs

abbrev pub table_made : Name → List ColumnForm → Option (List Name) → Table
table_made name columns key = record { name = name.text; columns = columns_made (key_places columns key) 0 columns; key = key_places columns key; indexes = [] }

abbrev pub place_in : List Column → Name → ℕ
place_in columns n = number_or_zero (column_place n.text columns)

abbrev pub index_made : List Column → Name → List Name → Index
index_made columns name names = record { name = name.text; columns = map (place_in columns) names }

abbrev pub with_index : Table → Index → Table
with_index t i = record { name = t.name; columns = t.columns; key = t.key; indexes = t.indexes ++ i ∷ [] }

abbrev pub at_table : Catalog → Name → List Name → ℕ → Option Table → Catalog
at_table catalog name columns n None = catalog
at_table catalog name columns n (Some t) = record { tables = slice_set catalog.tables n (with_index t (index_made t.columns name columns)) }

-- a table that isn't there is a fault
abbrev pub index_defined : Catalog → Name → List Name → Option ℕ → Catalog
index_defined catalog name columns None = catalog
index_defined catalog name columns (Some n) = at_table catalog name columns n (slice_get catalog.tables n)

-- the catalog with a new table behind the others, or a new index behind those of its table
abbrev pub defined : Catalog → Statement → Catalog
defined catalog (statement.CreateTable name columns key) = record { tables = catalog.tables ++ table_made name columns key ∷ [] }
defined catalog (statement.CreateIndex name table columns) = index_defined catalog name columns (position (λ (t : Table). same t.name table.text) catalog.tables)
defined catalog (statement.Insert table columns tuples) = catalog
defined catalog (statement.Update table sets filter) = catalog
defined catalog (statement.Delete table filter) = catalog
defined catalog (statement.Select items from filter group order limit) = catalog
defined catalog statement.Begin = catalog
defined catalog statement.Commit = catalog
defined catalog statement.Rollback = catalog
defined catalog (statement.Recover node) = catalog

-- where there are no faults, what is made is there; else the first of them, and nothing is changed
abbrev pub Defines : {A : Type 0} → Result A BindError → List BindFault → Catalog → Catalog → Catalog → Type 0
Defines (Ok x) faults old new made = (faults ≡ []) × (new ≡ made)
Defines (Err e) faults old new made = Refuses e faults × (new ≡ old)
