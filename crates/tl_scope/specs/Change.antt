-- The faults of INSERT, UPDATE and DELETE.
use Rattle.std.specs.Prelude.{ℕ, ◌==◌, Bool, not, List, [], ◌∷◌, ◌++◌, flat_map, length, map, Option, Some, None, slice_get}
use Rattle.std.specs.List.{list_any}
use Rattle.tl_values.specs.declared.value.Kind.{Kind}
use Rattle.tl_schema.specs.declared.catalog.Column.{Column}
use Rattle.tl_schema.specs.declared.catalog.Table.{Table}
use Rattle.tl_grammar.specs.declared.condition.Cond.{Cond}
use Rattle.tl_grammar.specs.declared.name.Name.{Name}
use Rattle.tl_grammar.specs.declared.operand.Literal.{Literal}
use Rattle.tl_grammar.specs.declared.statement.SetItem.{SetItem}
use Rattle.tl_grammar.specs.declared.statement.Tuple.{Tuple}
use Rattle.tl_scope.specs.declared.fault.BindKind.TheVariants as kind
use Rattle.tl_scope.specs.declared.fault.BindFault.{BindFault}
use Rattle.tl_scope.specs.Condition.{differ, filter_faults, value_kind}
use Rattle.tl_scope.specs.Expression.{expression_faults, expression_kind}
use Rattle.tl_scope.specs.Fault.{each_from, fault_if}
use Rattle.tl_scope.specs.Named.{columns_faults, repeated_faults}
use Rattle.tl_scope.specs.Scope.{column_place, scope_in}

-- the columns that INSERT names, where it names any
abbrev pub named_faults : List Column → Option (List Name) → List BindFault
named_faults columns None = []
named_faults columns (Some names) = columns_faults columns names

abbrev pub place_named : List Column → Option Name → Option ℕ
place_named columns None = None
place_named columns (Some n) = column_place n.text columns

-- the place of the column for which the literals at this place of a tuple are
abbrev pub target : List Column → Option (List Name) → ℕ → Option ℕ
target columns None at = Some at
target columns (Some names) at = place_named columns (slice_get names at)

abbrev pub column_kind : Option Column → Option Kind
column_kind None = None
column_kind (Some c) = Some c.kind

abbrev pub kind_at : List Column → Option ℕ → Option Kind
kind_at columns None = None
kind_at columns (Some at) = column_kind (slice_get columns at)

-- a literal of another type than its column
abbrev pub literal_faults : List Column → Option (List Name) → ℕ → Literal → List BindFault
literal_faults columns named at l = fault_if (differ (value_kind l.value) (kind_at columns (target columns named at))) l.at kind.WrongType

abbrev pub width_of : List Column → Option (List Name) → ℕ
width_of columns None = length columns
width_of columns (Some names) = length names

-- of a tuple: it is as long as its columns are many
abbrev pub tuple_faults : List Column → Option (List Name) → Tuple → List BindFault
tuple_faults columns named t =
    fault_if (not (length t.values == width_of columns named)) t.at kind.WrongType ++ each_from (literal_faults columns named) 0 t.values

-- an INSERT into a table of these columns
abbrev pub insert_faults : List Column → Option (List Name) → List Tuple → List BindFault
insert_faults columns named tuples = named_faults columns named ++ flat_map (tuple_faults columns named) tuples

-- a column of the primary key
abbrev pub is_in_key : List ℕ → ℕ → Bool
is_in_key key place = list_any (λ k. k == place) key

-- a column that is set: it is there, and not of the primary key
abbrev pub set_place_faults : Table → ℕ → Option ℕ → List BindFault
set_place_faults table at None = record { at = at; kind = kind.UnknownColumn } ∷ []
set_place_faults table at (Some place) = fault_if (is_in_key table.key place) at kind.KeyChange

-- of an item of SET: its value is of the type of its column
abbrev pub set_faults : Table → SetItem → List BindFault
set_faults table item =
    set_place_faults table item.column.at (column_place item.column.text table.columns)
    ++ fault_if (differ (expression_kind (scope_in table) item.value) (kind_at table.columns (column_place item.column.text table.columns))) item.column.at kind.WrongType
    ++ expression_faults (scope_in table) item.value

abbrev pub set_name : SetItem → Name
set_name item = item.column

-- an UPDATE of the table
abbrev pub update_faults : Table → List SetItem → Option Cond → List BindFault
update_faults table sets filter = flat_map (set_faults table) sets ++ repeated_faults (map set_name sets) ++ filter_faults (scope_in table) filter

-- a DELETE from the table
abbrev pub delete_faults : Table → Option Cond → List BindFault
delete_faults table filter = filter_faults (scope_in table) filter
