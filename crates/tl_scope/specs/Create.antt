-- The faults of CREATE TABLE and CREATE INDEX.
use Rattle.std.specs.Prelude.{ℕ, ◌+◌, ◌==◌, Bool, not, List, [], ◌++◌, filter, flat_map, length, map, Option, Some, None, nat_lt}
use Rattle.std.specs.List.{list_any}
use Rattle.tl_schema.specs.declared.catalog.Catalog.{Catalog}
use Rattle.tl_schema.specs.declared.catalog.Index.{Index}
use Rattle.tl_schema.specs.declared.catalog.Table.{Table}
use Rattle.tl_grammar.specs.declared.name.Name.{Name}
use Rattle.tl_grammar.specs.declared.statement.ColumnForm.{ColumnForm}
use Rattle.tl_scope.specs.declared.fault.BindKind.TheVariants as kind
use Rattle.tl_scope.specs.declared.fault.BindFault.{BindFault}
use Rattle.tl_scope.specs.Fault.{each_from, fault_if}
use Rattle.tl_scope.specs.Named.{columns_faults, is_among, is_none, repeated_faults}
use Rattle.tl_scope.specs.Scope.{in_table, same, table_named}

-- one, where there is a key behind the columns
abbrev pub keys_behind : Option (List Name) → ℕ
keys_behind None = 0
keys_behind (Some names) = 1

abbrev pub is_primary : ColumnForm → Bool
is_primary c = c.primary

-- one key, at a column or behind the columns
abbrev pub has_one_key : List ColumnForm → Option (List Name) → Bool
has_one_key columns key = length (filter is_primary columns) + keys_behind key == 1

abbrev pub form_name : ColumnForm → Name
form_name c = c.name

abbrev pub form_text : ColumnForm → List ℕ
form_text c = c.name.text

-- a table has 32 columns at most
abbrev pub column_form_faults : ℕ → ColumnForm → List BindFault
column_form_faults i c = fault_if (nat_lt 31 i) c.name.at kind.TooMany

abbrev pub key_name_faults : List ColumnForm → Name → List BindFault
key_name_faults columns n = fault_if (not (is_among (map form_text columns) n.text)) n.at kind.UnknownColumn

-- of the key behind the columns
abbrev pub key_faults : List ColumnForm → Option (List Name) → List BindFault
key_faults columns None = []
key_faults columns (Some names) = flat_map (key_name_faults columns) names ++ repeated_faults names

-- of the name of a new table, of which there are 64 at most
abbrev pub table_name_faults : Catalog → Name → List BindFault
table_name_faults catalog name =
    fault_if (not (is_none (table_named catalog name.text))) name.at kind.Twice
    ++ fault_if (nat_lt 63 (length catalog.tables)) name.at kind.TooMany

abbrev pub create_table_faults : Catalog → Name → List ColumnForm → Option (List Name) → List BindFault
create_table_faults catalog name columns key =
    table_name_faults catalog name
    ++ fault_if (not (has_one_key columns key)) name.at kind.NoKey
    ++ repeated_faults (map form_name columns)
    ++ each_from column_form_faults 0 columns
    ++ key_faults columns key

abbrev pub has_index : List ℕ → Table → Bool
has_index name t = list_any (λ (i : Index). same i.name name) t.indexes

-- an index of any table is called so
abbrev pub is_index : Catalog → List ℕ → Bool
is_index catalog name = list_any (has_index name) catalog.tables

-- of a new index on a table, which has 8 at most
abbrev pub new_index_faults : Table → Name → List Name → List BindFault
new_index_faults t name columns = fault_if (nat_lt 7 (length t.indexes)) name.at kind.TooMany ++ columns_faults t.columns columns

abbrev pub create_index_faults : Catalog → Name → Name → List Name → List BindFault
create_index_faults catalog name table columns =
    fault_if (is_index catalog name.text) name.at kind.Twice ++ in_table (table_named catalog table.text) table (λ (t : Table). new_index_faults t name columns)
