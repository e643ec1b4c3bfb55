-- The faults of a statement, and what it is to be the first of them.
use Rattle.std.specs.Prelude.{◌≡◌, ◌⊎◌, ◌≤◌, List, [], ◌∷◌}
use Rattle.std.specs.List.{AllByRecursion}
use Rattle.tl_schema.specs.declared.catalog.Catalog.{Catalog}
use Rattle.tl_schema.specs.declared.catalog.Table.{Table}
use Rattle.tl_grammar.specs.declared.statement.Statement.{Statement}
use Rattle.tl_grammar.specs.declared.statement.Statement.TheVariants as statement
use Rattle.tl_scope.specs.declared.fault.BindFault.{BindFault}
use Rattle.tl_scope.specs.Change.{delete_faults, insert_faults, update_faults}
use Rattle.tl_scope.specs.Create.{create_index_faults, create_table_faults}
use Rattle.tl_scope.specs.Fault.{weight}
use Rattle.tl_scope.specs.Scope.{in_table, table_named}
use Rattle.tl_scope.specs.Select.{select_faults}

-- every fault of the statement
abbrev pub statement_faults : Catalog → Statement → List BindFault
statement_faults catalog (statement.CreateTable name columns key) = create_table_faults catalog name columns key
statement_faults catalog (statement.CreateIndex name table columns) = create_index_faults catalog name table columns
statement_faults catalog (statement.Insert table columns tuples) =
    in_table (table_named catalog table.text) table (λ (t : Table). insert_faults t.columns columns tuples)
statement_faults catalog (statement.Update table sets filter) = in_table (table_named catalog table.text) table (λ (t : Table). update_faults t sets filter)
statement_faults catalog (statement.Delete table filter) = in_table (table_named catalog table.text) table (λ (t : Table). delete_faults t filter)
statement_faults catalog (statement.Select items from filter group order limit) = select_faults catalog items from filter group order
statement_faults catalog statement.Begin = []
statement_faults catalog statement.Commit = []
statement_faults catalog statement.Rollback = []
statement_faults catalog (statement.Recover node) = []

abbrev pub IsOneOf : BindFault → List BindFault → Type 0
IsOneOf f [] = ⊥
IsOneOf f (g ∷ gs) = (g ≡ f) ⊎ IsOneOf f gs

-- it is one of the faults, and none stands before it
pub record IsFirst (f : BindFault) (faults : List BindFault) : Type 0 where
  pub is : IsOneOf f faults
  pub first : AllByRecursion (λ (g : BindFault). weight f ≤ weight g) faults
