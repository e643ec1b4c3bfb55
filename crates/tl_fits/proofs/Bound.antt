-- What a statement without faults is bound to fits the catalog.
use Rattle.std.proofs.Common.{◌≡◌, ℕ, List, [], Option, Some, None, refl}
use Rattle.tl_schema.specs.declared.catalog.Catalog.{Catalog}
use Rattle.tl_schema.specs.declared.catalog.Table.{Table}
use Rattle.tl_algebra.specs.declared.edit.Edit.{Edit}
use Rattle.tl_isolation.specs.Tables.{HasTable, table_of}
use Rattle.tl_grammar.specs.declared.name.Name.{Name}
use Rattle.tl_grammar.specs.declared.statement.Statement.{Statement}
use Rattle.tl_grammar.specs.declared.statement.Statement.TheVariants as statement
use Rattle.tl_grammar.specs.Whole.{IsWhole}
use Rattle.tl_scope.specs.declared.fault.BindFault.{BindFault}
use Rattle.tl_scope.specs.Change.{delete_faults, insert_faults, update_faults}
use Rattle.tl_scope.specs.Scope.{in_table, table_named}
use Rattle.tl_scope.specs.Statement.{statement_faults}
use Rattle.tl_journal.specs.Binding.{EditFits, StatementFits}
use Rattle.tl_bind.specs.Change.{delete_of, insert_of, update_of}
use Rattle.tl_bind.specs.Select.{table_number}
use Rattle.tl_bind.specs.Values.{HasValues}
use Rattle.tl_names.specs.Bind.{bound_of, change_in, change_of}
use Rattle.tl_fits.specs.Fits.{CatalogFits}
use Rattle.tl_fits.proofs.Changes.{delete_fits, insert_fits, named_table, update_fits}
use Rattle.tl_fits.proofs.Selects.{select_fits}

module _ (catalog : Catalog) (name : Name) (edit : ℕ → Table → Edit) (faults : Table → List BindFault)
    (fits : (n : ℕ) (t : Table) → HasTable catalog n → table_of catalog n ≡ t → faults t ≡ [] → EditFits catalog (edit n t)) where
  change_by : (o : Option Table) → table_named catalog name.text ≡ o → in_table o name faults ≡ [] → StatementFits catalog (change_in catalog name edit o)
  change_by None is none = absurd cc
  change_by (Some t) is none =
      let number = named_table catalog name.text t is in
      fits (table_number catalog name.text) t number.0 number.1 none

  -- a change of a table without faults
  change_fits : in_table (table_named catalog name.text) name faults ≡ [] → StatementFits catalog (change_of catalog name edit)
  change_fits none = change_by (table_named catalog name.text) refl none

pub bound_fits : (catalog : Catalog) (s : Statement) → CatalogFits catalog → IsWhole s → HasValues s → statement_faults catalog s ≡ [] → StatementFits catalog (bound_of catalog s)
bound_fits catalog (statement.CreateTable name columns key) fits whole values none = tt
bound_fits catalog (statement.CreateIndex name table columns) fits whole values none = tt
bound_fits catalog (statement.Insert table columns tuples) fits whole values none =
    change_fits catalog table (λ (n : ℕ) (t : Table). insert_of n t columns tuples) (λ (t : Table). insert_faults t.columns columns tuples)
    (λ n t there is free. insert_fits catalog n t there is columns tuples free whole.1 values) none
bound_fits catalog (statement.Update table sets filter) fits whole values none =
    change_fits catalog table (λ (n : ℕ) (t : Table). update_of n t sets filter) (λ (t : Table). update_faults t sets filter)
    (λ n t there is free. update_fits catalog n t there is sets filter free whole.0 whole.1 values.0 values.1) none
bound_fits catalog (statement.Delete table filter) fits whole values none =
    change_fits catalog table (λ (n : ℕ) (t : Table). delete_of n t filter) (λ (t : Table). delete_faults t filter)
    (λ n t there is free. delete_fits catalog n t there is filter free values) none
bound_fits catalog (statement.Select items from filter group order limit) fits whole values none =
    select_fits catalog items from filter group order limit fits whole.0 whole.1 values.0 values.1 values.2 none
bound_fits catalog statement.Begin fits whole values none = tt
bound_fits catalog statement.Commit fits whole values none = tt
bound_fits catalog statement.Rollback fits whole values none = tt
bound_fits catalog (statement.Recover node) fits whole values none = whole
