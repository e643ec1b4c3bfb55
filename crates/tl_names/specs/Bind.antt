-- What binding answers.
use Rattle.std.specs.Prelude.{◌≡◌, ℕ, ◌≤◌, Bool, true, false, length, List, [], Option, Some, None, Result, Ok, Err}
use Rattle.std.specs.List.{AllByRecursion}
use Rattle.tl_schema.specs.declared.catalog.Catalog.{Catalog}
use Rattle.tl_schema.specs.declared.catalog.Table.{Table}
use Rattle.tl_algebra.specs.declared.edit.Edit.{Edit}
use Rattle.tl_isolation.specs.declared.bound.Bound.{Bound}
use Rattle.tl_isolation.specs.declared.bound.Bound.TheVariants as bound
use Rattle.tl_grammar.specs.declared.name.Name.{Name}
use Rattle.tl_grammar.specs.declared.statement.Statement.{Statement}
use Rattle.tl_grammar.specs.declared.statement.Statement.TheVariants as statement
use Rattle.tl_scope.specs.declared.fault.BindFault.{BindFault}
use Rattle.tl_scope.specs.Scope.{table_named}
use Rattle.tl_scope.specs.Statement.{IsFirst}
use Rattle.tl_bind.specs.Change.{delete_of, insert_of, update_of}
use Rattle.tl_bind.specs.Select.{query_of, table_number}
use Rattle.tl_names.specs.declared.error.BindError.{BindError}
use Rattle.tl_names.specs.declared.error.BindError.TheVariants as error

-- the first of the faults; want of memory says nothing of them
abbrev pub Refuses : BindError → List BindFault → Type 0
Refuses (error.Fault at k) faults = IsFirst (record { at = at; kind = k }) faults
Refuses error.NoMemory faults = Unit {0}

-- what the statement is bound to, where there are no faults, and else the first of them
abbrev pub Binds : Result Bound BindError → List BindFault → Bound → Type 0
Binds (Ok b) faults bound = (faults ≡ []) × (b ≡ bound)
Binds (Err e) faults bound = Refuses e faults

abbrev pub change_in : Catalog → Name → (ℕ → Table → Edit) → Option Table → Bound
change_in catalog name edit None = bound.Begin
change_in catalog name edit (Some t) = bound.Change (edit (table_number catalog name.text) t)

-- a change of the table of this name; one that isn't there is a fault
abbrev pub change_of : Catalog → Name → (ℕ → Table → Edit) → Bound
change_of catalog name edit = change_in catalog name edit (table_named catalog name.text)

-- what a statement without faults is bound to; CREATE is defined, not bound
abbrev pub bound_of : Catalog → Statement → Bound
bound_of catalog (statement.CreateTable name columns key) = bound.Begin
bound_of catalog (statement.CreateIndex name table columns) = bound.Begin
bound_of catalog (statement.Insert table columns tuples) = change_of catalog table (λ (n : ℕ) (t : Table). insert_of n t columns tuples)
bound_of catalog (statement.Update table sets filter) = change_of catalog table (λ (n : ℕ) (t : Table). update_of n t sets filter)
bound_of catalog (statement.Delete table filter) = change_of catalog table (λ (n : ℕ) (t : Table). delete_of n t filter)
bound_of catalog (statement.Select items from filter group order limit) = bound.Select (query_of catalog items from filter group order limit)
bound_of catalog statement.Begin = bound.Begin
bound_of catalog statement.Commit = bound.Commit
bound_of catalog statement.Rollback = bound.Rollback
bound_of catalog (statement.Recover node) = bound.Recover node

abbrev pub is_create : Statement → Bool
is_create (statement.CreateTable name columns key) = true
is_create (statement.CreateIndex name table columns) = true
is_create (statement.Insert table columns tuples) = false
is_create (statement.Update table sets filter) = false
is_create (statement.Delete table filter) = false
is_create (statement.Select items from filter group order limit) = false
is_create statement.Begin = false
is_create statement.Commit = false
is_create statement.Rollback = false
is_create (statement.Recover node) = false

-- the catalog is within its limits
pub record IsWithin (catalog : Catalog) : Type 0 where
  pub tables : length catalog.tables ≤ 64
  pub columns : AllByRecursion (λ (t : Table). length t.columns ≤ 32) catalog.tables
