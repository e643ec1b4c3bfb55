-- What is bound fits its catalog, and a catalog goes on fitting.
use Rattle.std.specs.Prelude.{◌≡◌, ◌≤◌, [], length}
use Rattle.std.specs.List.{AllByRecursion}
use Rattle.tl_schema.specs.declared.catalog.Catalog.{Catalog}
use Rattle.tl_journal.specs.Binding.{StatementFits, TableFits}
use Rattle.tl_grammar.specs.declared.statement.Statement.{Statement}
use Rattle.tl_grammar.specs.Whole.{IsWhole}
use Rattle.tl_scope.specs.Statement.{statement_faults}
use Rattle.tl_bind.specs.Values.{HasValues}
use Rattle.tl_names.specs.Bind.{IsWithin, bound_of}
use Rattle.tl_names.specs.Define.{defined}

-- a catalog as the law of journals wants it, but that it may be empty
pub record CatalogFits (catalog : Catalog) : Type 0 where
  pub few : length catalog.tables ≤ 64
  pub tables : AllByRecursion TableFits catalog.tables

-- a statement without faults is bound to one that fits; CREATE is bound to nothing
abbrev pub BoundStatementsFit : Type 0
BoundStatementsFit = (catalog : Catalog) (s : Statement) → CatalogFits catalog → IsWhole s → HasValues s → statement_faults catalog s ≡ [] → StatementFits catalog (bound_of catalog s)

-- with the table or the index that a CREATE without faults makes a catalog fits
abbrev pub DefinedTablesFit : Type 0
DefinedTablesFit = (catalog : Catalog) (s : Statement) → CatalogFits catalog → IsWhole s → statement_faults catalog s ≡ [] → CatalogFits (defined catalog s)

-- so names may be bound in it
abbrev pub FittingCatalogsAreWithin : Type 0
FittingCatalogsAreWithin = (catalog : Catalog) → CatalogFits catalog → IsWithin catalog
