-- A bound statement, with what holds of the tables that it names since they are the catalog's.
use Rattle.std.proofs.Common.{ℕ, zero, suc, ◌<◌, ◌≤◌, List, [], ◌∷◌, length, arith}
use Rattle.std.specs.Prelude.{slice_get, unwrap_or}
use Rattle.std.specs.List.{AllByRecursion}
use Rattle.tl_lemmas.proofs.Lists.{weaker}
use Rattle.tl_schema.specs.declared.catalog.Catalog.{Catalog}
use Rattle.tl_schema.specs.declared.catalog.Table.{Table}
use Rattle.tl_algebra.specs.declared.edit.Edit.{Edit}
use Rattle.tl_algebra.specs.declared.query.Join.{Join}
use Rattle.tl_algebra.specs.declared.query.Query.{Query}
use Rattle.tl_write.specs.Change.{number_of}
use Rattle.tl_isolation.specs.declared.bound.Bound.{Bound}
use Rattle.tl_isolation.specs.declared.bound.Bound.TheVariants as bound
use Rattle.tl_isolation.specs.Queries.{SuitsQuery}
use Rattle.tl_isolation.specs.Tables.{HasTable, Suits, no_table, table_of}
use Rattle.tl_journal.specs.Binding.{StatementFits, TableFits}

pub record QueryOn (catalog : Catalog) (query : Query) : Type 0 where
  pub suits : SuitsQuery catalog query
  pub tables : AllByRecursion (λ (join : Join). TableFits (table_of catalog join.table)) query.from

pub record EditOn (catalog : Catalog) (edit : Edit) : Type 0 where
  pub suits : Suits catalog edit
  pub table : TableFits (table_of catalog (number_of edit))

abbrev pub StatementOn : Catalog → Bound → Type 0
StatementOn catalog (bound.Select query) = QueryOn catalog query
StatementOn catalog (bound.Change edit) = EditOn catalog edit
StatementOn catalog (bound.Recover gone) = (1 ≤ gone) × (gone ≤ 16)
StatementOn catalog statement = Unit {0}

one_of : (tables : List Table) (number : ℕ) → AllByRecursion TableFits tables → number < length tables → TableFits (unwrap_or (slice_get tables number) no_table)
one_of [] number h below = absurd (omega (arith, below))
one_of (table ∷ tables) zero h below = h.0
one_of (table ∷ tables) (suc number) h below = one_of tables number h.1 (omega (arith, below))

-- a table of the catalog is one of its tables
pub table_fits : (catalog : Catalog) (number : ℕ) → AllByRecursion TableFits catalog.tables → HasTable catalog number → TableFits (table_of catalog number)
table_fits catalog number h has = one_of catalog.tables number h has

pub stated : (catalog : Catalog) (statement : Bound) → AllByRecursion TableFits catalog.tables → StatementFits catalog statement → StatementOn catalog statement
stated catalog (bound.Select query) h fits = record {
  suits = fits;
  tables = weaker (λ (join : Join). HasTable catalog join.table) (λ (join : Join). TableFits (table_of catalog join.table)) (λ join has. table_fits catalog join.table h has)
      query.from fits.tables;
}
stated catalog (bound.Change edit) h fits = record { suits = fits.suits; table = table_fits catalog (number_of edit) h fits.suits.table }
stated catalog (bound.Recover gone) h fits = fits
stated catalog bound.Begin h fits = tt
stated catalog bound.Commit h fits = tt
stated catalog bound.Rollback h fits = tt

pub all_stated : (catalog : Catalog) (statements : List Bound) → AllByRecursion TableFits catalog.tables → AllByRecursion (StatementFits catalog) statements
    → AllByRecursion (StatementOn catalog) statements
all_stated catalog statements h fits = weaker (StatementFits catalog) (StatementOn catalog) (λ statement f. stated catalog statement h f) statements fits
