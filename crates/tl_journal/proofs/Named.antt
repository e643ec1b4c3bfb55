-- What a bound script says names tables of its catalog alone.
use Rattle.std.proofs.Common.{◌≡◌, ℕ, zero, suc, ◌+◌, ◌*◌, ◌<◌, ◌≤◌, ◌^◌, List, [], ◌∷◌, length, map, arith}
use Rattle.std.specs.List.{AllByRecursion}
use Rattle.std.specs.Prelude.{slice_get, unwrap_or}
use Rattle.tl_base.specs.declared.place.Settings.{Settings}
use Rattle.tl_schema.specs.declared.catalog.Catalog.{Catalog}
use Rattle.tl_schema.specs.declared.catalog.OpeningRow.{OpeningRow}
use Rattle.tl_schema.specs.declared.catalog.Table.{Table}
use Rattle.tl_algebra.specs.declared.query.Join.{Join}
use Rattle.tl_isolation.specs.declared.bound.Bound.{Bound}
use Rattle.tl_isolation.specs.declared.bound.Bound.TheVariants as bound
use Rattle.tl_isolation.specs.declared.script.Script.{Script}
use Rattle.tl_isolation.specs.declared.script.Session.{Session}
use Rattle.tl_isolation.specs.Tables.{HasTable, OpensTable, no_table, table_of}
use Rattle.tl_plan.specs.Plan.{NamesTables}
use Rattle.tl_plan.specs.Steps.{width}
use Rattle.tl_journal.specs.Binding.{IsBound, StatementFits, TableFits}

-- what holds of each table of the catalog holds of the one of this number
of_table : (P : Table → Type 0) (tables : List Table) (number : ℕ) → AllByRecursion P tables → number < length tables → P (unwrap_or (slice_get tables number) no_table)
of_table P [] number h within = absurd (omega arith)
of_table P (table ∷ tables) zero h within = h.0
of_table P (table ∷ tables) (suc number) h within = of_table P tables number h.1 (omega arith)

-- so many tables have few columns together
narrow : (catalog : Catalog) (from : List Join) → AllByRecursion TableFits catalog.tables → AllByRecursion (λ (join : Join). HasTable catalog join.table) from
    → width (map (table_of catalog) (map (λ (join : Join). join.table) from)) ≤ 32 * length from
narrow catalog [] fits h = omega arith
narrow catalog (join ∷ from) fits h =
    let first : length (table_of catalog join.table).columns ≤ 32 = (of_table TableFits catalog.tables join.table fits h.0).columns in
    let rest : width (map (table_of catalog) (map (λ (join : Join). join.table) from)) ≤ 32 * length from = narrow catalog from fits h.1 in
    omega arith

names : (catalog : Catalog) (statement : Bound) → AllByRecursion TableFits catalog.tables → StatementFits catalog statement → NamesTables catalog statement
names catalog (bound.Select query) fits h =
    let few : length query.from ≤ 4 = h.few in
    let columns : width (map (table_of catalog) (map (λ (join : Join). join.table) query.from)) ≤ 32 * length query.from = narrow catalog query.from fits h.tables in
    record { tables = h.tables; places = omega arith }
names catalog (bound.Change edit) fits h = h.suits.table
names catalog bound.Begin fits h = tt
names catalog bound.Commit fits h = tt
names catalog bound.Rollback fits h = tt
names catalog (bound.Recover node) fits h = tt

all_name : (catalog : Catalog) (statements : List Bound) → AllByRecursion TableFits catalog.tables → AllByRecursion (StatementFits catalog) statements
    → AllByRecursion (NamesTables catalog) statements
all_name catalog [] fits h = tt
all_name catalog (statement ∷ later) fits h = (names catalog statement fits h.0, all_name catalog later fits h.1)

each_session : (catalog : Catalog) (sessions : List Session) → AllByRecursion TableFits catalog.tables
    → AllByRecursion (λ (s : Session). AllByRecursion (StatementFits catalog) s.statements) sessions
    → AllByRecursion (λ (s : Session). AllByRecursion (NamesTables catalog) s.statements) sessions
each_session catalog [] fits h = tt
each_session catalog (session ∷ later) fits h = (all_name catalog session.statements fits h.0, each_session catalog later fits h.1)

-- its statements do
pub sessions_name : (script : Script) (settings : Settings) → IsBound script settings
    → AllByRecursion (λ (s : Session). AllByRecursion (NamesTables script.catalog) s.statements) script.sessions
sessions_name script settings b = each_session script.catalog script.sessions b.tables b.statements

each_table : (catalog : Catalog) (rows : List OpeningRow) → AllByRecursion (OpensTable catalog) rows → AllByRecursion (λ (o : OpeningRow). HasTable catalog o.table) rows
each_table catalog [] h = tt
each_table catalog (o ∷ os) h = (h.0.table, each_table catalog os h.1)

-- and its opening rows
pub opening_tables : (script : Script) (settings : Settings) → IsBound script settings → AllByRecursion (λ (o : OpeningRow). HasTable script.catalog o.table) script.rows
opening_tables script settings b = each_table script.catalog script.rows b.opening
