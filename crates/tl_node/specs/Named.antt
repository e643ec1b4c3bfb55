-- The statements of a node name tables of its catalog.
use Rattle.std.specs.Prelude.{List}
use Rattle.std.specs.Coded.{Unit-prop, le_prop}
use Rattle.std.specs.List.{AllByRecursion, AllByRecursion-prop}
use Rattle.tl_schema.specs.declared.catalog.Catalog.{Catalog}
use Rattle.tl_algebra.specs.declared.query.Join.{Join}
use Rattle.tl_algebra.specs.declared.query.Query.{Query}
use Rattle.tl_isolation.specs.declared.bound.Bound.{Bound}
use Rattle.tl_isolation.specs.declared.bound.Bound.TheVariants as bound
use Rattle.tl_isolation.specs.Tables.{HasTable}
use Rattle.tl_plan.specs.Plan.{NamesFrom, NamesTables}

-- each names tables of the catalog alone
abbrev pub AreNamed : Catalog → List Bound → Type 0
AreNamed catalog statements = AllByRecursion (NamesTables catalog) statements

names_from : (catalog : Catalog) (query : Query) → IsProp (NamesFrom catalog query)
names_from catalog query = λ a b i. record {
  tables = AllByRecursion-prop (λ (join : Join). HasTable catalog join.table) (λ join. le_prop) query.from a.tables b.tables i;
  places = le_prop a.places b.places i;
}

names_tables : (catalog : Catalog) (statement : Bound) → IsProp (NamesTables catalog statement)
names_tables catalog (bound.Select query) = names_from catalog query
names_tables catalog (bound.Change edit) = le_prop
names_tables catalog bound.Begin = Unit-prop
names_tables catalog bound.Commit = Unit-prop
names_tables catalog bound.Rollback = Unit-prop
names_tables catalog (bound.Recover node) = Unit-prop

pub AreNamed-prop : (catalog : Catalog) (statements : List Bound) → IsProp (AreNamed catalog statements)
AreNamed-prop catalog statements = AllByRecursion-prop (NamesTables catalog) (names_tables catalog) statements
