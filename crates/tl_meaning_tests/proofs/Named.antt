-- A SELECT over both tables names tables of their catalog.
use Rattle.std.proofs.Common.{◌≡◌, ◌+◌, ◌<◌, ◌^◌, List, [], ◌∷◌, None, length, map, ap, sym, subst, ◌∙◌, arith}
use Rattle.std.specs.List.{AllByRecursion}
use Rattle.tl_schema.specs.declared.catalog.Catalog.{Catalog}
use Rattle.tl_schema.specs.declared.catalog.Table.{Table}
use Rattle.tl_algebra.specs.declared.query.Join.{Join}
use Rattle.tl_algebra.specs.declared.query.Query.{Query}
use Rattle.tl_isolation.specs.Tables.{HasTable, table_of}
use Rattle.tl_plan.specs.Plan.{NamesFrom, tables_of}
use Rattle.tl_plan.specs.Steps.{width}
use Rattle.tl_meaning_tests.specs.Pairs.{ArePairs}

pub names_both : (catalog : Catalog) (query : Query) → ArePairs catalog → query.from ≡ record { table = 0; on = None } ∷ record { table = 1; on = None } ∷ []
    → NamesFrom catalog query
names_both catalog query pairs e =
    let two : length catalog.tables ≡ 2 = ap length pairs.tables in
    let both : width (tables_of catalog query) ≡ length pairs.first.columns + (length pairs.second.columns + 0) =
    ap (λ (from : List Join). width (map (table_of catalog) (map (λ (join : Join). join.table) from))) e
    ∙ ap (λ (tables : List Table). width (table_of (record { tables = tables }) 0 ∷ table_of (record { tables = tables }) 1 ∷ [])) pairs.tables in
    let first = pairs.first_columns in
    let second = pairs.second_columns in
    record {
      tables = subst (λ (from : List Join). AllByRecursion (λ (join : Join). HasTable catalog join.table) from) (sym e) (omega arith, (omega arith, tt));
      places = omega arith;
    }
