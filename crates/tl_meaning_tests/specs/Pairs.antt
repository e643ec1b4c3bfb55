-- The catalog of the tests of plans.
use Rattle.std.specs.Prelude.{◌≡◌, ◌∷◌, [], length}
use Rattle.tl_schema.specs.declared.catalog.Catalog.{Catalog}
use Rattle.tl_schema.specs.declared.catalog.Table.{Table}

-- two tables of two columns
pub record ArePairs (catalog : Catalog) : Type 0 where
  pub first : Table
  pub second : Table
  pub tables : catalog.tables ≡ first ∷ second ∷ []
  pub first_columns : length first.columns ≡ 2
  pub second_columns : length second.columns ≡ 2
