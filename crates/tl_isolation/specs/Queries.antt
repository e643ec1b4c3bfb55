-- Which queries are of the tables of a catalog.
use Rattle.std.specs.Prelude.{◌≡◌, ◌≤◌, ◌==◌, ℕ, Bool, true, ◌&&◌, List, [], ◌∷◌, ◌++◌, Option, None, length, nat_lt}
use Rattle.std.specs.List.{AllByRecursion, flat_map, list_all, list_any}
use Rattle.tl_values.specs.declared.value.Kind.{Kind}
use Rattle.tl_values.specs.declared.value.Kind.TheVariants as kind
use Rattle.tl_schema.specs.declared.catalog.Catalog.{Catalog}
use Rattle.tl_schema.specs.declared.catalog.Column.{Column}
use Rattle.tl_algebra.specs.declared.condition.Condition.{Condition}
use Rattle.tl_algebra.specs.declared.expression.Expression.{Expression}
use Rattle.tl_algebra.specs.declared.expression.Expression.TheOpen.{Expression-F}
use Rattle.tl_algebra.specs.declared.expression.Expression.TheOpen as layer
use Rattle.tl_algebra.specs.declared.expression.Expression.TheFolds.{fold-Expression}
use Rattle.tl_algebra.specs.declared.expression.Step.{Step}
use Rattle.tl_algebra.specs.declared.query.Join.{Join}
use Rattle.tl_algebra.specs.declared.query.Output.{Output}
use Rattle.tl_algebra.specs.declared.query.Output.TheVariants as output
use Rattle.tl_algebra.specs.declared.query.Query.{Query}
use Rattle.tl_algebra.specs.declared.query.Sort.{Sort}
use Rattle.tl_algebra.specs.declared.query.SortBy.{SortBy}
use Rattle.tl_algebra.specs.declared.query.SortBy.TheVariants as by
use Rattle.tl_algebra.specs.Group.{is_aggregate}
use Rattle.tl_algebra.specs.Order.{SuitsGroups, makes_groups}
use Rattle.tl_isolation.specs.Kinds.{condition_fits, every_kind, gives_kind, has_column, same_kind}
use Rattle.tl_isolation.specs.Tables.{HasTable, table_of}

abbrev pub columns_of : Catalog → Join → List Column
columns_of catalog join = (table_of catalog join.table).columns

-- the columns of all FROM items, one item after the other
abbrev pub columns_in : Catalog → Query → List Column
columns_in catalog query = flat_map (columns_of catalog) query.from

-- each ON is over the columns of its own item and those before it
abbrev pub ons_fit : Catalog → List Column → List Join → Bool
ons_fit catalog before [] = true
ons_fit catalog before (join ∷ joins) =
    condition_fits (before ++ columns_of catalog join) join.on && ons_fit catalog (before ++ columns_of catalog join) joins

abbrev pub is_column : List Column → ℕ → Bool
is_column columns at = has_column (λ (k : Kind). true) columns at

-- a printed column: an expression of some kind, or an aggregate of a column, and SUM of a number
abbrev pub output_fits : List Column → Output → Bool
output_fits columns (output.Expression e) = list_any (gives_kind columns e) every_kind
output_fits columns output.CountRows = true
output_fits columns (output.Count at) = is_column columns at
output_fits columns (output.Sum at) = has_column (same_kind kind.Int) columns at
output_fits columns (output.Least at) = is_column columns at
output_fits columns (output.Greatest at) = is_column columns at

-- a column, or one of so many printed ones
abbrev pub sort_fits : List Column → ℕ → SortBy → Bool
sort_fits columns printed (by.Place at) = is_column columns at
sort_fits columns printed (by.Printed column) = nat_lt column printed

-- the first item has no ON
abbrev pub StartsPlain : List Join → Type 0
StartsPlain [] = Unit {0}
StartsPlain (join ∷ joins) = ◌≡◌ {A = Option Condition} join.on None

abbrev pub is_among : List ℕ → ℕ → Bool
is_among group at = list_any (λ place. place == at) group

-- a column of GROUP BY, a literal, or arithmetic over these
abbrev pub group_layer : List ℕ → Expression-F Bool → Bool
group_layer group (layer.Place at) = is_among group at
group_layer group (layer.Literal v) = true
group_layer group (layer.Chain first steps) = first && list_all (λ (s : Step Bool). s.of) steps

-- whether the expression is over columns of GROUP BY alone
unfoldable pub is_over : List ℕ → Expression → Bool
is_over group expression = fold-Expression Bool (group_layer group) expression

abbrev pub item_is_over : List ℕ → Output → Bool
item_is_over group (output.Expression e) = is_over group e
item_is_over group output.CountRows = true
item_is_over group (output.Count at) = true
item_is_over group (output.Sum at) = true
item_is_over group (output.Least at) = true
item_is_over group (output.Greatest at) = true

abbrev pub sort_is_over : List ℕ → SortBy → Bool
sort_is_over group (by.Place at) = is_among group at
sort_is_over group (by.Printed column) = true

-- with GROUP BY or an aggregate each printed column is an aggregate or over columns of GROUP BY alone, and so is each of ORDER BY
abbrev pub IsGrouped : Query → Type 0
IsGrouped query = makes_groups query.group (list_any is_aggregate query.outputs) ≡ true
    → (list_all (item_is_over query.group) query.outputs ≡ true) × (list_all (λ (s : Sort). sort_is_over query.group s.by) query.sort ≡ true)

-- a query of one to four tables of the catalog, whose conditions and printed columns are of their columns
pub record SuitsQuery (catalog : Catalog) (query : Query) : Type 0 where
  pub some : 1 ≤ length query.from
  pub few : length query.from ≤ 4
  pub tables : AllByRecursion (λ (join : Join). HasTable catalog join.table) query.from
  pub starts : StartsPlain query.from
  pub ons : ons_fit catalog [] query.from ≡ true
  pub passes : condition_fits (columns_in catalog query) query.filter ≡ true
  pub group : list_all (is_column (columns_in catalog query)) query.group ≡ true
  pub prints : 1 ≤ length query.outputs
  pub outputs : list_all (output_fits (columns_in catalog query)) query.outputs ≡ true
  pub sort : list_all (λ (s : Sort). sort_fits (columns_in catalog query) (length query.outputs) s.by) query.sort ≡ true
  pub grouped : IsGrouped query

-- so whichever of its rows stands first in a group, a bound query tells the same of it
abbrev pub BoundQueriesSuitTheirGroups : Type 0
BoundQueriesSuitTheirGroups = (catalog : Catalog) (query : Query) → SuitsQuery catalog query → SuitsGroups query
