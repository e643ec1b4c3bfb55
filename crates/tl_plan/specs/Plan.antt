-- The plan of a statement: which records it reads, in order, and what its SELECT tells of them.
use Rattle.std.specs.Prelude.{◌≡◌, ◌<◌, ◌^◌, ℕ, Bool, not, ◌&&◌, nat_lt, List, [], ◌∷◌, map, filter, length, Result, Ok}
use Rattle.std.specs.List.{AllByRecursion, list_any}
use Rattle.tl_values.specs.declared.value.Value.{Value}
use Rattle.tl_values.specs.Key.{key_bytes}
use Rattle.tl_values.specs.Value.{is_null}
use Rattle.tl_schema.specs.declared.access.Access.{Access}
use Rattle.tl_schema.specs.declared.access.Access.TheVariants as access
use Rattle.tl_schema.specs.declared.catalog.Catalog.{Catalog}
use Rattle.tl_schema.specs.declared.catalog.Table.{Table}
use Rattle.tl_schema.specs.Record.{key_values}
use Rattle.tl_algebra.specs.declared.edit.Edit.{Edit}
use Rattle.tl_algebra.specs.declared.edit.Edit.TheVariants.{Insert, Update, Delete}
use Rattle.tl_algebra.specs.declared.fault.ValueFault.{ValueFault}
use Rattle.tl_algebra.specs.declared.query.Join.{Join}
use Rattle.tl_algebra.specs.declared.query.Query.{Query}
use Rattle.tl_algebra.specs.Select.{Tells}
use Rattle.tl_write.specs.Change.{number_of}
use Rattle.tl_isolation.specs.declared.bound.Bound.{Bound}
use Rattle.tl_isolation.specs.declared.bound.Bound.TheVariants as bound
use Rattle.tl_isolation.specs.Tables.{HasTable, table_of}
use Rattle.tl_plan.specs.Access.{access_of, accesses_of}
use Rattle.tl_plan.specs.Steps.{width}

-- the longest key that a record can have
abbrev pub longest_key : ℕ
longest_key = 255

-- a row to insert is looked up where its key has no NULL and isn't long
abbrev pub is_looked_up : Table → List Value → Bool
is_looked_up table row =
    not (list_any is_null (key_values table row)) && not (nat_lt longest_key (length (key_bytes (key_values table row))))

-- the record of the row's key
abbrev pub point_at : Table → List Value → Access
point_at table row = access.Point (key_bytes (key_values table row))

abbrev pub points_of : Table → List (List Value) → List Access
points_of table rows = map (point_at table) (filter (is_looked_up table) rows)

-- a change reads the records that it may insert, or those of its table that WHERE may let through
abbrev pub edit_accesses : Catalog → Edit → List Access
edit_accesses catalog (Insert number rows) = points_of (table_of catalog number) rows
edit_accesses catalog (Update number sets where_) = access_of (table_of catalog number) 0 where_ ∷ []
edit_accesses catalog (Delete number where_) = access_of (table_of catalog number) 0 where_ ∷ []

-- the tables of FROM
abbrev pub numbers_of : Query → List ℕ
numbers_of query = map (λ (join : Join). join.table) query.from

abbrev pub tables_of : Catalog → Query → List Table
tables_of catalog query = map (table_of catalog) (numbers_of query)

abbrev pub query_accesses : Catalog → Query → List Access
query_accesses catalog query = accesses_of (tables_of catalog query) 0 query.filter

-- what a statement reads, in order; those that aren't SELECT or a change read nothing
abbrev pub accesses_in : Catalog → Bound → List Access
accesses_in catalog (bound.Select query) = query_accesses catalog query
accesses_in catalog (bound.Change edit) = edit_accesses catalog edit
accesses_in catalog statement = []

-- the tables of FROM are tables of the catalog, of so many columns together that code can count them
pub record NamesFrom (catalog : Catalog) (query : Query) : Type 0 where
  pub tables : AllByRecursion (λ (join : Join). HasTable catalog join.table) query.from
  pub places : width (tables_of catalog query) < 2 ^ 64

-- a statement names tables of the catalog alone, as each does that was bound to it
abbrev pub NamesTables : Catalog → Bound → Type 0
NamesTables catalog (bound.Select query) = NamesFrom catalog query
NamesTables catalog (bound.Change edit) = HasTable catalog (number_of edit)
NamesTables catalog statement = Unit {0}

-- a SELECT tells what its query does of the rows of its tables, and the other statements have no rows
abbrev pub Finishes : Bound → List (List (List Value)) → Result (List (List Value)) ValueFault → Type 0
Finishes (bound.Select query) tables result = Tells query tables result
Finishes statement tables result = result ≡ Ok []
