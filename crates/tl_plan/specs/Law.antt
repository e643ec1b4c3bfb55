-- The rows within the accesses of a statement suffice for its answer.
use Rattle.std.specs.Prelude.{◌≡◌, ◌<◌, ℕ, Bool, true, List, [], ◌∷◌, ◌++◌, Option, Result, filter, length}
use Rattle.std.specs.List.{AllByRecursion}
use Rattle.std.specs.List.Sorted.{IsPermutation}
use Rattle.tl_values.specs.declared.value.Value.{Value}
use Rattle.tl_values.specs.Key.{IsValue, key_bytes}
use Rattle.tl_schema.specs.declared.access.Access.{Access}
use Rattle.tl_schema.specs.declared.catalog.Catalog.{Catalog}
use Rattle.tl_schema.specs.declared.catalog.Table.{Table}
use Rattle.tl_schema.specs.Record.{key_values, record_key}
use Rattle.tl_algebra.specs.declared.condition.Condition.{Condition}
use Rattle.tl_algebra.specs.declared.edit.Edit.{Edit}
use Rattle.tl_algebra.specs.declared.edit.Edit.TheVariants.{Insert, Update, Delete}
use Rattle.tl_algebra.specs.declared.query.Query.{Query}
use Rattle.tl_algebra.specs.declared.fault.ValueFault.{ValueFault}
use Rattle.tl_algebra.specs.Order.{SuitsGroups}
use Rattle.tl_algebra.specs.Select.{Tells, selected}
use Rattle.tl_algebra.specs.Truth.{lets_through}
use Rattle.tl_write.specs.declared.write.Write.{Write}
use Rattle.tl_write.specs.Change.{change_of, number_of}
use Rattle.tl_write.specs.Law.{Has, IsPart}
use Rattle.tl_write.specs.Tables.{Tables, is_in}
use Rattle.tl_isolation.specs.declared.bound.Bound.{Bound}
use Rattle.tl_isolation.specs.declared.bound.Bound.TheVariants as bound
use Rattle.tl_isolation.specs.Tables.{FitsTable}
use Rattle.tl_plan.specs.Access.{ColumnTest, access_of, accesses_of, covers, tests_of}
use Rattle.tl_plan.specs.Plan.{query_accesses, tables_of}

-- the columns of the primary key are columns
abbrev pub HasKey : Table → Type 0
HasKey table = AllByRecursion (λ column. column < length table.columns) table.key

-- the literals that the tests of WHERE compare with are values as programs have them
abbrev pub ComparesValues : Option Condition → Type 0
ComparesValues where_ = (place : ℕ) → AllByRecursion (λ (t : ColumnTest). IsValue t.value) (tests_of place where_)

abbrev pub is_covered : Table → Access → List Value → Bool
is_covered table access row = covers access (key_bytes (key_values table row)) row

-- a row that WHERE lets through, whatever stands before it and behind, lies within the access
abbrev pub PassingIsCovered : Type 0
PassingIsCovered = (table : Table) (where_ : Option Condition) (front row back : List Value) → HasKey table → ComparesValues where_ → FitsTable table row
    → lets_through where_ (front ++ row ++ back) ≡ true → is_covered table (access_of table (length front) where_) row ≡ true

-- the rows that are read of a table: some of its rows, in their order, and those within the access among them
pub record IsRead (table : Table) (access : Access) (whole read : List (List Value)) : Type 0 where
  pub has_key : HasKey table
  pub fits : AllByRecursion (FitsTable table) whole
  pub keeps : List Value → Bool
  pub some : read ≡ filter keeps whole
  pub all : AllByRecursion (λ row. is_covered table access row ≡ true → keeps row ≡ true) whole

-- of each table of a FROM
abbrev pub AreRead : List Table → List Access → List (List (List Value)) → List (List (List Value)) → Type 0
AreRead [] [] [] [] = Unit {0}
AreRead (table ∷ tables) (access ∷ accesses) (whole ∷ wholes) (read ∷ reads) = IsRead table access whole read × AreRead tables accesses wholes reads
AreRead tables accesses wholes reads = ⊥

-- so a SELECT selects of the rows that are read what it selects of all
abbrev pub SelectPartSuffices : Type 0
SelectPartSuffices = (query : Query) (tables : List Table) (wholes reads : List (List (List Value))) → ComparesValues query.filter
    → AreRead tables (accesses_of tables 0 query.filter) wholes reads → selected query reads ≡ selected query wholes

-- ---- so the rows that are read may come in any order

-- some rows of a table, each once and in any order, and those within the access among them
pub record IsGiven (table : Table) (access : Access) (whole given : List (List Value)) : Type 0 where
  pub read : List (List Value)
  pub is_read : IsRead table access whole read
  pub any_order : IsPermutation read given

-- of each table of a FROM
abbrev pub AreGiven : List Table → List Access → List (List (List Value)) → List (List (List Value)) → Type 0
AreGiven [] [] [] [] = Unit {0}
AreGiven (table ∷ tables) (access ∷ accesses) (whole ∷ wholes) (given ∷ givens) = IsGiven table access whole given × AreGiven tables accesses wholes givens
AreGiven tables accesses wholes givens = ⊥

-- the accesses are those of the query, and rows were read by them of whole tables
pub record Suffice (catalog : Catalog) (query : Query) (accesses : List Access) (wholes givens : List (List (List Value))) : Type 0 where
  pub planned : accesses ≡ query_accesses catalog query
  pub compares : ComparesValues query.filter
  pub groups : SuitsGroups query
  pub given : AreGiven (tables_of catalog query) accesses wholes givens

-- a SELECT tells of these rows what it tells of the whole tables
abbrev pub FinishesWhole : Bound → List Access → List (List (List Value)) → Result (List (List Value)) ValueFault → Type 0
FinishesWhole (bound.Select query) accesses givens result =
    (catalog : Catalog) (wholes : List (List (List Value))) → Suffice catalog query accesses wholes givens → Tells query wholes result
FinishesWhole statement accesses givens result = Unit {0}

-- ---- a change

-- the access of a change that has a WHERE
abbrev pub ReadsAll : Edit → Table → Tables → Tables → Type 0
ReadsAll (Insert number rows) table part whole =
    AllByRecursion (λ row. (found : List Value) → Has whole (record_key number table row) found → Has part (record_key number table row) found) rows
ReadsAll (Update number sets where_) table part whole =
    ComparesValues where_ × ((key : List ℕ) (row : List Value) → Has whole key row → is_in number key ≡ true → is_covered table (access_of table 0 where_) row ≡ true → Has part key row)
ReadsAll (Delete number where_) table part whole =
    ComparesValues where_ × ((key : List ℕ) (row : List Value) → Has whole key row → is_in number key ≡ true → is_covered table (access_of table 0 where_) row ≡ true → Has part key row)

-- and a change does on these what it does on all
abbrev pub ChangePartSuffices : Type 0
ChangePartSuffices = (edit : Edit) (table : Table) (part whole : Tables) (own : List Write) → HasKey table
    → ((key : List ℕ) (row : List Value) → Has whole key row → is_in (number_of edit) key ≡ true → FitsTable table row)
    → IsPart part whole → ReadsAll edit table part whole → change_of edit table part own ≡ change_of edit table whole own
