-- Part of a view tells what the whole of it tells.
use Rattle.std.specs.Prelude.{◌≡◌, ℕ, ◌<◌, ◌^◌, IsTrue, Contains, List, Option, Some, Ok, length}
use Rattle.std.specs.List.{AllByRecursion}
use Rattle.std.specs.FinMap as finmap
use Rattle.tl_values.specs.declared.value.Value.{Value}
use Rattle.tl_schema.specs.declared.catalog.Table.{Table}
use Rattle.tl_schema.specs.Record.{record_key}
use Rattle.tl_algebra.specs.declared.condition.Condition.{Condition}
use Rattle.tl_algebra.specs.declared.edit.Edit.{Edit}
use Rattle.tl_algebra.specs.declared.edit.Edit.TheVariants.{Insert, Update, Delete}
use Rattle.tl_algebra.specs.Truth.{lets_through}
use Rattle.tl_write.specs.declared.write.Effect.{Effect}
use Rattle.tl_write.specs.declared.write.Write.{Write}
use Rattle.tl_write.specs.Change.{change_of, deeds, number_of}
use Rattle.tl_write.specs.Tables.{Tables, is_in, tables_of}

-- the row stands under the key
abbrev pub Has : Tables → List ℕ → List Value → Type 0
Has tables key row = finmap.get tables key ≡ Some row

-- the rows of the part are rows of the whole
abbrev pub IsPart : Tables → Tables → Type 0
IsPart part whole = (key : List ℕ) (row : List Value) → Has part key row → Has whole key row

-- the row is one of this table that WHERE is true of
pub record Matches (number : ℕ) (condition : Option Condition) (whole : Tables) (key : List ℕ) (row : List Value) : Type 0 where
  pub has : Has whole key row
  pub in_table : IsTrue (is_in number key)
  pub passes : IsTrue (lets_through condition row)

-- the rows of the whole that the statement looks at meet P: those under the key of a row to insert, and those that WHERE is true of
abbrev pub LooksAt : Edit → Table → Tables → (List ℕ → List Value → Type 0) → Type 0
LooksAt (Insert number rows) table whole P =
    AllByRecursion (λ row. (found : List Value) → Has whole (record_key number table row) found → P (record_key number table row) found) rows
LooksAt (Update number sets condition) table whole P = (key : List ℕ) (row : List Value) → Matches number condition whole key row → P key row
LooksAt (Delete number condition) table whole P = (key : List ℕ) (row : List Value) → Matches number condition whole key row → P key row

-- any part of a view that has the rows that the statement looks at gives the same answer
abbrev pub PartSuffices : Type 0
PartSuffices = (edit : Edit) (table : Table) (part whole : Tables) (own : List Write) →
    IsPart part whole → LooksAt edit table whole (Has part) → change_of edit table part own ≡ change_of edit table whole own

-- the row is among these, and the key is its own
abbrev pub IsListed : ℕ → Table → List (List Value) → List ℕ → List Value → Type 0
IsListed number table rows key row = Contains rows row × (record_key number table row ≡ key)

-- so does any list of rows of the view that has these, in whatever order, however often each
abbrev pub RowsSuffice : Type 0
RowsSuffice = (edit : Edit) (table : Table) (rows : List (List Value)) (whole : Tables) (own : List Write) →
    AllByRecursion (λ row. Has whole (record_key (number_of edit) table row) row) rows → LooksAt edit table whole (IsListed (number_of edit) table rows) →
    change_of edit table (tables_of (number_of edit) table rows) own ≡ change_of edit table whole own

-- a change counts its rows
abbrev pub ChangeCountsRows : Type 0
ChangeCountsRows = (edit : Edit) (table : Table) (tables : Tables) (own : List Write) (effect : Effect) →
    length (deeds edit table tables) < 2 ^ 32 → change_of edit table tables own ≡ Ok effect → effect.count ≡ length (deeds edit table tables)
