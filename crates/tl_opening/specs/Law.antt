-- Rows at home open a database.
use Rattle.std.specs.Prelude.{◌≡◌, ℕ, ◌+◌, List, [], ◌∷◌, ◌++◌, Ok, length}
use Rattle.std.specs.FinMap as finmap
use Rattle.std.specs.List.{AllByRecursion}
use Rattle.tl_values.specs.declared.value.Value.{Value}
use Rattle.tl_schema.specs.declared.catalog.Catalog.{Catalog}
use Rattle.tl_schema.specs.declared.catalog.OpeningRow.{OpeningRow}
use Rattle.tl_schema.specs.declared.catalog.Table.{Table}
use Rattle.tl_algebra.specs.declared.edit.Edit.TheVariants.{Insert}
use Rattle.tl_write.specs.declared.write.Effect.{Effect}
use Rattle.tl_write.specs.Change.{change_of}
use Rattle.tl_write.specs.Tables.{Tables, laid_over}
use Rattle.tl_isolation.specs.Tables.{AreHome, OpensTable, Suits, opening_writes, table_of}
use Rattle.tl_journal.specs.Binding.{TableFits, WriteFits}
use Rattle.tl_opening.specs.Insert.{StandUnderKeys}
use Rattle.tl_opening.specs.Rows.{opening_rows}

-- what is asked of the rows that a script opens with: they fit their tables, can be stored, and no two have one record key
pub record AreOpened (catalog : Catalog) (opening : List OpeningRow) : Type 0 where
  pub rows : AllByRecursion (OpensTable catalog) opening
  pub writes : AllByRecursion WriteFits (opening_writes catalog opening)
  pub distinct : length (opening_writes catalog opening) ≡ length opening

-- rows at home in tables that fit are so
abbrev pub HomeRowsOpen : Type 0
HomeRowsOpen = (catalog : Catalog) (tables : Tables) → AllByRecursion TableFits catalog.tables → AreHome catalog tables → AreOpened catalog (opening_rows tables)

-- an INSERT that suits its table leaves rows at home
abbrev pub InsertsStayHome : Type 0
InsertsStayHome = (catalog : Catalog) (number : ℕ) (rows : List (List Value)) (tables : Tables) (effect : Effect) →
    AreHome catalog tables → Suits catalog (Insert number rows) → change_of (Insert number rows) (table_of catalog number) tables [] ≡ Ok effect →
    AreHome catalog (laid_over tables effect.writes)

-- so does a table behind the others
abbrev pub TablesStayHome : Type 0
TablesStayHome = (catalog : Catalog) (table : Table) (tables : Tables) → AreHome catalog tables → AreHome (record { tables = catalog.tables ++ table ∷ [] }) tables

-- an INSERT adds as many rows as it has
abbrev pub InsertsCount : Type 0
InsertsCount = (number : ℕ) (table : Table) (rows : List (List Value)) (tables : Tables) (effect : Effect) →
    change_of (Insert number rows) table tables [] ≡ Ok effect → finmap.len (laid_over tables effect.writes) ≡ finmap.len tables + length rows

-- rows at home stand under their record keys
abbrev pub HomeStandsUnderKeys : Type 0
HomeStandsUnderKeys = (catalog : Catalog) (number : ℕ) (tables : Tables) → AreHome catalog tables → StandUnderKeys number (table_of catalog number) tables
