-- The tables that a database opens with, and the tables of a catalog by their numbers.
use Rattle.std.specs.Prelude.{◌≡◌, ℕ, ◌<◌, ◌==◌, Bool, true, not, List, [], ◌∷◌, Option, Some, None, length, map, unwrap_or, slice_get}
use Rattle.std.specs.FinMap as finmap
use Rattle.std.specs.List.{AllByRecursion, list_all, list_any}
use Rattle.tl_values.specs.declared.value.Value.{Value}
use Rattle.tl_schema.specs.declared.catalog.Table.{Table}
use Rattle.tl_schema.specs.declared.catalog.Catalog.{Catalog}
use Rattle.tl_schema.specs.declared.catalog.Column.{Column}
use Rattle.tl_values.specs.Key.{AreValues}
use Rattle.tl_schema.specs.declared.catalog.OpeningRow.{OpeningRow}
use Rattle.tl_schema.specs.declared.catalog.Setup.{Setup}
use Rattle.tl_write.specs.Change.{number_of, row_offence}
use Rattle.tl_write.specs.declared.fault.ChangeFault.{ChangeFault}
use Rattle.tl_schema.specs.Record.{record_key}
use Rattle.tl_algebra.specs.declared.edit.Edit.{Edit}
use Rattle.tl_algebra.specs.declared.edit.Edit.TheVariants.{Insert, Update, Delete}
use Rattle.tl_algebra.specs.declared.edit.SetColumn.{SetColumn}
use Rattle.tl_write.specs.declared.write.Write.{Write}
use Rattle.tl_write.specs.Own.{put_write}
use Rattle.tl_write.specs.Tables.{Tables, records_in}
use Rattle.tl_isolation.specs.Kinds.{are_of_kinds, condition_fits, gives_kind, has_column}

abbrev pub no_table : Table
no_table = record { name = []; columns = []; key = []; indexes = [] }

-- the catalog has a table of this number
abbrev pub HasTable : Catalog → ℕ → Type 0
HasTable catalog number = number < length catalog.tables

-- the table of this number
abbrev pub table_of : Catalog → ℕ → Table
table_of catalog number = unwrap_or (slice_get catalog.tables number) no_table

-- the rows of the table of this number, in the order of their keys
abbrev pub rows_in : ℕ → Tables → List (List Value)
rows_in number tables = map (λ e. e.1) (records_in number tables)

-- the opening rows, in rising order of record keys
abbrev pub opening_writes : Catalog → List OpeningRow → List Write
opening_writes catalog [] = []
opening_writes catalog (o ∷ os) =
    put_write (record { key = record_key o.table (table_of catalog o.table) o.row; row = Some o.row }) (opening_writes catalog os)

-- a row of the table: one value for each column, NULL or of its kind, and values as programs have them
pub record FitsTable (table : Table) (row : List Value) : Type 0 where
  pub width : length row ≡ length table.columns
  pub values : AreValues row
  pub kinds : are_of_kinds table.columns row ≡ true

-- the table doesn't refuse the row: it breaks no NOT NULL, and isn't long
abbrev pub IsAccepted : Table → List Value → Type 0
IsAccepted table row = ◌≡◌ {A = Option ChangeFault} (row_offence table row) None

-- the row is one that a table of the catalog may have, and stands under its own record key
pub record IsHome (catalog : Catalog) (key : List ℕ) (row : List Value) : Type 0 where
  pub number : ℕ
  pub table : HasTable catalog number
  pub fits : FitsTable (table_of catalog number) row
  pub accepted : IsAccepted (table_of catalog number) row
  pub own_key : key ≡ record_key number (table_of catalog number) row

-- each row is
abbrev pub AreHome : Catalog → Tables → Type 0
AreHome catalog tables = (key : List ℕ) (row : List Value) → finmap.get tables key ≡ Some row → IsHome catalog key row

-- whether SET leaves the columns of the primary key
abbrev pub keeps_key : Table → List SetColumn → Bool
keeps_key table sets = not (list_any (λ (set : SetColumn). list_any (λ place. place == set.column) table.key) sets)

-- there is such a column, and what it is set to is of its kind
abbrev pub sets_its_kind : List Column → SetColumn → Bool
sets_its_kind columns set = has_column (gives_kind columns set.value) columns set.column

-- the change is one of this table, as every bound statement: its rows fit, SET leaves the primary key and sets columns to what is
-- of their kinds, and WHERE compares what is of one kind
abbrev pub SuitsTable : Table → Edit → Type 0
SuitsTable table (Insert number rows) = AllByRecursion (FitsTable table) rows
SuitsTable table (Update number sets condition) = (keeps_key table sets ≡ true) × (list_all (sets_its_kind table.columns) sets ≡ true) × (condition_fits table.columns condition ≡ true)
SuitsTable table (Delete number condition) = condition_fits table.columns condition ≡ true

-- the change is of a table of the catalog
pub record Suits (catalog : Catalog) (edit : Edit) : Type 0 where
  pub table : HasTable catalog (number_of edit)
  pub change : SuitsTable (table_of catalog (number_of edit)) edit

-- an opening row fits its table, which doesn't refuse it
pub record OpensTable (catalog : Catalog) (o : OpeningRow) : Type 0 where
  pub table : HasTable catalog o.table
  pub fits : FitsTable (table_of catalog o.table) o.row
  pub accepted : IsAccepted (table_of catalog o.table) o.row

-- each opening row does
abbrev pub OpensFitting : Setup → Type 0
OpensFitting setup = AllByRecursion (OpensTable setup.catalog) setup.rows
