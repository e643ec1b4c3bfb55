-- What the reader of scripts lets through: statements and opening rows that fit their tables, keys and rows of a bounded size.
use Rattle.std.specs.Prelude.{◌≡◌, ℕ, ◌==◌, ◌<◌, ◌≤◌, ◌^◌, zero, suc, Bool, true, false, List, [], ◌∷◌, length, Option, Some, None}
use Rattle.std.specs.List.{AllByRecursion, list_any}
use Rattle.tl_base.specs.declared.place.Settings.{Settings}
use Rattle.tl_values.specs.declared.value.Value.{Value}
use Rattle.tl_schema.specs.declared.catalog.Catalog.{Catalog}
use Rattle.tl_schema.specs.declared.catalog.Column.{Column}
use Rattle.tl_schema.specs.declared.catalog.Index.{Index}
use Rattle.tl_schema.specs.declared.catalog.Table.{Table}
use Rattle.tl_schema.specs.Row.{row_spelling}
use Rattle.tl_versions.specs.Cell.{AreChanges}
use Rattle.tl_algebra.specs.declared.edit.Edit.{Edit}
use Rattle.tl_algebra.specs.declared.edit.Edit.TheVariants.{Insert, Update, Delete}
use Rattle.tl_algebra.specs.declared.edit.SetColumn.{SetColumn}
use Rattle.tl_write.specs.declared.write.Write.{Write}
use Rattle.tl_isolation.specs.declared.bound.Bound.{Bound}
use Rattle.tl_isolation.specs.declared.bound.Bound.TheVariants as bound
use Rattle.tl_isolation.specs.declared.script.Script.{Script}
use Rattle.tl_isolation.specs.declared.script.Session.{Session}
use Rattle.tl_isolation.specs.declared.script.TurnItem.{TurnItem}
use Rattle.tl_isolation.specs.declared.script.TurnItem.TheVariants.{One, Until}
use Rattle.tl_isolation.specs.declared.script.Vanish.{Vanish}
use Rattle.tl_isolation.specs.Queries.{SuitsQuery}
use Rattle.tl_isolation.specs.Script.{setup_of}
use Rattle.tl_isolation.specs.Tables.{OpensFitting, Suits, opening_writes}
use Rattle.tl_plan.specs.Law.{HasKey}
use Rattle.tl_protocol.specs.Move.{is_empty}
use Rattle.tl_protocol.specs.Store.{Key}
use Rattle.tl_journal.specs.Served.{is_record_key}

-- no two of these have one number
abbrev pub EachOnce : {A : Type 0} → (A → ℕ) → List A → Type 0
EachOnce number_in [] = Unit {0}
EachOnce number_in (x ∷ xs) = (list_any (λ y. number_in x == number_in y) xs ≡ false) × EachOnce number_in xs

-- whether the column at this place refuses NULL
abbrev pub refuses_null : List Column → ℕ → Bool
refuses_null [] place = false
refuses_null (column ∷ columns) zero = column.not_null
refuses_null (column ∷ columns) (suc place) = refuses_null columns place

-- the primary key is of one column or more, which refuse NULL
pub record IsKeyed (table : Table) : Type 0 where
  pub columns : HasKey table
  pub some : is_empty table.key ≡ false
  pub not_null : AllByRecursion (λ place. refuses_null table.columns place ≡ true) table.key

-- an index is of one column or more of the table, none twice
pub record IndexFits (table : Table) (index : Index) : Type 0 where
  pub some : is_empty index.columns ≡ false
  pub columns : AllByRecursion (λ place. place < length table.columns) index.columns
  pub once : EachOnce (λ (place : ℕ). place) index.columns

-- a table has a primary key, which has no column twice, at most 32 columns and at most 8 indexes
pub record TableFits (table : Table) : Type 0 where
  pub keyed : IsKeyed table
  pub once : EachOnce (λ (place : ℕ). place) table.key
  pub key : length table.key ≤ 32
  pub columns : length table.columns ≤ 32
  pub indexes : AllByRecursion (IndexFits table) table.indexes
  pub few : length table.indexes ≤ 8

-- a key of a record, short enough for a log cell
pub record KeyFits (key : Key) : Type 0 where
  pub is_record : is_record_key key ≡ true
  pub short : length key < 2 ^ 16

-- a row has at most 1,024 bytes
abbrev pub IsBrief : Option (List Value) → Type 0
IsBrief None = Unit {0}
IsBrief (Some row) = length (row_spelling row) ≤ 1024

-- a write that can be stored
pub record WriteFits (w : Write) : Type 0 where
  pub key : KeyFits w.key
  pub row : AreChanges w.row
  pub brief : IsBrief w.row

-- INSERT has a row, and SET has a column and none twice
abbrev pub IsWritten : Edit → Type 0
IsWritten (Insert number rows) = 1 ≤ length rows
IsWritten (Update number sets where_) = (1 ≤ length sets) × EachOnce (λ (set : SetColumn). set.column) sets
IsWritten (Delete number where_) = Unit {0}

-- a change that binding lets through
pub record EditFits (catalog : Catalog) (edit : Edit) : Type 0 where
  pub suits : Suits catalog edit
  pub written : IsWritten edit

-- a statement that binding lets through
abbrev pub StatementFits : Catalog → Bound → Type 0
StatementFits catalog (bound.Select query) = SuitsQuery catalog query
StatementFits catalog (bound.Change edit) = EditFits catalog edit
StatementFits catalog (bound.Recover gone) = (1 ≤ gone) × (gone ≤ 16)
StatementFits catalog statement = Unit {0}

-- a node has a session
abbrev pub has_session : List Session → ℕ → Bool
has_session sessions node = list_any (λ (s : Session). s.node == node) sessions

-- an item of the schedule is of a node with a session
abbrev pub ItemFits : List Session → TurnItem → Type 0
ItemFits sessions (One node times) = (has_session sessions node ≡ true) × (1 ≤ times) × (times ≤ 100000)
ItemFits sessions (Until node statement) = (has_session sessions node ≡ true) × (1 ≤ statement) × (statement ≤ 1000000)

-- a node with a session vanishes, after one request or store at least
pub record VanishFits (sessions : List Session) (v : Vanish) : Type 0 where
  pub session : has_session sessions v.node ≡ true
  pub least : 1 ≤ v.count
  pub most : v.count ≤ 100000

-- a script that the reader lets through
pub record IsBound (script : Script) (settings : Settings) : Type 0 where
  pub some : 1 ≤ length script.catalog.tables
  pub few : length script.catalog.tables ≤ 64
  pub tables : AllByRecursion TableFits script.catalog.tables
  pub nodes : AllByRecursion (λ (s : Session). (1 ≤ s.node) × (s.node ≤ 16)) script.sessions
  pub sessions : EachOnce (λ (s : Session). s.node) script.sessions
  pub statements : AllByRecursion (λ (s : Session). AllByRecursion (StatementFits script.catalog) s.statements) script.sessions
  pub turns : AllByRecursion (ItemFits script.sessions) script.turns
  pub vanishes : EachOnce (λ (v : Vanish). v.node) script.vanishes
  pub counts : AllByRecursion (VanishFits script.sessions) script.vanishes
  pub opening : OpensFitting (setup_of script settings)
  pub writes : AllByRecursion WriteFits (opening_writes script.catalog script.rows)
  -- no two rows have one record key
  pub distinct : length (opening_writes script.catalog script.rows) ≡ length script.rows
