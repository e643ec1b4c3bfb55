-- What holds of each state that entries lead to: a row stands under its own record key, and a number is held once.
use Rattle.std.specs.Prelude.{◌≡◌, ℕ, ◌==◌, Bool, true, false, List, [], ◌∷◌, Some, map}
use Rattle.std.specs.FinMap as finmap
use Rattle.std.specs.List.{AllByRecursion, list_all, list_any}
use Rattle.tl_values.specs.declared.value.Value.{Value}
use Rattle.tl_schema.specs.declared.catalog.Catalog.{Catalog}
use Rattle.tl_schema.specs.Record.{record_key}
use Rattle.tl_algebra.specs.declared.edit.Edit.{Edit}
use Rattle.tl_algebra.specs.declared.edit.Edit.TheVariants.{Insert, Update, Delete}
use Rattle.tl_write.specs.declared.write.Write.{Write}
use Rattle.tl_write.specs.Tables.{Tables, is_in}
use Rattle.tl_isolation.specs.declared.bound.Bound.{Bound}
use Rattle.tl_isolation.specs.declared.bound.Bound.TheVariants as bound
use Rattle.tl_isolation.specs.declared.entry.Entry.{Entry}
use Rattle.tl_isolation.specs.declared.entry.Entry.TheVariants as entry
use Rattle.tl_isolation.specs.declared.state.Commit.{Commit}
use Rattle.tl_isolation.specs.declared.state.SiState.{SiState}
use Rattle.tl_isolation.specs.declared.state.Transaction.{Transaction}
use Rattle.tl_isolation.specs.Tables.{table_of}
use Rattle.tl_isolation.specs.Tables as tables

-- SET leaves the columns of the primary key, as in each statement that is bound
abbrev pub change_keeps : Catalog → Edit → Bool
change_keeps catalog (Insert number rows) = true
change_keeps catalog (Update number sets condition) = tables.keeps_key (table_of catalog number) sets
change_keeps catalog (Delete number condition) = true

abbrev pub statement_keeps : Catalog → Bound → Bool
statement_keeps catalog (bound.Change edit) = change_keeps catalog edit
statement_keeps catalog b = true

abbrev pub keeps_key : Catalog → Entry → Bool
keeps_key catalog (entry.Said node b said) = statement_keeps catalog b
keeps_key catalog e = true

abbrev pub keep_keys : Catalog → List Entry → Bool
keep_keys catalog entries = list_all (keeps_key catalog) entries

-- a row of a table stands under its own record key
abbrev pub IsHome : Catalog → List ℕ → List Value → Type 0
IsHome catalog key row = (number : ℕ) → is_in number key ≡ true → record_key number (table_of catalog number) row ≡ key

abbrev pub AreHome : Catalog → Tables → Type 0
AreHome catalog tables = (key : List ℕ) (row : List Value) → finmap.get tables key ≡ Some row → IsHome catalog key row

-- a row that is written does
abbrev pub IsHomeWrite : Catalog → Write → Type 0
IsHomeWrite catalog w = (row : List Value) → w.row ≡ Some row → IsHome catalog w.key row

abbrev pub AreHomeWrites : Catalog → List Write → Type 0
AreHomeWrites catalog writes = AllByRecursion (IsHomeWrite catalog) writes

-- no number stands twice
abbrev pub AreDistinct : List ℕ → Type 0
AreDistinct [] = Unit {0}
AreDistinct (n ∷ ns) = (list_any (λ m. m == n) ns ≡ false) × AreDistinct ns

abbrev pub tids : List Transaction → List ℕ
tids held = map (λ (t : Transaction). t.tid) held

abbrev pub AreAlone : List Transaction → Type 0
AreAlone held = AreDistinct (tids held)

pub record IsSound (catalog : Catalog) (state : SiState) : Type 0 where
  pub committed : AllByRecursion (λ (c : Commit). AreHomeWrites catalog c.writes) state.commits
  pub own : AllByRecursion (λ (t : Transaction). AreHomeWrites catalog t.own) state.held
  pub alone : AreAlone state.held
  pub begun : AllByRecursion (λ tid. list_any (λ begun. begun == tid) state.begun ≡ true) (tids state.held)
