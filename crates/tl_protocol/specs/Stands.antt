-- How the store stands for the tables, what a running node knows of it, and who may mend what a vanished node left.
use Rattle.std.specs.Prelude.{◌≡◌, ℕ, ◌≤◌, ◌^◌, ◌==◌, Bool, true, false, ◌&&◌, ◌||◌, List, [], ◌∷◌, Option, Some, None}
use Rattle.std.specs.List.{list_any, AllByRecursion}
use Rattle.std.specs.FinMap as finmap
use Rattle.tl_values.specs.declared.value.Value.{Value}
use Rattle.tl_schema.specs.declared.catalog.Catalog.{Catalog}
use Rattle.tl_descriptor.specs.Tids.{TidSet, has}
use Rattle.tl_logrec.specs.declared.entry.Flag.{Flag}
use Rattle.tl_logrec.specs.declared.entry.Flag.TheVariants as flag
use Rattle.tl_manager.specs.declared.active.Active.{Active}
use Rattle.tl_versions.specs.declared.version.Version.{Version}
use Rattle.tl_isolation.specs.declared.entry.Entry.{Entry}
use Rattle.tl_isolation.specs.declared.entry.Entry.TheVariants as entry
use Rattle.tl_isolation.specs.declared.state.Transaction.{Transaction}
use Rattle.tl_isolation.specs.declared.state.SiState.{SiState}
use Rattle.tl_isolation.specs.State.{held_as, tables_after}
use Rattle.tl_isolation.specs.Tables.{IsHome}
use Rattle.std.specs.Prelude.{take}
use Rattle.tl_protocol.specs.Store.{Key, LogCell, row_shown}
use Rattle.tl_protocol.specs.World.{Phase, Idle, Noted, Drawn, Live, Trying, Undoing, Closing, Ending, World, runs}
use Rattle.tl_protocol.specs.Move.{is_named}
use Rattle.tl_protocol.specs.Next.{log_cell, owed}

-- whether the entry finishes the transaction
abbrev pub finishes : ℕ → Entry → Bool
finishes tid (entry.Committed t) = t == tid
finishes tid (entry.Undone t) = t == tid
finishes tid e = false

abbrev pub is_undone : Flag → Bool
is_undone flag.Trying = false
is_undone flag.Decided = false
is_undone flag.Undone = true

-- the log cell names the record, and none of its versions is to be removed
abbrev pub Names : Key → Option LogCell → Type 0
Names k None = ⊥
Names k (Some log) = (is_named k log.entry.writes ≡ true) × (is_undone log.entry.flag ≡ false)

-- in a record cell only the first version may be of a transaction that isn't finished; then its log cell names the record
abbrev pub FirstAlone : (ℕ → Option LogCell) → TidSet → Key → List Version → Type 0
FirstAlone logs finished k [] = Unit {0}
FirstAlone logs finished k (v ∷ vs) =
    (has finished v.tid ≡ false → Names k (logs v.tid)) × AllByRecursion (λ (x : Version). has finished x.tid ≡ true) vs

-- the key is that of a record: of a row that a table of the catalog may have
abbrev pub IsKeyOf : Catalog → Key → Type 0
IsKeyOf catalog key = (row : List Value) × IsHome catalog key row

-- a version in a record cell: its row, if it has one, is home under the key of the cell
pub record IsVersionFor (catalog : Catalog) (key : Key) (v : Version) : Type 0 where
  pub tid : v.tid ≤ 2 ^ 62
  pub is_key : IsKeyOf catalog key
  pub home : (row : List Value) → v.row ≡ Some row → IsHome catalog key row

-- a log cell is of the transaction of its key, and names records
pub record IsLogFor (catalog : Catalog) (tid : ℕ) (log : LogCell) : Type 0 where
  pub own : log.entry.tid ≡ tid
  pub small : tid ≤ 2 ^ 62
  pub keys : AllByRecursion (IsKeyOf catalog) log.entry.writes

-- the store stands for the tables of the history so far
pub record StandsFor (w : World) (state : SiState) (entries : List Entry) : Type 0 where
  -- a held transaction is active at its manager, and its snapshot shows of each record what its first commits left
  pub snapshots : (tid : ℕ) (t : Transaction) → held_as tid state.held ≡ Some t
      → (x : Active) × (w.active t.node ≡ Some x) × (x.tid ≡ t.tid)
      × ((k : Key) → row_shown x.snapshot (w.cells k).versions ≡ finmap.get (tables_after (take t.first state.commits)) k)
  -- the set in the commits cell shows what all commits left
  pub now : (k : Key) → row_shown w.commits.finished (w.cells k).versions ≡ finmap.get (tables_after state.commits) k
  -- it has the transactions of which it was told that they are committed or undone, and tid 0
  pub finished : (tid : ℕ) → has w.commits.finished tid ≡ (tid == 0 || list_any (finishes tid) entries)
  pub first_alone : (k : Key) → FirstAlone w.logs w.commits.finished k (w.cells k).versions
  -- each cell is a cell for its key
  pub records : (k : Key) → AllByRecursion (IsVersionFor w.catalog k) (w.cells k).versions
  pub logs : (tid : ℕ) (log : LogCell) → w.logs tid ≡ Some log → IsLogFor w.catalog tid log

-- what stands in the log cell of a running node's transaction, and at its manager
abbrev pub HasInLog : World → ℕ → Phase → Type 0
HasInLog w n Idle = w.active n ≡ None
HasInLog w n (Noted seen) = w.active n ≡ None
HasInLog w n (Drawn seen low) = w.active n ≡ None
HasInLog w n (Live t facts) = (w.logs t.tid ≡ None) × (w.active n ≡ Some (record { tid = t.tid; node = n; snapshot = t.snapshot }))
HasInLog w n (Trying a l) =
    (w.logs a.txn.tid ≡ Some (log_cell a.log n flag.Trying a.txn)) × (w.active n ≡ Some (record { tid = a.txn.tid; node = n; snapshot = a.txn.snapshot }))
HasInLog w n (Undoing a rival l) =
    (w.logs a.txn.tid ≡ Some (log_cell a.log n flag.Trying a.txn)) × (w.active n ≡ Some (record { tid = a.txn.tid; node = n; snapshot = a.txn.snapshot }))
HasInLog w n (Closing t d c) = w.active n ≡ Some (record { tid = t.tid; node = n; snapshot = t.snapshot })
HasInLog w n (Ending tid told) = (s : TidSet) × (w.active n ≡ Some (record { tid = tid; node = n; snapshot = s }))

-- the death notice of a node names this one
abbrev pub posted : Option (ℕ → Bool) → ℕ → ℕ → Bool
posted None gone d = false
posted (Some also) gone d = gone == d || also d

-- the running node is to recover this one
abbrev pub has_duty : World → ℕ → ℕ → Bool
has_duty w r d = runs w r && owed (w.recoveries r) d

-- who may mend what a vanished node left: whoever takes a death notice, or a running node
pub data Mender : Type 0 where
  Notice : ℕ → Mender
  Duty : ℕ → Mender

abbrev pub mends : World → ℕ → Mender → Bool
mends w d (Notice gone) = posted (w.notices gone) gone d
mends w d (Duty r) = has_duty w r d

-- a vanished node with an active transaction stands in exactly one death notice or in the duties of exactly one running node
abbrev pub HasOneMender : World → ℕ → Type 0
HasOneMender w d = (m : Mender) × (mends w d m ≡ true) × ((other : Mender) → mends w d other ≡ true → other ≡ m)
