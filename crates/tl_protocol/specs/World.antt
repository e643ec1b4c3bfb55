-- The state of the protocol: the store, the managers, and what each node is doing.
use Rattle.std.specs.Prelude.{◌≡◌, ◌≤◌, ◌⊎◌, ℕ, ◌==◌, Bool, true, not, ◌&&◌, List, Option, Some}
use Rattle.std.specs.List.{AllByRecursion}
use Rattle.std.specs.FinMap as finmap
use Rattle.tl_values.specs.declared.value.Value.{Value}
use Rattle.tl_schema.specs.declared.catalog.Catalog.{Catalog}
use Rattle.tl_descriptor.specs.Tids.{TidSet, begins}
use Rattle.tl_manager.specs.declared.active.Active.{Active}
use Rattle.tl_versions.specs.declared.version.Version.{Version}
use Rattle.tl_write.specs.declared.write.Write.{Write}
use Rattle.tl_write.specs.Tables.{Tables}
use Rattle.tl_isolation.specs.declared.entry.Answer.{Answer}
use Rattle.tl_protocol.specs.Store.{Key, Cell, LogCell, CommitsCell}

-- where the number of a transaction is
pub data Number : Type 0 where
  -- above the counter
  Undrawn : Number
  -- a node draws it, and brings it to its manager
  Carried : ℕ → Number
  -- this manager may give it
  Ready : ℕ → Number
  -- a transaction of this node has it
  Begun : ℕ → Number
  -- the opening rows have it
  Opening : Number

-- what was said in a transaction: nothing yet, BEGIN, or its one statement, whose answer waits for the end
pub data Stage : Type 0 where
  Fresh : Stage
  Opened : Stage
  Answering : Answer → Stage

-- a transaction as its node knows it
pub record Txn : Type 0 where
  pub tid : ℕ
  pub snapshot : TidSet
  pub own : List Write
  pub stage : Stage

-- a read that was made
pub data Fact : Type 0 where
  -- at these keys the snapshot has these rows
  Rows : (Key → Bool) → (Key → Option (List Value)) → Fact
  -- each of its rows that is covered stands at one of these keys
  Covers : (Key → List Value → Bool) → (Key → Bool) → Fact

-- a transaction that stores its writes: the stamp of its log cell, and the records in which its version stands
pub record Attempt : Type 0 where
  pub txn : Txn
  pub log : ℕ
  pub stored : Key → Bool

-- a loaded record cell
pub record Loaded : Type 0 where
  pub key : Key
  pub stamp : ℕ
  pub versions : List Version

-- how a transaction ends: committed, or undone, where a rival was met or none
pub data Decision : Type 0 where
  Commit : Decision
  Undo : Option ℕ → Decision

-- how far a node is with its own transaction
pub data Phase : Type 0 where
  Idle : Phase
  -- the commits cell is loaded
  Noted : TidSet → Phase
  -- and the 16 numbers above this one are drawn
  Drawn : TidSet → ℕ → Phase
  -- the reads of the present statement were made
  Live : Txn → List Fact → Phase
  -- the log cell is stored; the record cell in hand
  Trying : Attempt → Option Loaded → Phase
  -- the rival; the record cell in hand
  Undoing : Attempt → Option ℕ → Option Loaded → Phase
  -- all records are seen to; the commits cell in hand
  Closing : Txn → Decision → Option CommitsCell → Phase
  -- it is finished; what is to be answered
  Ending : ℕ → Answer → Phase

-- the nodes that a recovery was given: the one that was claimed, all of them, and those that are left
pub record Duties : Type 0 where
  pub node : ℕ
  pub all : ℕ → Bool
  pub left : ℕ → Bool

-- a transaction of a vanished node
pub record Orphan : Type 0 where
  pub node : ℕ
  pub tid : ℕ

-- how far a node is with the transactions of vanished nodes
pub data Recovery : Type 0 where
  NoDuty : Recovery
  -- the orphans of the next duty are to be asked for
  Next : Duties → Recovery
  -- the orphan's log cell is to be loaded
  Reading : Duties → Orphan → Recovery
  -- its versions are removed: the log cell, the records that are seen to, the record cell in hand
  Stripping : Duties → Orphan → LogCell → (Key → Bool) → Option Loaded → Recovery
  -- it is to be finished, as committed or not; the commits cell in hand
  Finishing : Duties → Orphan → Bool → Option CommitsCell → Recovery
  -- it is finished, and still active at its manager
  Closed : Duties → Orphan → Recovery

pub record World : Type 0 where
  pub catalog : Catalog
  -- the manager of each node, and the last manager
  pub home : ℕ → ℕ
  pub top : ℕ
  -- the store
  pub cells : Key → Cell
  pub commits : CommitsCell
  pub logs : ℕ → Option LogCell
  pub counter : ℕ
  -- the managers: what each has seen finished; the numbers; for each node its active transaction, and its death notice
  pub copies : ℕ → TidSet
  pub numbers : ℕ → Number
  pub active : ℕ → Option Active
  pub notices : ℕ → Option (ℕ → Bool)
  -- the nodes; the low-water mark that a node keeps for each manager
  pub phases : ℕ → Phase
  pub recoveries : ℕ → Recovery
  pub floors : ℕ → ℕ → TidSet
  pub gone : ℕ → Bool

-- node numbers begin at 1
abbrev pub runs : World → ℕ → Bool
runs w n = not (n == 0) && not (w.gone n)

-- the node runs, and is so far with its transaction
pub record At (w : World) (n : ℕ) (phase : Phase) : Type 0 where
  pub runs : runs w n ≡ true
  pub so_far : w.phases n ≡ phase

-- the node runs, and is so far with its recovery
pub record Recovers (w : World) (n : ℕ) (recovery : Recovery) : Type 0 where
  pub runs : runs w n ≡ true
  pub so_far : w.recoveries n ≡ recovery

-- the fact is true of a table whose row at each key is this one
abbrev pub Holds : (Key → Option (List Value)) → Fact → Type 0
Holds row_at (Rows looked rows) = (k : Key) → looked k ≡ true → row_at k ≡ rows k
Holds row_at (Covers covers looked) = (k : Key) (row : List Value) → row_at k ≡ Some row → covers k row ≡ true → looked k ≡ true

-- what was read is true of the tables
abbrev pub Agrees : Tables → List Fact → Type 0
Agrees tables facts = AllByRecursion (Holds (finmap.get tables)) facts

-- the low-water mark of a manager with this copy: of the copy and the active snapshots the one that begins them all
pub record IsFloor (w : World) (manager : ℕ) (copy floor : TidSet) : Type 0 where
  pub is_one : (floor ≡ copy) ⊎ ((d : ℕ) × (x : Active) × (w.active d ≡ Some x) × (w.home d ≡ manager) × (floor ≡ x.snapshot))
  pub begins_copy : begins floor copy ≡ true
  pub begins_active : (d : ℕ) (x : Active) → w.active d ≡ Some x → w.home d ≡ manager → begins floor x.snapshot ≡ true

-- of the low-water marks that a node keeps the one that begins them all
pub record IsLeast (w : World) (n : ℕ) (floor : TidSet) : Type 0 where
  pub is_one : (j : ℕ) × (j ≤ w.top) × (floor ≡ w.floors n j)
  pub begins_all : (j : ℕ) → j ≤ w.top → begins floor (w.floors n j) ≡ true
