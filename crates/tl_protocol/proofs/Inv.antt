-- What holds after every move: of the store, the managers and the ledger (`Core`), and of the nodes (`Link`).
use Rattle.std.proofs.Common.{◌≡◌, ℕ, ◌<◌, ◌≤◌, Bool, true, false, ◌⊎◌, List, ◌∷◌, length, Option, Some, None}
use Rattle.std.specs.Prelude.{◌==◌, ◌^◌, ◌||◌, ◌&&◌, not, if◌then◌else◌}
use Rattle.std.specs.List.{AllByRecursion, list_any}
use Rattle.tl_values.specs.declared.value.Value.{Value}
use Rattle.tl_descriptor.specs.Tids.{TidSet, IsWithin, has}
use Rattle.tl_logrec.specs.declared.entry.Flag.{Flag}
use Rattle.tl_logrec.specs.declared.entry.Flag.TheVariants as flag
use Rattle.tl_manager.specs.declared.active.Active.{Active}
use Rattle.tl_versions.specs.declared.version.Version.{Version}
use Rattle.tl_versions.specs.Versions.{is_written as is_borne, stranger}
use Rattle.tl_write.specs.Own.{is_written}
use Rattle.tl_isolation.specs.declared.entry.Answer.{Answer}
use Rattle.tl_isolation.specs.declared.state.Commit.{Commit}
use Rattle.tl_isolation.specs.declared.state.Transaction.{Transaction}
use Rattle.tl_isolation.specs.declared.state.TxnPhase.{TxnPhase}
use Rattle.tl_isolation.specs.declared.state.TxnPhase.TheVariants as phase
use Rattle.tl_isolation.specs.declared.state.SiState.{SiState}
use Rattle.tl_isolation.specs.State.{is_lost}
use Rattle.tl_isolation.specs.Step.{may_undo}
use Rattle.tl_protocol.specs.Store.{Key, Cell, LogCell, CommitsCell, written}
use Rattle.tl_protocol.specs.World.{Number, Undrawn, Carried, Ready, Begun, Opening, Stage, Fresh, Opened, Answering, Txn, Fact, Holds, Attempt, Loaded, Decision, Commit as ToCommit, Undo, Phase, Idle, Noted, Drawn, Live, Trying, Undoing, Closing, Ending, Duties, Orphan, Recovery, NoDuty, Next, Reading, Stripping, Finishing, Closed, World}
use Rattle.tl_protocol.specs.Move.{Move, is_empty}
use Rattle.tl_protocol.specs.Next.{is_drawn, log_cell, next, owed, unanswered}
use Rattle.tl_protocol.specs.Stands.{Mender, Notice, Duty, finishes, posted}
use Rattle.tl_protocol.specs.Told.{told}
use Rattle.tl_protocol.proofs.Ledger.{Clear, Ledger, Seat, view}
use Rattle.tl_protocol.proofs.Shown.{Proper, Shows, Tells}
use Rattle.tl_protocol.proofs.Finished.{AreDistinct, Finished, Known, OpensWith, Snap, commits_of, firsts, is_done}
use Rattle.tl_protocol.proofs.History.{IsKept, history}

-- the version in front of a cell whose transaction isn't finished
pub record Front : Type 0 where
  pub node : ℕ
  pub tid : ℕ
  pub row : Option (List Value)
  pub first : ℕ

-- a cell is the history of its record, with at most one version in front; then all below it is in the snapshot of that one
abbrev pub CellOk : List Commit → Key → TidSet → List Version → Option Front → Type 0
CellOk cs k cut vs None = IsKept (history k cs) cut vs
CellOk cs k cut vs (Some f) =
    (kept : List Version) × (vs ≡ record { tid = f.tid; row = f.row } ∷ kept) × IsKept (history k cs) cut kept × Clear f.first k cs

-- the parts of the state that the facts of a node speak of
pub record Shared : Type 0 where
  pub cells : Key → Cell
  pub commits : CommitsCell
  pub logs : ℕ → Option LogCell
  pub numbers : ℕ → Number
  pub fronts : Key → Option Front
  pub finished : List Finished

abbrev pub is_opened : Stage → Bool
is_opened Fresh = false
is_opened Opened = true
is_opened (Answering told) = false

-- a node's transaction as the machine of snapshot isolation holds it
abbrev pub held_txn : ℕ → ℕ → Txn → TxnPhase → Bool → Option ℕ → Transaction
held_txn i first t p tried rival =
    record {
      tid = t.tid;
      node = i;
      first = first;
      own = t.own;
      phase = p;
      opened = is_opened t.stage;
      tried = tried;
      rival = rival;
      unanswered = unanswered t.stage;
    }

abbrev pub unless_lost : Bool → TxnPhase → TxnPhase
unless_lost vanished p = if vanished then phase.Lost else p

-- the transaction t of node i, whose version stands in the cells that stored says
pub record TxnOk (s : Shared) (i : ℕ) (t : Txn) (stored : Key → Bool) (held : Option Transaction) (p : TxnPhase) (tried : Bool) (rival : Option ℕ) : Type 0 where
  pub m : ℕ
  pub known : Known t.snapshot m s.finished
  pub first : ℕ
  pub first_is : first ≡ firsts m s.finished
  pub begun : s.numbers t.tid ≡ Begun i
  pub unfinished : is_done t.tid s.finished ≡ false
  pub is_held : held ≡ Some (held_txn i first t p tried rival)
  pub stands : (k : Key) → stored k ≡ true
      → (row : Option (List Value)) × (written k t.own ≡ Some row) × (s.fronts k ≡ Some (record { node = i; tid = t.tid; row = row; first = first }))
  pub only : (k : Key) (f : Front) → s.fronts k ≡ Some f → f.node ≡ i → stored k ≡ true

-- a node with no transaction
pub record FreeOk (fronts : Key → Option Front) (i : ℕ) (held : Option Transaction) : Type 0 where
  pub not_held : held ≡ None
  pub nowhere : (k : Key) (f : Front) → fronts k ≡ Some f → f.node ≡ i → ⊥

abbrev pub InHand : {A : Type 0} → (A → Type 0) → Option A → Type 0
InHand P None = Unit {0}
InHand P (Some l) = P l

-- a loaded cell: the cell is the same where its stamp is
pub record LoadOk (cells : Key → Cell) (l : Loaded) : Type 0 where
  pub before : l.stamp ≤ (cells l.key).stamp
  pub same : (cells l.key).stamp ≡ l.stamp → (cells l.key).versions ≡ l.versions

pub record SeenOk (commits : CommitsCell) (c : CommitsCell) : Type 0 where
  pub before : c.stamp ≤ commits.stamp
  pub same : commits.stamp ≡ c.stamp → commits.finished ≡ c.finished

pub record OwnLoad (cells : Key → Cell) (a : Attempt) (l : Loaded) : Type 0 where
  pub load : LoadOk cells l
  pub not_yet : a.stored l.key ≡ false
  pub is_own : is_written l.key a.txn.own ≡ true
  pub no_stranger : stranger a.txn.snapshot l.versions ≡ None

pub record UndoLoad (cells : Key → Cell) (stored : Key → Bool) (l : Loaded) : Type 0 where
  pub load : LoadOk cells l
  pub still : stored l.key ≡ true

pub record BearLoad (cells : Key → Cell) (tid : ℕ) (l : Loaded) : Type 0 where
  pub load : LoadOk cells l
  pub bears_it : is_borne tid l.versions ≡ true

abbrev pub nowhere : Key → Bool
nowhere k = false

abbrev pub own_stored : Txn → Key → Bool
own_stored t k = is_written k t.own

-- what was read is what the first commits left
abbrev pub FactOk : ℕ → List Commit → Fact → Type 0
FactOk first cs fact = Holds (λ k. view first k cs) fact

pub record IdleOk (s : Shared) (i : ℕ) (seat : Seat) : Type 0 where
  pub free : FreeOk s.fronts i seat.held
  pub answered : seat.vanished ≡ false → seat.outcome ≡ None

pub record NotedOk (s : Shared) (i : ℕ) (seen : TidSet) (seat : Seat) : Type 0 where
  pub free : FreeOk s.fronts i seat.held
  pub m : ℕ
  pub known : Known seen m s.finished
  pub noted : seat.vanished ≡ false → seat.noted ≡ Some (firsts m s.finished)

pub record DrawnOk (s : Shared) (i : ℕ) (seen : TidSet) (low : ℕ) (seat : Seat) : Type 0 where
  pub noted : NotedOk s i seen seat
  pub drawn : (t : ℕ) → is_drawn low t ≡ true → s.numbers t ≡ Carried i

pub record LiveOk (s : Shared) (i : ℕ) (t : Txn) (facts : List Fact) (seat : Seat) : Type 0 where
  pub txn : TxnOk s i t nowhere seat.held (unless_lost seat.vanished phase.Live) false None
  pub log : s.logs t.tid ≡ None
  pub reads : AllByRecursion (FactOk txn.first (commits_of s.finished)) facts

pub record TryingOk (s : Shared) (i : ℕ) (a : Attempt) (l : Option Loaded) (seat : Seat) : Type 0 where
  pub txn : TxnOk s i a.txn a.stored seat.held (unless_lost seat.vanished phase.Trying) true None
  pub log : s.logs a.txn.tid ≡ Some (log_cell a.log i flag.Trying a.txn)
  pub hand : InHand (OwnLoad s.cells a) l

-- it gives up: it has a rival, or its node has vanished
pub record UndoingOk (s : Shared) (i : ℕ) (a : Attempt) (rival : Option ℕ) (l : Option Loaded) (seat : Seat) : Type 0 where
  pub p : TxnPhase
  pub txn : TxnOk s i a.txn a.stored seat.held p true rival
  pub runs : seat.vanished ≡ false → is_lost p ≡ false
  pub gives_up : may_undo (held_txn i txn.first a.txn p true rival) ≡ true
  pub log : s.logs a.txn.tid ≡ Some (log_cell a.log i flag.Trying a.txn)
  pub hand : InHand (UndoLoad s.cells a.stored) l

-- the log of a transaction that is to be committed: decided, or none where nothing is written
pub data CommitLog : ℕ → Txn → Option LogCell → Type 0 where
  Nothing : (i : ℕ) (t : Txn) → is_empty t.own ≡ true → CommitLog i t None
  Said : (i : ℕ) (t : Txn) (stamp : ℕ) → CommitLog i t (Some (log_cell stamp i flag.Decided t))

-- a log without versions: there is none, or all are removed
pub data Blank : ℕ → Txn → Option LogCell → Type 0 where
  NoLog : (i : ℕ) (t : Txn) → Blank i t None
  Removed : (i : ℕ) (t : Txn) (stamp : ℕ) → Blank i t (Some (log_cell stamp i flag.Undone t))

pub record CommittingOk (s : Shared) (i : ℕ) (t : Txn) (c : Option CommitsCell) (seat : Seat) : Type 0 where
  pub txn : TxnOk s i t (own_stored t) seat.held (unless_lost seat.vanished phase.Trying) true None
  pub log : CommitLog i t (s.logs t.tid)
  pub hand : InHand (SeenOk s.commits) c

pub record UndoneOk (s : Shared) (i : ℕ) (t : Txn) (rival : Option ℕ) (c : Option CommitsCell) (seat : Seat) : Type 0 where
  pub p : TxnPhase
  pub tried : Bool
  pub txn : TxnOk s i t nowhere seat.held p tried rival
  pub runs : seat.vanished ≡ false → is_lost p ≡ false
  pub gives_up : may_undo (held_txn i txn.first t p tried rival) ≡ true
  pub log : Blank i t (s.logs t.tid)
  pub hand : InHand (SeenOk s.commits) c

abbrev pub is_trying : Option LogCell → Bool
is_trying None = false
is_trying (Some log) = by log.entry.flag
  where
    by : Flag → Bool
    by flag.Trying = true
    by flag.Decided = false
    by flag.Undone = false

-- a transaction that is finished and not ended
pub record EndingOk (s : Shared) (i tid : ℕ) (told : Answer) (seat : Seat) : Type 0 where
  pub free : FreeOk s.fronts i seat.held
  pub begun : s.numbers tid ≡ Begun i
  pub finished : is_done tid s.finished ≡ true
  pub log : is_trying (s.logs tid) ≡ false
  pub answer : seat.vanished ≡ false → seat.outcome ≡ Some told

abbrev pub NodeOk : Shared → ℕ → Phase → Seat → Type 0
NodeOk s i Idle seat = IdleOk s i seat
NodeOk s i (Noted seen) seat = NotedOk s i seen seat
NodeOk s i (Drawn seen low) seat = DrawnOk s i seen low seat
NodeOk s i (Live t facts) seat = LiveOk s i t facts seat
NodeOk s i (Trying a l) seat = TryingOk s i a l seat
NodeOk s i (Undoing a rival l) seat = UndoingOk s i a rival l seat
NodeOk s i (Closing t ToCommit c) seat = CommittingOk s i t c seat
NodeOk s i (Closing t (Undo rival) c) seat = UndoneOk s i t rival c seat
NodeOk s i (Ending tid told) seat = EndingOk s i tid told seat

-- the transaction of a phase, if there is one that isn't finished
abbrev pub txn_in : Phase → Option Txn
txn_in Idle = None
txn_in (Noted seen) = None
txn_in (Drawn seen low) = None
txn_in (Live t facts) = Some t
txn_in (Trying a l) = Some a.txn
txn_in (Undoing a rival l) = Some a.txn
txn_in (Closing t d c) = Some t
txn_in (Ending tid told) = None

-- its number, if it isn't ended
abbrev pub tid_of : Phase → Option ℕ
tid_of Idle = None
tid_of (Noted seen) = None
tid_of (Drawn seen low) = None
tid_of (Live t facts) = Some t.tid
tid_of (Trying a l) = Some a.txn.tid
tid_of (Undoing a rival l) = Some a.txn.tid
tid_of (Closing t d c) = Some t.tid
tid_of (Ending tid told) = Some tid

abbrev pub active_txn : ℕ → Txn → Active
active_txn i t = record { tid = t.tid; node = i; snapshot = t.snapshot }

-- what the manager has of it
abbrev pub ActiveOk : ℕ → Phase → Option Active → Type 0
ActiveOk i Idle o = o ≡ None
ActiveOk i (Noted seen) o = o ≡ None
ActiveOk i (Drawn seen low) o = o ≡ None
ActiveOk i (Live t facts) o = o ≡ Some (active_txn i t)
ActiveOk i (Trying a l) o = o ≡ Some (active_txn i a.txn)
ActiveOk i (Undoing a rival l) o = o ≡ Some (active_txn i a.txn)
ActiveOk i (Closing t d c) o = o ≡ Some (active_txn i t)
ActiveOk i (Ending tid told) o = (snapshot : TidSet) × (o ≡ Some (record { tid = tid; node = i; snapshot = snapshot }))

-- the managers, the low-water marks that nodes keep, and those by which cells were pruned: none is above a copy or an active snapshot
pub record ManagersOk (home : ℕ → ℕ) (top : ℕ) (floors : ℕ → ℕ → TidSet) (copies : ℕ → TidSet) (active : ℕ → Option Active) (cuts : Key → TidSet) (ds : List Finished) : Type 0 where
  pub at_home : (n : ℕ) → home n ≤ top
  pub copy_known : (m : ℕ) → Snap (copies m) ds
  pub snaps : (d : ℕ) (x : Active) → active d ≡ Some x → Snap x.snapshot ds
  pub floor_known : (i j : ℕ) → Snap (floors i j) ds
  pub floor_copy : (i j : ℕ) → IsWithin (floors i j) (copies j)
  pub floor_snap : (i d : ℕ) (x : Active) → active d ≡ Some x → IsWithin (floors i (home d)) x.snapshot
  pub cut_copy : (k : Key) (j : ℕ) → j ≤ top → IsWithin (cuts k) (copies j)
  pub cut_snap : (k : Key) (d : ℕ) (x : Active) → active d ≡ Some x → IsWithin (cuts k) x.snapshot

abbrev pub is_begun : Number → Bool
is_begun Undrawn = false
is_begun (Carried n) = false
is_begun (Ready m) = false
is_begun (Begun n) = true
is_begun Opening = false

-- a transaction or the opening rows have it
abbrev pub is_taken : Number → Bool
is_taken Undrawn = false
is_taken (Carried n) = false
is_taken (Ready m) = false
is_taken (Begun n) = true
is_taken Opening = true

pub record NumbersOk (numbers : ℕ → Number) (counter : ℕ) : Type 0 where
  pub opening : numbers 0 ≡ Opening
  pub undrawn : (t : ℕ) → counter < t → numbers t ≡ Undrawn
  pub small : counter ≤ 2 ^ 62
  -- node numbers begin at 1
  pub begun_at : (t i : ℕ) → numbers t ≡ Begun i → 1 ≤ i

-- the store and the managers
pub record Base : Type 0 where
  pub home : ℕ → ℕ
  pub top : ℕ
  pub cells : Key → Cell
  pub commits : CommitsCell
  pub logs : ℕ → Option LogCell
  pub counter : ℕ
  pub copies : ℕ → TidSet
  pub numbers : ℕ → Number
  pub active : ℕ → Option Active
  pub floors : ℕ → ℕ → TidSet

abbrev pub base : World → Base
base w =
    record {
      home = w.home;
      top = w.top;
      cells = w.cells;
      commits = w.commits;
      logs = w.logs;
      counter = w.counter;
      copies = w.copies;
      numbers = w.numbers;
      active = w.active;
      floors = w.floors;
    }

-- what the proof keeps beside the state
pub record Ghost : Type 0 where
  pub fronts : Key → Option Front
  -- in the order in which they finished, the last one first
  pub finished : List Finished
  -- by which low-water mark a cell was last pruned
  pub cuts : Key → TidSet
  -- how far a node's transaction is, also after the node has vanished
  pub phases : ℕ → Phase
  -- who may mend what a vanished node left
  pub menders : ℕ → Option Mender

abbrev pub shared : Base → Ghost → Shared
shared b g =
    record { cells = b.cells; commits = b.commits; logs = b.logs; numbers = b.numbers; fronts = g.fronts; finished = g.finished }

pub record Core (b : Base) (a : Ledger) (g : Ghost) : Type 0 where
  pub cells : (k : Key) → CellOk a.commits k (g.cuts k) (b.cells k).versions (g.fronts k)
  pub nodes : (i : ℕ) → NodeOk (shared b g) i (g.phases i) (a.seats i)
  pub active : (i : ℕ) → ActiveOk i (g.phases i) (b.active i)
  pub done : Known b.commits.finished (length g.finished) g.finished
  pub managers : ManagersOk b.home b.top b.floors b.copies b.active g.cuts g.finished
  pub numbers : NumbersOk b.numbers b.counter
  pub commits : a.commits ≡ commits_of g.finished
  pub distinct : AreDistinct g.finished
  pub opens : OpensWith g.finished
  pub taken : (t : ℕ) → is_done t g.finished ≡ true → is_taken (b.numbers t) ≡ true
  pub begun : (t : ℕ) → a.begun t ≡ is_begun (b.numbers t)
  pub logs : (t : ℕ) → is_begun (b.numbers t) ≡ false → b.logs t ≡ None

-- of all nodes that a recovery was given each is left, or has no transaction, or is the one in hand
pub record Owes (phases : ℕ → Phase) (duties : Duties) (busy : Option ℕ) : Type 0 where
  pub node : duties.all duties.node ≡ true
  pub among : (d : ℕ) → duties.left d ≡ true → duties.all d ≡ true
  pub in_hand : (d : ℕ) → busy ≡ Some d → duties.all d ≡ true
  pub rest : (d : ℕ) → duties.all d ≡ true → (duties.left d ≡ true) ⊎ ((tid_of (phases d) ≡ None) ⊎ (busy ≡ Some d))

pub record StripOk (b : Base) (p : Phase) (o : Orphan) (log : LogCell) (seen : Key → Bool) (l : Option Loaded) : Type 0 where
  pub a : Attempt
  pub rival : Option ℕ
  pub is_so : p ≡ Undoing a rival None
  pub tid : a.txn.tid ≡ o.tid
  pub log_is : log ≡ log_cell a.log o.node flag.Trying a.txn
  pub off : (k : Key) → seen k ≡ true → a.stored k ≡ false
  pub hand : InHand (BearLoad b.cells o.tid) l

abbrev pub is_commit : Decision → Bool
is_commit ToCommit = true
is_commit (Undo rival) = false

-- it is closing, or finished already
pub record CloseOk (b : Base) (p : Phase) (o : Orphan) (committed : Bool) (c : Option CommitsCell) : Type 0 where
  pub is_so : ((told : Answer) × (p ≡ Ending o.tid told))
      ⊎ ((t : Txn) × (d : Decision) × (p ≡ Closing t d None) × (t.tid ≡ o.tid) × (is_commit d ≡ committed))
  pub hand : InHand (SeenOk b.commits) c
  pub fresh : InHand (λ (x : CommitsCell). has x.finished o.tid ≡ false) c

-- what a recoverer knows
abbrev pub RecoveryOk : Base → (ℕ → Phase) → Recovery → Type 0
RecoveryOk b phases NoDuty = Unit {0}
RecoveryOk b phases (Next duties) = Owes phases duties None
RecoveryOk b phases (Reading duties o) = Owes phases duties (Some o.node) × (tid_of (phases o.node) ≡ Some o.tid)
RecoveryOk b phases (Stripping duties o log seen l) = Owes phases duties (Some o.node) × StripOk b (phases o.node) o log seen l
RecoveryOk b phases (Finishing duties o committed c) = Owes phases duties (Some o.node) × CloseOk b (phases o.node) o committed c
RecoveryOk b phases (Closed duties o) = Owes phases duties (Some o.node) × ((told : Answer) × (phases o.node ≡ Ending o.tid told))

-- the nodes
pub record Nodes : Type 0 where
  pub phases : ℕ → Phase
  pub recoveries : ℕ → Recovery
  pub gone : ℕ → Bool
  pub notices : ℕ → Option (ℕ → Bool)

abbrev pub nodes_of : World → Nodes
nodes_of w = record { phases = w.phases; recoveries = w.recoveries; gone = w.gone; notices = w.notices }

abbrev pub is_running : Nodes → ℕ → Bool
is_running ns n = not (n == 0) && not (ns.gone n)

abbrev pub mends_it : Nodes → ℕ → Mender → Bool
mends_it ns d (Notice gone) = posted (ns.notices gone) gone d
mends_it ns d (Duty r) = is_running ns r && owed (ns.recoveries r) d

-- a vanished node that nobody is to mend has no transaction
abbrev pub MenderOk : Nodes → ℕ → Phase → Option Mender → Type 0
MenderOk ns d p None = tid_of p ≡ None
MenderOk ns d p (Some m) = mends_it ns d m ≡ true

pub record Link (b : Base) (ns : Nodes) (vanished : ℕ → Bool) (phases : ℕ → Phase) (menders : ℕ → Option Mender) : Type 0 where
  pub seats : (i : ℕ) → vanished i ≡ ns.gone i
  pub numbered : (i : ℕ) → ns.gone i ≡ true → 1 ≤ i
  pub runs : (i : ℕ) → is_running ns i ≡ true → phases i ≡ ns.phases i
  pub recoveries : (r : ℕ) → is_running ns r ≡ true → RecoveryOk b phases (ns.recoveries r)
  -- who is to mend a node is its one mender, and the node has vanished
  pub one : (d : ℕ) (m : Mender) → mends_it ns d m ≡ true → (menders d ≡ Some m) × (ns.gone d ≡ true)
  pub mended : (d : ℕ) → ns.gone d ≡ true → MenderOk ns d (phases d) (menders d)

abbrev pub vanished_of : Ledger → ℕ → Bool
vanished_of a i = (a.seats i).vanished

pub record Inv (w : World) (a : Ledger) (g : Ghost) : Type 0 where
  pub core : Core (base w) a g
  pub link : Link (base w) (nodes_of w) (vanished_of a) g.phases g.menders

-- a move keeps the invariant, and what is told of it is allowed
pub record Kept (w : World) (a : Ledger) (g : Ghost) (m : Move w) : Type 0 where
  pub ledger : Ledger
  pub ghost : Ghost
  pub inv : Inv (next w m) ledger ghost
  pub tells : (s : SiState) → Shows s a → Proper w.catalog s → Tells w.catalog s (told s.commits w m) ledger
  pub ended : (s : SiState) (t : ℕ) → is_done t ghost.finished ≡ (list_any (finishes t) (told s.commits w m) || is_done t g.finished)
  pub catalog : (next w m).catalog ≡ w.catalog
