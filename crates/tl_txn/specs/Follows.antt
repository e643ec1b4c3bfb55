-- A transaction's code does what the law of nodes says of a node that runs the transaction.
use Rattle.std.specs.Prelude.{◌≡◌, ℕ, Bool, true, false, ◌||◌, nat_le, List, [], ◌∷◌, ◌++◌, Option, Some, None, slice_get}
use Rattle.tl_base.specs.declared.place.Settings.{Settings}
use Rattle.tl_values.specs.declared.value.Value.{Value}
use Rattle.tl_schema.specs.declared.access.Access.{Access}
use Rattle.tl_schema.specs.declared.access.Access.TheVariants as access
use Rattle.tl_schema.specs.declared.catalog.Catalog.{Catalog}
use Rattle.tl_collect.specs.Floors.{least_of}
use Rattle.tl_descriptor.specs.Tids.{TidSet}
use Rattle.tl_logrec.specs.declared.entry.Flag.TheVariants as flag
use Rattle.tl_logrec.specs.declared.entry.LogEntry.{LogEntry}
use Rattle.tl_manager.specs.declared.mark.Mark.{Mark}
use Rattle.tl_manager.specs.declared.mark.Mark.TheVariants as mark
use Rattle.tl_manager.specs.declared.mark.TxnStep.{TxnStep}
use Rattle.tl_manager.specs.declared.mark.TxnStep.TheVariants as step
use Rattle.tl_manager.specs.declared.request.ManagerReply.TheVariants as manager
use Rattle.tl_manager.specs.declared.request.Reply.{Reply}
use Rattle.tl_write.specs.declared.write.Write.{Write}
use Rattle.tl_isolation.specs.declared.bound.Bound.{Bound}
use Rattle.tl_isolation.specs.declared.entry.Answer.{Answer}
use Rattle.tl_isolation.specs.declared.entry.Entry.{Entry}
use Rattle.tl_isolation.specs.declared.entry.Entry.TheVariants as entry
use Rattle.tl_isolation.specs.declared.state.Commit.{Commit as Committed}
use Rattle.tl_protocol.specs.Move.{is_empty}
use Rattle.tl_protocol.specs.Next.{begun_txn, end_answer}
use Rattle.tl_protocol.specs.Told.{count_in}
use Rattle.tl_protocol.specs.World.{Stage, Txn}
use Rattle.tl_journal.specs.Ask.{Ask, LoadCommits, StoreLog, LoadRecord, ReadPage, Heard, Commits, Stored, Moved, Told, Strange}
use Rattle.tl_journal.specs.Asks.{ToBegin, ToCommit, ToGiveUp, asks_doing, asks_read, course_in, course_outside, store_trying}
use Rattle.tl_journal.specs.Bytes.{heard, home_of}
use Rattle.tl_journal.specs.Node.{Doing, Outside, Inside, Trying, Node}
use Rattle.tl_journal.specs.Reads as law
use Rattle.tl_journal.specs.Reads.{Reads, after_read, read_of, table_key}
use Rattle.tl_journal.specs.Says.{says_begun, says_doing, statement_number}
use Rattle.tl_journal.specs.Strange.{is_odd_for, is_stopped}
use Rattle.tl_journal.specs.Takes.{after_reply, answered, begins, learnt, takes_doing, with_doing}
use Rattle.tl_ask.specs.Hears.{hears_commits}
use Rattle.tl_ask.specs.Thin.{thin}
use Rattle.tl_txn.specs.Attempt.{Attempt, entry_of}
use Rattle.tl_txn.specs.Calls.{ask_read, attempt_of, awaited}
use Rattle.tl_txn.specs.Doing.{decided, doing_of, txn_in}
use Rattle.tl_txn.specs.Hears.{hears}
use Rattle.tl_txn.specs.Marks.{entries_of}
use Rattle.tl_txn.specs.Taken.{Taken, opened, removal_at, takes, takes_reading}
use Rattle.tl_txn.specs.declared.phase.Decision.{Decision}
use Rattle.tl_txn.specs.declared.phase.Open.{Open}
use Rattle.tl_txn.specs.declared.phase.Phase.{Phase}
use Rattle.tl_txn.specs.declared.phase.Phase.TheVariants as phase
use Rattle.tl_txn.specs.declared.phase.Read.{Read}
use Rattle.tl_txn.specs.declared.phase.Read.TheVariants as read

-- ---- what a node and its transaction agree on

-- an attempt is of the node of this number, and prunes by the least of these low-water marks
pub record IsOfNode (number : ℕ) (floors : List TidSet) (a : Attempt) : Type 0 where
  pub node_is : a.node ≡ number
  pub floor_is : a.floor ≡ least_of floors

-- where the present statement leads, and whose attempt it is. A transaction that is ready or reads is the node's own
-- affair, and one that is over or stopped has no more to do
abbrev pub Suits : Catalog → Node → Bound → Stage → Phase → Type 0
Suits catalog node statement stage phase.Asking = course_outside statement ≡ ToBegin
Suits catalog node statement stage (phase.Noted seen) = Unit {0}
Suits catalog node statement stage (phase.Drawing seen) = Unit {0}
Suits catalog node statement stage (phase.Bringing seen low) = Unit {0}
Suits catalog node statement stage (phase.Ready live) = ⊥
Suits catalog node statement stage (phase.Reading live r) = ⊥
Suits catalog node statement stage (phase.TryingNothing live) = course_in catalog stage statement ≡ ToCommit
Suits catalog node statement stage (phase.Trying a) = IsOfNode node.number node.floors a
Suits catalog node statement stage (phase.Storing s) = IsOfNode node.number node.floors s.attempt
Suits catalog node statement stage (phase.Removing r) = IsOfNode node.number node.floors r.attempt
Suits catalog node statement stage (phase.GivingUp live) = course_in catalog stage statement ≡ ToGiveUp
Suits catalog node statement stage (phase.Closing tid decision loaded) = Unit {0}
Suits catalog node statement stage (phase.Ending tid decision) = Unit {0}
Suits catalog node statement stage phase.Over = ⊥
Suits catalog node statement stage phase.Stopped = ⊥

abbrev pub IsInHand : Bool → Option Write → Type 0
IsInHand false own = Unit {0}
IsInHand true None = ⊥
IsInHand true (Some o) = Unit {0}

-- an own record is loaded only where there is one
abbrev pub HasInHand : Phase → Type 0
HasInHand (phase.Storing s) = IsInHand s.loaded (slice_get s.attempt.own s.stored)
HasInHand (phase.Removing r) = IsInHand r.loaded (removal_at r)
HasInHand other = Unit {0}

abbrev pub IsOfCommits : Heard → Type 0
IsOfCommits (Commits c) = Unit {0}
IsOfCommits Strange = Unit {0}
IsOfCommits heard = ⊥

-- who stores a cell hears of that, or nothing that a place of a run replies
abbrev pub IsOfStore : Heard → Type 0
IsOfStore (Stored stamp) = Unit {0}
IsOfStore Moved = Unit {0}
IsOfStore Strange = Unit {0}
IsOfStore heard = ⊥

-- what is heard in this phase: a commit that has nothing to store asked for the finished transactions
abbrev pub MayHear : Phase → Heard → Type 0
MayHear (phase.TryingNothing live) heard = IsOfCommits heard
MayHear other heard = Unit {0}

-- ---- what comes of a reply

-- the transaction goes on, and so does its node: the code keeps what the node does then, and asks what the node asks
pub record Goes (settings : Settings) (catalog : Catalog) (node : Node) (statement : Bound) (stage : Stage) (after : Node) (taken : Taken) : Type 0 where
  pub doing : Doing
  pub after_is : after ≡ with_doing node doing
  pub thin_is : thin doing ≡ doing_of stage taken.phase
  pub ask_is : asks_doing settings catalog (with_doing node doing) statement doing ≡ taken.ask
  pub suits : Suits catalog (with_doing node doing) statement stage taken.phase
  pub in_hand : HasInHand taken.phase

-- it has begun
pub record Begins (settings : Settings) (commits : List Committed) (node : Node) (statement : Bound) (before : Phase) (heard : Heard) (after : Node) (says : List Entry) (taken : Taken) (told : Mark) : Type 0 where
  pub seen : TidSet
  pub tid : ℕ
  pub snapshot : TidSet
  pub floor : TidSet
  pub before_is : before ≡ phase.Noted seen
  pub heard_is : heard ≡ Told (manager.Began tid snapshot floor)
  pub told_is : told ≡ mark.Began tid
  pub phase_is : taken.phase ≡ phase.Ready (opened tid snapshot)
  pub ask_is : taken.ask ≡ None
  pub after_is : after ≡ begins (learnt node (home_of settings node.number) floor) statement (begun_txn tid snapshot)
  pub says_is : says ≡ entry.Began node.number tid (count_in snapshot commits) ∷ says_begun node statement

-- it is over, and its statement is answered
pub record Ends (node : Node) (stage : Stage) (before : Phase) (after : Node) (says : List Entry) (taken : Taken) (told : Mark) : Type 0 where
  pub tid : ℕ
  pub decision : Decision
  pub before_is : before ≡ phase.Ending tid decision
  pub told_is : told ≡ mark.Answered
  pub phase_is : taken.phase ≡ phase.Over
  pub ask_is : taken.ask ≡ None
  pub after_is : after ≡ answered node (end_answer stage (decided decision)) Outside
  pub says_is : says ≡ entry.Answered node.number (statement_number node) (end_answer stage (decided decision)) ∷ []

-- ---- from its beginning to its end

-- the code keeps all that it needs of what its node is doing
abbrev pub KeepsSo : Type 0
KeepsSo = (stage : Stage) (phase : Phase) → thin (doing_of stage phase) ≡ doing_of stage phase

abbrev pub GoesOn : Type 0
GoesOn = (settings : Settings) (catalog : Catalog) (node : Node) (statement : Bound) (stage : Stage) (phase : Phase) (doing : Doing) (heard : Heard) (told : Answer) (mark : Mark)
    → Suits catalog node statement stage phase → thin doing ≡ doing_of stage phase → (takes settings node.number phase heard).step ≡ Some (step.Going mark)
    → Goes settings catalog node statement stage (takes_doing settings catalog node statement doing heard told) (takes settings node.number phase heard)

abbrev pub TellsSo : Type 0
TellsSo = (settings : Settings) (catalog : Catalog) (commits : List Committed) (node : Node) (statement : Bound) (stage : Stage) (phase : Phase) (doing : Doing) (heard : Heard) (told : Answer) (mark : Mark)
    → Suits catalog node statement stage phase → thin doing ≡ doing_of stage phase → (takes settings node.number phase heard).step ≡ Some (step.Going mark)
    → says_doing settings catalog commits node statement doing heard told ≡ entries_of node.number mark

abbrev pub BeginsSo : Type 0
BeginsSo = (settings : Settings) (catalog : Catalog) (commits : List Committed) (node : Node) (statement : Bound) (stage : Stage) (phase : Phase) (doing : Doing) (heard : Heard) (told : Answer) (mark : Mark)
    → Suits catalog node statement stage phase → thin doing ≡ doing_of stage phase → (takes settings node.number phase heard).step ≡ Some (step.Ready mark)
    → Begins settings commits node statement phase heard (takes_doing settings catalog node statement doing heard told)
    (says_doing settings catalog commits node statement doing heard told) (takes settings node.number phase heard) mark

abbrev pub EndsSo : Type 0
EndsSo = (settings : Settings) (catalog : Catalog) (commits : List Committed) (node : Node) (statement : Bound) (stage : Stage) (phase : Phase) (doing : Doing) (heard : Heard) (told : Answer) (mark : Mark)
    → Suits catalog node statement stage phase → thin doing ≡ doing_of stage phase → (takes settings node.number phase heard).step ≡ Some (step.Ended mark)
    → Ends node stage phase (takes_doing settings catalog node statement doing heard told)
    (says_doing settings catalog commits node statement doing heard told) (takes settings node.number phase heard) mark

-- where the code takes a reply for strange the node stops, or the reply is one that no place of a run gives
abbrev pub StopsSo : Type 0
StopsSo = (settings : Settings) (catalog : Catalog) (node : Node) (statement : Bound) (stage : Stage) (phase : Phase) (doing : Doing) (heard : Heard) (told : Answer)
    → Suits catalog node statement stage phase → thin doing ≡ doing_of stage phase → HasInHand phase → MayHear phase heard → (takes settings node.number phase heard).step ≡ None
    → (is_stopped (takes_doing settings catalog node statement doing heard told).doing || is_odd_for doing heard) ≡ true

-- and where it makes a step the reply is not odd to the node
abbrev pub StepsNotOdd : Type 0
StepsNotOdd = (settings : Settings) (number : ℕ) (stage : Stage) (phase : Phase) (doing : Doing) (heard : Heard) (made : TxnStep)
    → thin doing ≡ doing_of stage phase → (takes settings number phase heard).step ≡ Some made → is_odd_for doing heard ≡ false

-- no scan of an index, and no want of memory
abbrev pub StepsSo : Type 0
StepsSo = (settings : Settings) (number : ℕ) (phase : Phase) (heard : Heard) (mark : Mark)
    → ((takes settings number phase heard).step ≡ Some (step.Leaf mark) → ⊥) × ((takes settings number phase heard).step ≡ Some (step.NoMemory mark) → ⊥)

-- what a reply says in a phase may be heard there
abbrev pub HearsSo : Type 0
HearsSo = (catalog : Catalog) (phase : Phase) (reply : Reply) → MayHear phase (hears catalog phase reply)

-- who asked for the finished transactions hears of them, or nothing that a place of a run replies
abbrev pub HearsCommits : Type 0
HearsCommits = (reply : Reply) → IsOfCommits (hears_commits reply)

abbrev pub HearsStores : Type 0
HearsStores = (stamp : ℕ) (log : LogEntry) (reply : Reply) → IsOfStore (heard (StoreLog stamp log) reply)

-- ---- what it reads

-- as the law has it
abbrev pub law_read : Read → law.Read
law_read (read.Point key) = law.Point key
law_read (read.Range r) = law.Range r.shard r.from r.first r.before

-- its transaction is the same, and its last read has found these rows behind the earlier ones
pub record HasFound (before after : Open) (found : List (List Value)) : Type 0 where
  pub tid_is : after.tid ≡ before.tid
  pub snapshot_is : after.snapshot ≡ before.snapshot
  pub own_is : after.own ≡ before.own
  pub rows_are : after.rows ≡ before.rows ++ found

-- the read goes on
pub record ReadGoes (live : Open) (reads : Reads) (left : List law.Read) (after : Option Reads) (taken : Taken) (told : Mark) : Type 0 where
  pub next_live : Open
  pub next_read : Read
  pub range : law.Read
  pub found : List (List Value)
  pub told_is : told ≡ mark.Quiet
  pub phase_is : taken.phase ≡ phase.Reading next_live next_read
  pub finds : HasFound live next_live found
  pub after_is : after ≡ Some (record reads { left = range ∷ left; rows = reads.rows ++ found })
  pub range_is : range ≡ law_read next_read
  pub ask_is : taken.ask ≡ Some (asks_read (range ∷ left))

-- it is done
pub record ReadEnds (live : Open) (reads : Reads) (left : List law.Read) (after : Option Reads) (taken : Taken) (told : Mark) : Type 0 where
  pub next_live : Open
  pub found : List (List Value)
  pub told_is : told ≡ mark.Quiet
  pub phase_is : taken.phase ≡ phase.Ready next_live
  pub ask_is : taken.ask ≡ None
  pub finds : HasFound live next_live found
  pub after_is : after ≡ Some (after_read reads left found)

abbrev pub ReadsOn : Type 0
ReadsOn = (settings : Settings) (live : Open) (r : Read) (reads : Reads) (left : List law.Read) (heard : Heard) (mark : Mark)
    → (takes_reading settings live r heard).step ≡ Some (step.Going mark)
    → ReadGoes live reads left (after_reply settings live.snapshot reads (law_read r ∷ left) heard) (takes_reading settings live r heard) mark

abbrev pub ReadsAll : Type 0
ReadsAll = (settings : Settings) (live : Open) (r : Read) (reads : Reads) (left : List law.Read) (heard : Heard) (mark : Mark)
    → (takes_reading settings live r heard).step ≡ Some (step.Ready mark)
    → ReadEnds live reads left (after_reply settings live.snapshot reads (law_read r ∷ left) heard) (takes_reading settings live r heard) mark

abbrev pub ReadsStop : Type 0
ReadsStop = (settings : Settings) (live : Open) (r : Read) (reads : Reads) (left : List law.Read) (heard : Heard)
    → (takes_reading settings live r heard).step ≡ None → after_reply settings live.snapshot reads (law_read r ∷ left) heard ≡ None

-- a read brings no answer
abbrev pub ReadsNeverEnd : Type 0
ReadsNeverEnd = (settings : Settings) (live : Open) (r : Read) (heard : Heard) (mark : Mark)
    → (takes_reading settings live r heard).step ≡ Some (step.Ended mark) → ⊥

-- ---- how each of these begins

-- what a transaction that is ready reads first for an access to a table, and what it asks for that
abbrev pub first_page : ℕ → List ℕ → List ℕ → Read
first_page number low high =
    read.Range (record { shard = 0; from = table_key number low; first = table_key number low; before = table_key number high })

abbrev pub first_read : ℕ → Access → Read
first_read number (access.Point key) = read.Point (table_key number key)
first_read number (access.KeyRange low high) = first_page number low high
first_read number (access.IndexRange index low high) = first_page number (1 ∷ []) (4 ∷ [])
first_read number access.Whole = first_page number (1 ∷ []) (4 ∷ [])

abbrev pub first_ask : ℕ → Access → Ask
first_ask number (access.Point key) = LoadRecord (table_key number key)
first_ask number (access.KeyRange low high) = ReadPage 0 (table_key number low) (table_key number high)
first_ask number (access.IndexRange index low high) = ReadPage 0 (table_key number (1 ∷ [])) (table_key number (4 ∷ []))
first_ask number access.Whole = ReadPage 0 (table_key number (1 ∷ [])) (table_key number (4 ∷ []))

-- the read that a node has it make is the first one that is left to the node
pub record StartsRead (wanted : law.Read) (left : List law.Read) (asked : Ask) (begun : Read) : Type 0 where
  pub ask_is : asks_read (wanted ∷ left) ≡ asked
  pub wanted_is : wanted ≡ law_read begun

abbrev pub StartsReads : Type 0
StartsReads = (wanted : law.Read) (left : List law.Read) → StartsRead wanted left (ask_read wanted) (awaited wanted)

abbrev pub StartsAccesses : Type 0
StartsAccesses = (number : ℕ) (access : Access) (left : List law.Read)
    → StartsRead (read_of number access) left (first_ask number access) (first_read number access)

-- a commit with writes
pub record StartsCommit (catalog : Catalog) (node : Node) (statement : Bound) (stage : Stage) (live : Open) (a : Attempt) : Type 0 where
  pub doing_is : doing_of stage (phase.Trying a) ≡ Trying (txn_in stage live)
  pub ask_is : store_trying node (txn_in stage live) ≡ StoreLog 0 (entry_of a flag.Trying)
  pub suits : Suits catalog node statement stage (phase.Trying a)

abbrev pub StartsCommits : Type 0
StartsCommits = (catalog : Catalog) (node : Node) (statement : Bound) (stage : Stage) (live : Open)
    → StartsCommit catalog node statement stage live (attempt_of node.number (least_of node.floors) live)

-- one that asks no other manager first: the node is still inside, where it takes the reply as if it were trying already
pub record StartsAtOnce (settings : Settings) (catalog : Catalog) (commits : List Committed) (node : Node) (statement : Bound) (t : Txn) : Type 0 where
  pub ask_is : is_empty t.own ≡ false → nat_le settings.managers 1 ≡ true
      → asks_doing settings catalog node statement (Inside t) ≡ Some (store_trying node t)
  pub takes_is : (heard : Heard) (told : Answer) → IsOfStore heard
      → takes_doing settings catalog node statement (Inside t) heard told ≡ takes_doing settings catalog node statement (Trying t) heard told
  pub says_is : (heard : Heard) (told : Answer) → IsOfStore heard
      → says_doing settings catalog commits node statement (Inside t) heard told ≡ says_doing settings catalog commits node statement (Trying t) heard told
  pub odd_is : (heard : Heard) → IsOfStore heard → is_odd_for (Inside t) heard ≡ is_odd_for (Trying t) heard

abbrev pub CommitsAtOnce : Type 0
CommitsAtOnce = (settings : Settings) (catalog : Catalog) (commits : List Committed) (node : Node) (statement : Bound) (t : Txn)
    → course_in catalog t.stage statement ≡ ToCommit → StartsAtOnce settings catalog commits node statement t

-- one without writes, and the end without a commit
abbrev pub CommitsNothing : Type 0
CommitsNothing = (settings : Settings) (catalog : Catalog) (node : Node) (statement : Bound) (t : Txn)
    → course_in catalog t.stage statement ≡ ToCommit → is_empty t.own ≡ true → asks_doing settings catalog node statement (Inside t) ≡ Some LoadCommits

abbrev pub GivesUp : Type 0
GivesUp = (settings : Settings) (catalog : Catalog) (node : Node) (statement : Bound) (t : Txn)
    → course_in catalog t.stage statement ≡ ToGiveUp → asks_doing settings catalog node statement (Inside t) ≡ Some LoadCommits
