-- What is told at a reply, after these commits.
use Rattle.std.specs.Prelude.{ℕ, ◌+◌, Bool, List, [], ◌∷◌, Option, Some, None, length}
use Rattle.tl_base.specs.declared.place.Settings.{Settings}
use Rattle.tl_schema.specs.declared.catalog.Catalog.{Catalog}
use Rattle.tl_manager.specs.declared.request.ManagerReply.TheVariants as manager
use Rattle.tl_versions.specs.Versions.{stranger}
use Rattle.tl_write.specs.declared.write.Write.{Write}
use Rattle.tl_isolation.specs.declared.bound.Bound.{Bound}
use Rattle.tl_isolation.specs.declared.bound.Bound.TheVariants as bound
use Rattle.tl_isolation.specs.declared.entry.Answer.{Answer}
use Rattle.tl_isolation.specs.declared.entry.Answer.TheVariants as answer
use Rattle.tl_isolation.specs.declared.entry.Entry.{Entry}
use Rattle.tl_isolation.specs.declared.entry.Entry.TheVariants as entry
use Rattle.tl_isolation.specs.declared.state.Commit.{Commit as Committed}
use Rattle.tl_protocol.specs.Store.{CommitsCell}
use Rattle.tl_protocol.specs.World.{Txn, Loaded, Decision}
use Rattle.tl_protocol.specs.Told.{count_in, finished_as, finished_so, says, says_in}
use Rattle.tl_journal.specs.Ask.{Heard, Commits, Record, Stored, Told}
use Rattle.tl_journal.specs.Reads.{Read, Reads}
use Rattle.tl_journal.specs.Node.{Storing, Claimed, Lost, Doing, Outside, Noted, Inside, Reading, Trying, Stores, Closing, Ending, Recovering, Finishing, EndingLost, Node}
use Rattle.tl_journal.specs.Asks.{Course, ToBegin, ToRead, ToIdle, ToCommit, ToRecover, course_in, course_outside}
use Rattle.tl_journal.specs.Takes.{after_reply}

-- the number of the present statement
abbrev pub statement_number : Node → ℕ
statement_number node = length node.answers + 1

abbrev pub says_outside : Node → Bound → Course → Heard → List Entry
says_outside node statement ToBegin (Commits c) = entry.Asked node.number ∷ []
says_outside node statement ToIdle (Told (manager.FloorIs floor)) = says node.number (statement_number node) statement answer.Outside ∷ []
says_outside node statement (ToRecover gone) (Told manager.There) =
    says node.number (statement_number node) (bound.Recover gone) (answer.There gone) ∷ []
says_outside node statement course heard = []

-- for the statement BEGIN it is answered at once
abbrev pub says_begun : Node → Bound → List Entry
says_begun node bound.Begin = says node.number (statement_number node) bound.Begin answer.Begun ∷ []
says_begun node statement = []

abbrev pub says_noted : List Committed → Node → Bound → Heard → List Entry
says_noted commits node statement (Told (manager.Began tid snapshot floor)) =
    entry.Began node.number tid (count_in snapshot commits) ∷ says_begun node statement
says_noted commits node statement heard = []

-- the statement, once all is read
abbrev pub says_statement : Node → Bound → Txn → Answer → Entry
says_statement node statement t told = says_in t.stage node.number (statement_number node) statement told

abbrev pub says_read : Node → Bound → Txn → Option Reads → Answer → List Entry
says_read node statement t None told = []
says_read node statement t (Some after) told = by after.left
  where
    by : List Read → List Entry
    by [] = says_statement node statement t told ∷ []
    by (read ∷ left) = []

abbrev pub says_idle : Node → Bound → Txn → Heard → Answer → List Entry
says_idle node bound.Begin t (Told (manager.FloorIs floor)) told = says node.number (statement_number node) bound.Begin answer.Nested ∷ []
says_idle node (bound.Recover gone) t (Told (manager.FloorIs floor)) told =
    says node.number (statement_number node) (bound.Recover gone) answer.Nested ∷ []
says_idle node statement t (Told (manager.FloorIs floor)) told = says_statement node statement t told ∷ []
says_idle node statement t heard told = []

-- its log cell is stored, or there is nothing to store
abbrev pub says_commit : Txn → Heard → List Entry
says_commit t (Commits c) = entry.Tried t.tid ∷ []
says_commit t (Stored stamp) = entry.Tried t.tid ∷ []
says_commit t heard = []

abbrev pub says_inside : Settings → Node → Bound → Txn → Course → Heard → Answer → List Entry
says_inside settings node statement t (ToRead reads) heard told =
    says_read node statement t (after_reply settings t.snapshot reads reads.left heard) told
says_inside settings node statement t ToIdle heard told = says_idle node statement t heard told
says_inside settings node statement t ToCommit heard told = says_commit t heard
says_inside settings node statement t course heard told = []

abbrev pub says_rival : Storing → Option ℕ → List Entry
says_rival s None = []
says_rival s (Some rival) = entry.Clash s.txn.tid rival (length s.stored) ∷ []

abbrev pub says_storing : Storing → Option Loaded → List Write → Heard → List Entry
says_storing s None (o ∷ left) (Record cell) = says_rival s (stranger s.txn.snapshot cell.versions)
says_storing s l left heard = []

abbrev pub says_closing : Txn → Decision → Option CommitsCell → Heard → List Entry
says_closing t d (Some c) (Stored stamp) = finished_as d t.tid ∷ []
says_closing t d c heard = []

abbrev pub says_ending : Node → Answer → Heard → List Entry
says_ending node told (Told manager.Ended) = entry.Answered node.number (statement_number node) told ∷ []
says_ending node told heard = []

-- RECOVER is answered where no duty is left
abbrev pub says_recovered : Node → Claimed → List ℕ → List ℕ → List Entry
says_recovered node c [] [] = says node.number (statement_number node) (bound.Recover c.node) (answer.Recovered c.node) ∷ []
says_recovered node c tids left = []

abbrev pub says_recovering : Node → Claimed → List ℕ → Heard → List Entry
says_recovering node c (d ∷ left) (Told (manager.Orphaned tids)) = says_recovered node c tids left
says_recovering node c left heard = []

abbrev pub says_finishing : Lost → Bool → Option CommitsCell → Heard → List Entry
says_finishing o committed (Some x) (Stored stamp) = finished_so committed o.tid ∷ []
says_finishing o committed x heard = []

abbrev pub says_end_lost : Node → Claimed → Lost → Heard → List Entry
says_end_lost node c o (Told manager.Ended) = says_recovered node c o.others c.left
says_end_lost node c o heard = []

abbrev pub says_doing : Settings → Catalog → List Committed → Node → Bound → Doing → Heard → Answer → List Entry
says_doing settings catalog commits node statement Outside heard told = says_outside node statement (course_outside statement) heard
says_doing settings catalog commits node statement (Noted seen) heard told = says_noted commits node statement heard
says_doing settings catalog commits node statement (Inside t) heard told =
    says_inside settings node statement t (course_in catalog t.stage statement) heard told
says_doing settings catalog commits node statement (Reading t reads) heard told =
    says_read node statement t (after_reply settings t.snapshot reads reads.left heard) told
says_doing settings catalog commits node statement (Trying t) heard told = says_commit t heard
says_doing settings catalog commits node statement (Stores s l) heard told = says_storing s l s.left heard
says_doing settings catalog commits node statement (Closing t d c) heard told = says_closing t d c heard
says_doing settings catalog commits node statement (Ending tid said_so) heard told = says_ending node said_so heard
says_doing settings catalog commits node statement (Recovering c) heard told = says_recovering node c c.left heard
says_doing settings catalog commits node statement (Finishing c o committed x) heard told = says_finishing o committed x heard
says_doing settings catalog commits node statement (EndingLost c o) heard told = says_end_lost node c o heard
says_doing settings catalog commits node statement doing heard told = []

abbrev pub says_at : Settings → Catalog → List Committed → Node → Heard → Answer → List Entry
says_at settings catalog commits node heard told = by node.todo
  where
    by : List Bound → List Entry
    by [] = []
    by (statement ∷ later) = says_doing settings catalog commits node statement node.doing heard told
