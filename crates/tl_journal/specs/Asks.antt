-- What a node asks next.
use Rattle.std.specs.Prelude.{ℕ, ◌+◌, ◌-◌, ◌%◌, List, [], ◌∷◌, Option, Some, None, nat_le, if◌then◌else◌}
use Rattle.tl_base.specs.declared.place.Settings.{Settings}
use Rattle.tl_schema.specs.declared.catalog.Catalog.{Catalog}
use Rattle.tl_collect.specs.Floors.{least_of}
use Rattle.tl_descriptor.specs.Tids.{TidSet, inserted}
use Rattle.tl_logrec.specs.declared.entry.Flag.TheVariants as flag
use Rattle.tl_manager.specs.declared.request.ManagerRequest.TheVariants as manager
use Rattle.tl_manager.specs.State.{opening_copy}
use Rattle.tl_versions.specs.Versions.{prune, strip}
use Rattle.tl_write.specs.declared.write.Write.{Write}
use Rattle.tl_isolation.specs.declared.bound.Bound.{Bound}
use Rattle.tl_isolation.specs.declared.bound.Bound.TheVariants as bound
use Rattle.tl_isolation.specs.State.{is_refusal}
use Rattle.tl_protocol.specs.Store.{Key, CommitsCell, LogCell}
use Rattle.tl_protocol.specs.World.{Stage, Fresh, Opened, Answering, Txn, Loaded}
use Rattle.tl_protocol.specs.Move.{is_empty}
use Rattle.tl_protocol.specs.Next.{log_cell, marked, own_version}
use Rattle.tl_journal.specs.Ask.{Ask, LoadCommits, StoreCommits, LoadLog, StoreLog, LoadRecord, StoreRecord, ReadPage, DrawNumbers, AskManager}
use Rattle.tl_journal.specs.Bytes.{home_of}
use Rattle.tl_journal.specs.Reads.{Read, Point, Range, Reads, all_reads, begin_reads}
use Rattle.tl_journal.specs.Node.{Storing, Removing, Claimed, Lost, Doing, Outside, Noted, Drawing, Bringing, Inside, Reading, Trying, Stores, Removes, Closing, Ending, Recovering, ReadingLog, Stripping, Finishing, EndingLost, Stopped, Node}

-- what a statement comes to where the transaction stands so
pub data Course : Type 0 where
  -- it begins a transaction
  ToBegin : Course
  -- it reads, and is answered then
  ToRead : Reads → Course
  -- it makes the one request of a statement without reads
  ToIdle : Course
  ToCommit : Course
  ToGiveUp : Course
  ToRecover : ℕ → Course

abbrev pub reading_course : Reads → Course
reading_course reads = by reads.left
  where
    by : List Read → Course
    by [] = ToIdle
    by (read ∷ left) = ToRead reads

-- the statement itself, in a transaction that takes statements
abbrev pub statement_course : Catalog → Bound → Course
statement_course catalog (bound.Select query) = reading_course (begin_reads (all_reads catalog (bound.Select query)))
statement_course catalog (bound.Change edit) = reading_course (begin_reads (all_reads catalog (bound.Change edit)))
statement_course catalog bound.Commit = ToCommit
statement_course catalog bound.Rollback = ToGiveUp
statement_course catalog bound.Begin = ToIdle
statement_course catalog (bound.Recover gone) = ToIdle

-- a transaction of one statement commits once it is said, or gives up where it was refused
abbrev pub course_in : Catalog → Stage → Bound → Course
course_in catalog (Answering told) statement = if is_refusal told then ToGiveUp else ToCommit
course_in catalog Fresh statement = statement_course catalog statement
course_in catalog Opened statement = statement_course catalog statement

abbrev pub course_outside : Bound → Course
course_outside bound.Begin = ToBegin
course_outside (bound.Select query) = ToBegin
course_outside (bound.Change edit) = ToBegin
course_outside bound.Commit = ToIdle
course_outside bound.Rollback = ToIdle
course_outside (bound.Recover gone) = ToRecover gone

-- its own manager is asked for the low-water mark
abbrev pub ask_floor : Settings → Node → TidSet → Ask
ask_floor settings node seen = AskManager (home_of settings node.number) (manager.Floor seen)

-- the manager that is asked for its low-water mark before a commit: the others in turn
abbrev pub other_manager : Settings → Node → ℕ
other_manager settings node =
    (home_of settings node.number + 1 + (node.asked_others % (settings.managers - 1))) % settings.managers

abbrev pub asks_outside : Settings → Node → Bound → Course → Ask
asks_outside settings node statement (ToRecover gone) = AskManager (home_of settings gone) (manager.Claim gone)
asks_outside settings node statement ToIdle = ask_floor settings node opening_copy
asks_outside settings node statement course = LoadCommits

abbrev pub asks_read : List Read → Ask
asks_read [] = LoadCommits
asks_read (Point key ∷ left) = LoadRecord key
asks_read (Range shard from first before ∷ left) = ReadPage shard from before

abbrev pub store_trying : Node → Txn → Ask
store_trying node t = StoreLog 0 (log_cell 0 node.number flag.Trying t).entry

-- a commit with writes asks another manager first, where there is one
abbrev pub asks_commit : Settings → Node → Txn → Ask
asks_commit settings node t =
    if is_empty t.own then LoadCommits else
    (if nat_le settings.managers 1 then store_trying node t else AskManager (other_manager settings node) (manager.Floor t.snapshot))

abbrev pub asks_inside : Settings → Node → Txn → Course → Ask
asks_inside settings node t (ToRead reads) = asks_read reads.left
asks_inside settings node t ToIdle = ask_floor settings node t.snapshot
asks_inside settings node t ToCommit = asks_commit settings node t
asks_inside settings node t course = LoadCommits

abbrev pub asks_storing : Node → Storing → Option Loaded → Ask
asks_storing node s (Some l) = StoreRecord l.key l.stamp (prune (least_of node.floors) (own_version l.key s.txn ∷ l.versions))
asks_storing node s None = by s.left
  where
    by : List Write → Ask
    by [] = StoreLog s.log (log_cell 0 node.number flag.Decided s.txn).entry
    by (o ∷ left) = LoadRecord o.key

abbrev pub asks_removing : Node → Removing → Option Loaded → Ask
asks_removing node r (Some l) = StoreRecord l.key l.stamp (strip r.txn.tid l.versions)
asks_removing node r None = by r.left
  where
    by : List Write → Ask
    by [] = StoreLog r.log (log_cell 0 node.number flag.Undone r.txn).entry
    by (o ∷ left) = LoadRecord o.key

abbrev pub asks_finish : ℕ → Option CommitsCell → Ask
asks_finish tid None = LoadCommits
asks_finish tid (Some c) = StoreCommits c.stamp (inserted c.finished tid)

abbrev pub asks_duty : Settings → Claimed → Ask
asks_duty settings c = by c.left
  where
    by : List ℕ → Ask
    by [] = LoadCommits
    by (d ∷ left) = AskManager (home_of settings d) (manager.Orphans d)

abbrev pub asks_stripping : Lost → LogCell → List Key → Option Loaded → Ask
asks_stripping o log keys (Some l) = StoreRecord l.key l.stamp (strip o.tid l.versions)
asks_stripping o log [] None = StoreLog log.stamp (marked 0 flag.Undone log).entry
asks_stripping o log (key ∷ keys) None = LoadRecord key

abbrev pub asks_doing : Settings → Catalog → Node → Bound → Doing → Option Ask
asks_doing settings catalog node statement Outside = Some (asks_outside settings node statement (course_outside statement))
asks_doing settings catalog node statement (Noted seen) = Some (AskManager (home_of settings node.number) (manager.Begin node.number seen))
asks_doing settings catalog node statement (Drawing seen) = Some DrawNumbers
asks_doing settings catalog node statement (Bringing seen low) = Some (AskManager (home_of settings node.number) (manager.Range (low + 1) (low + 16)))
asks_doing settings catalog node statement (Inside t) = Some (asks_inside settings node t (course_in catalog t.stage statement))
asks_doing settings catalog node statement (Reading t reads) = Some (asks_read reads.left)
asks_doing settings catalog node statement (Trying t) = Some (store_trying node t)
asks_doing settings catalog node statement (Stores s l) = Some (asks_storing node s l)
asks_doing settings catalog node statement (Removes r l) = Some (asks_removing node r l)
asks_doing settings catalog node statement (Closing t d c) = Some (asks_finish t.tid c)
asks_doing settings catalog node statement (Ending tid told) = Some (AskManager (home_of settings node.number) (manager.End tid))
asks_doing settings catalog node statement (Recovering c) = Some (asks_duty settings c)
asks_doing settings catalog node statement (ReadingLog c o) = Some (LoadLog o.tid)
asks_doing settings catalog node statement (Stripping c o log keys l) = Some (asks_stripping o log keys l)
asks_doing settings catalog node statement (Finishing c o committed l) = Some (asks_finish o.tid l)
asks_doing settings catalog node statement (EndingLost c o) = Some (AskManager (home_of settings o.node) (manager.End o.tid))
asks_doing settings catalog node statement (Stopped nodes) = None

-- nothing, where all statements are answered
abbrev pub asks : Settings → Catalog → Node → Option Ask
asks settings catalog node = by node.todo
  where
    by : List Bound → Option Ask
    by [] = None
    by (statement ∷ later) = asks_doing settings catalog node statement node.doing
