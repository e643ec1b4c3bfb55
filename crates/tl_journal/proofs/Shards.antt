-- The ranges that a node reads lie at shards that there are: so does what it asks of a shard, and so they do after a reply.
use Rattle.std.proofs.Common.{◌≡◌, ℕ, ◌+◌, ◌<◌, ◌≤◌, Bool, true, false, cond, List, [], ◌∷◌, ◌++◌, Option, Some, None, map, filter, refl, subst, arith}
use Rattle.std.specs.Prelude.{nat_lt, nat_le}
use Rattle.std.specs.List.{AllByRecursion}
use Rattle.std.specs.Option.{option_to_list}
use Rattle.std.proofs.lemmas.Bool.Decides.{nat_tests}
use Rattle.tl_lemmas.proofs.Lists.{all_append, all_mapped}
use Rattle.tl_base.specs.declared.place.Settings.{Settings}
use Rattle.tl_values.specs.declared.value.Value.{Value}
use Rattle.tl_schema.specs.declared.access.Access.{Access}
use Rattle.tl_schema.specs.declared.access.Access.TheVariants as access
use Rattle.tl_schema.specs.declared.catalog.Catalog.{Catalog}
use Rattle.tl_schema.specs.Record.{record_key}
use Rattle.tl_descriptor.specs.Tids.{TidSet, has}
use Rattle.tl_logrec.specs.declared.entry.Flag.{Flag}
use Rattle.tl_logrec.specs.declared.entry.Flag.TheVariants as flag
use Rattle.tl_manager.specs.declared.request.ManagerReply.TheVariants as manager
use Rattle.tl_manager.specs.declared.request.ManagerRequest.TheVariants as request
use Rattle.tl_versions.specs.Versions.{is_written, stranger}
use Rattle.tl_algebra.specs.declared.edit.Edit.{Edit}
use Rattle.tl_algebra.specs.declared.edit.Edit.TheVariants.{Insert, Update, Delete}
use Rattle.tl_write.specs.declared.write.Write.{Write}
use Rattle.tl_isolation.specs.declared.bound.Bound.{Bound}
use Rattle.tl_isolation.specs.declared.bound.Bound.TheVariants as bound
use Rattle.tl_isolation.specs.declared.entry.Answer.{Answer}
use Rattle.tl_isolation.specs.State.{is_refusal}
use Rattle.tl_isolation.specs.Tables.{table_of}
use Rattle.tl_plan.specs.Access.{access_of, accesses_of}
use Rattle.tl_plan.specs.Plan.{is_looked_up, numbers_of}
use Rattle.tl_protocol.specs.Store.{Key, Cell, CommitsCell, LogCell, row_shown}
use Rattle.tl_protocol.specs.World.{Stage, Fresh, Opened, Answering, Txn, Loaded, Decision}
use Rattle.tl_protocol.specs.Move.{is_empty}
use Rattle.tl_protocol.specs.Next.{begun_txn}
use Rattle.tl_journal.specs.Ask.{Ask, LoadCommits, StoreCommits, LoadLog, StoreLog, LoadRecord, StoreRecord, ReadPage, DrawNumbers, AskManager, Found, Heard, Commits, Log, Record, Page, Stored, Moved, Numbers, Told}
use Rattle.tl_journal.specs.Asks.{Course, ToBegin, ToRead, ToIdle, ToCommit, ToGiveUp, ToRecover, asks, asks_commit, asks_doing, asks_duty, asks_finish, asks_inside, asks_outside, asks_read, asks_removing, asks_storing, asks_stripping, course_in, course_outside, other_manager, reading_course, statement_course, store_trying}
use Rattle.tl_journal.specs.Bytes.{home_of}
use Rattle.tl_journal.specs.Node.{Storing, Removing, Claimed, Lost, Doing, Outside, Noted, Drawing, Bringing, Inside, Reading, Trying, Stores, Removes, Closing, Ending, Recovering, ReadingLog, Stripping, Finishing, EndingLost, Stopped, Node}
use Rattle.tl_journal.specs.Reads.{Read, Point, Range, Reads, after_read, all_reads, begin_reads, edit_reads, next_table, range_left, read_of, reads_of, rows_found, tables_read}
use Rattle.tl_journal.specs.Takes.{after_reply, begins, by_flag, finds, goes_on, idles, learnt, next_duty, next_lost, said, takes, takes_bringing, takes_closing, takes_commit, takes_doing, takes_drawing, takes_end_lost, takes_ending, takes_finishing, takes_give_up, takes_idle, takes_inside, takes_log, takes_noted, takes_outside, takes_read, takes_recovering, takes_removing, takes_storing, takes_stripping, takes_trying, with_doing}
use Rattle.tl_journal.proofs.Managers.{is_of_shard}
use Rattle.tl_journal.proofs.StoreServes.{IsAtShard}

abbrev pub ReadAt : Settings → Read → Type 0
ReadAt settings (Point key) = Unit {0}
ReadAt settings (Range shard from first before) = shard < settings.shards

-- the reads that are left, and those of later tables
pub record ReadsAt (settings : Settings) (reads : Reads) : Type 0 where
  pub left : AllByRecursion (ReadAt settings) reads.left
  pub later : AllByRecursion (AllByRecursion (ReadAt settings)) reads.later

abbrev pub DoingAt : Settings → Doing → Type 0
DoingAt settings (Reading t reads) = ReadsAt settings reads
DoingAt settings doing = Unit {0}

next_below : (shard shards : ℕ) → nat_lt (shard + 1) shards ≡ true → shard + 1 < shards
next_below shard shards h = grind (arith, nat_tests)

-- what is asked of a shard is asked of one that there is
abbrev OfShardAt : Settings → Ask → Type 0
OfShardAt settings (ReadPage shard from before) = shard < settings.shards
OfShardAt settings ask = Unit {0}

abbrev AskedAt : Settings → Option Ask → Type 0
AskedAt settings None = Unit {0}
AskedAt settings (Some ask) = OfShardAt settings ask

abbrev CourseAt : Settings → Course → Type 0
CourseAt settings (ToRead reads) = ReadsAt settings reads
CourseAt settings course = Unit {0}

-- the reads, where the reply is one to the first of them
abbrev OptionAt : Settings → Option Reads → Type 0
OptionAt settings None = Unit {0}
OptionAt settings (Some reads) = ReadsAt settings reads

module _ (settings : Settings) (some : 1 ≤ settings.shards) where
  abbrev AreAt : List Read → Type 0
  AreAt reads = AllByRecursion (ReadAt settings) reads

  -- ---- the reads of a statement

  -- a range begins at the first shard
  first_shard : 0 < settings.shards
  first_shard = omega arith

  read_at : (number : ℕ) (by : Access) → ReadAt settings (read_of number by)
  read_at number (access.Point key) = tt
  read_at number (access.KeyRange low high) = first_shard
  read_at number (access.IndexRange index low high) = first_shard
  read_at number access.Whole = first_shard

  each_at : (numbers : List ℕ) (accesses : List Access) → AllByRecursion AreAt (reads_of numbers accesses)
  each_at [] accesses = tt
  each_at (number ∷ numbers) [] = tt
  each_at (number ∷ numbers) (by ∷ accesses) = ((read_at number by, tt), each_at numbers accesses)

  edit_at : (catalog : Catalog) (edit : Edit) → AreAt (edit_reads catalog edit)
  edit_at catalog (Insert number rows) =
      all_mapped (ReadAt settings) (λ (row : List Value). Point (record_key number (table_of catalog number) row)) (λ row. tt) (filter (is_looked_up (table_of catalog number)) rows)
  edit_at catalog (Update number sets where_) = (read_at number (access_of (table_of catalog number) 0 where_), tt)
  edit_at catalog (Delete number where_) = (read_at number (access_of (table_of catalog number) 0 where_), tt)

  statement_reads : (catalog : Catalog) (statement : Bound) → AllByRecursion AreAt (all_reads catalog statement)
  statement_reads catalog (bound.Select query) = each_at (numbers_of query) (accesses_of (map (table_of catalog) (numbers_of query)) 0 query.filter)
  statement_reads catalog (bound.Change edit) = (edit_at catalog edit, tt)
  statement_reads catalog bound.Begin = tt
  statement_reads catalog bound.Commit = tt
  statement_reads catalog bound.Rollback = tt
  statement_reads catalog (bound.Recover gone) = tt

  next_at : (later : List (List Read)) (rows : List (List Value)) (earlier : List (List (List Value))) → AllByRecursion AreAt later → ReadsAt settings (next_table later rows earlier)
  next_at [] rows earlier h = record { left = tt; later = tt }
  next_at ([] ∷ later) rows earlier h = next_at later [] (earlier ++ rows ∷ []) h.1
  next_at ((read ∷ left) ∷ later) rows earlier h = record { left = h.0; later = h.1 }

  begun_at : (reads : List (List Read)) → AllByRecursion AreAt reads → ReadsAt settings (begin_reads reads)
  begun_at [] h = record { left = tt; later = tt }
  begun_at ([] ∷ later) h = next_at later [] [] h.1
  begun_at ((read ∷ left) ∷ later) h = record { left = h.0; later = h.1 }

  -- ---- a reply

  read_on : (reads : Reads) (left : List Read) (rows : List (List Value)) → ReadsAt settings reads → AreAt left → ReadsAt settings (after_read reads left rows)
  read_on reads [] rows h l = next_at reads.later (reads.rows ++ rows) reads.earlier h.later
  read_on reads (read ∷ left) rows h l = record { left = l; later = h.later }

  -- a range goes on at the next shard only where there is one
  left_at : (shard : ℕ) (from first before : Key) (more : Bool) (found : List Found) → shard < settings.shards → AreAt (range_left settings.shards shard from first before more found)
  left_at shard from first before true found h = (h, tt)
  left_at shard from first before false found h = by (nat_lt (shard + 1) settings.shards) refl
    where
      by : (b : Bool) → nat_lt (shard + 1) settings.shards ≡ b → AreAt (cond b (Range (shard + 1) first first before ∷ []) [])
      by true e = (next_below shard settings.shards e, tt)
      by false e = tt

  reply_at : (snapshot : TidSet) (reads : Reads) (left : List Read) (heard : Heard) → ReadsAt settings reads → AreAt left → OptionAt settings (after_reply settings snapshot reads left heard)
  reply_at snapshot reads (Point key ∷ left) (Record cell) h l = read_on reads left (option_to_list (row_shown snapshot cell.versions)) h l.1
  reply_at snapshot reads (Range shard from first before ∷ left) (Page found more) h l =
      read_on reads (range_left settings.shards shard from first before more found ++ left) (rows_found snapshot found) h
      (all_append (ReadAt settings) (range_left settings.shards shard from first before more found) left (left_at shard from first before more found l.0) l.1)
  reply_at snapshot reads left heard h l = tt

  -- ---- the course of a statement

  course_read : (reads : Reads) (left : List Read) → ReadsAt settings (record reads { left = left }) → CourseAt settings (reading_course (record reads { left = left }))
  course_read reads [] h = tt
  course_read reads (read ∷ left) h = h

  module _ (catalog : Catalog) where
    statement_at : (statement : Bound) → CourseAt settings (statement_course catalog statement)
    statement_at (bound.Select query) =
        let reads : Reads = begin_reads (all_reads catalog (bound.Select query)) in
        course_read reads reads.left (begun_at (all_reads catalog (bound.Select query)) (statement_reads catalog (bound.Select query)))
    statement_at (bound.Change edit) =
        let reads : Reads = begin_reads (all_reads catalog (bound.Change edit)) in
        course_read reads reads.left (begun_at (all_reads catalog (bound.Change edit)) (statement_reads catalog (bound.Change edit)))
    statement_at bound.Commit = tt
    statement_at bound.Rollback = tt
    statement_at bound.Begin = tt
    statement_at (bound.Recover gone) = tt

    course_at : (stage : Stage) (statement : Bound) → CourseAt settings (course_in catalog stage statement)
    course_at (Answering told) statement = by (is_refusal told)
      where
        by : (b : Bool) → CourseAt settings (cond b ToGiveUp ToCommit)
        by true = tt
        by false = tt
    course_at Fresh statement = statement_at statement
    course_at Opened statement = statement_at statement

    -- ---- what is asked

    read_asks : (left : List Read) → AreAt left → OfShardAt settings (asks_read left)
    read_asks [] h = tt
    read_asks (Point key ∷ left) h = tt
    read_asks (Range shard from first before ∷ left) h = h.0

    outside_asks : (node : Node) (statement : Bound) (course : Course) → OfShardAt settings (asks_outside settings node statement course)
    outside_asks node statement ToBegin = tt
    outside_asks node statement (ToRead reads) = tt
    outside_asks node statement ToIdle = tt
    outside_asks node statement ToCommit = tt
    outside_asks node statement ToGiveUp = tt
    outside_asks node statement (ToRecover gone) = tt

    commit_asks : (node : Node) (t : Txn) → OfShardAt settings (asks_commit settings node t)
    commit_asks node t = by (is_empty t.own) (nat_le settings.managers 1)
      where
        by : (a b : Bool) → OfShardAt settings (cond a LoadCommits (cond b (store_trying node t) (AskManager (other_manager settings node) (request.Floor t.snapshot))))
        by true b = tt
        by false true = tt
        by false false = tt

    inside_asks : (node : Node) (t : Txn) (course : Course) → CourseAt settings course → OfShardAt settings (asks_inside settings node t course)
    inside_asks node t (ToRead reads) c = read_asks reads.left c.left
    inside_asks node t ToIdle c = tt
    inside_asks node t ToCommit c = commit_asks node t
    inside_asks node t ToBegin c = tt
    inside_asks node t ToGiveUp c = tt
    inside_asks node t (ToRecover gone) c = tt

    storing_asks : (node : Node) (s : Storing) (l : Option Loaded) (left : List Write) → OfShardAt settings (asks_storing node (record s { left = left }) l)
    storing_asks node s (Some l) left = tt
    storing_asks node s None [] = tt
    storing_asks node s None (o ∷ left) = tt

    removing_asks : (node : Node) (r : Removing) (l : Option Loaded) (left : List Write) → OfShardAt settings (asks_removing node (record r { left = left }) l)
    removing_asks node r (Some l) left = tt
    removing_asks node r None [] = tt
    removing_asks node r None (o ∷ left) = tt

    finish_asks : (tid : ℕ) (c : Option CommitsCell) → OfShardAt settings (asks_finish tid c)
    finish_asks tid None = tt
    finish_asks tid (Some c) = tt

    duty_asks : (c : Claimed) (left : List ℕ) → OfShardAt settings (asks_duty settings (record c { left = left }))
    duty_asks c [] = tt
    duty_asks c (d ∷ left) = tt

    stripping_asks : (o : Lost) (log : LogCell) (keys : List Key) (l : Option Loaded) → OfShardAt settings (asks_stripping o log keys l)
    stripping_asks o log keys (Some l) = tt
    stripping_asks o log [] None = tt
    stripping_asks o log (key ∷ keys) None = tt

    doing_asks : (node : Node) (statement : Bound) (doing : Doing) → DoingAt settings doing → AskedAt settings (asks_doing settings catalog node statement doing)
    doing_asks node statement Outside d = outside_asks node statement (course_outside statement)
    doing_asks node statement (Noted seen) d = tt
    doing_asks node statement (Drawing seen) d = tt
    doing_asks node statement (Bringing seen low) d = tt
    doing_asks node statement (Inside t) d = inside_asks node t (course_in catalog t.stage statement) (course_at t.stage statement)
    doing_asks node statement (Reading t reads) d = read_asks reads.left d.left
    doing_asks node statement (Trying t) d = tt
    doing_asks node statement (Stores s l) d = storing_asks node s l s.left
    doing_asks node statement (Removes r l) d = removing_asks node r l r.left
    doing_asks node statement (Closing t decision c) d = finish_asks t.tid c
    doing_asks node statement (Ending tid told) d = tt
    doing_asks node statement (Recovering c) d = duty_asks c c.left
    doing_asks node statement (ReadingLog c o) d = tt
    doing_asks node statement (Stripping c o log keys l) d = stripping_asks o log keys l
    doing_asks node statement (Finishing c o committed x) d = finish_asks o.tid x
    doing_asks node statement (EndingLost c o) d = tt
    doing_asks node statement (Stopped nodes) d = tt

    todo_asks : (node : Node) (todo : List Bound) → DoingAt settings node.doing → AskedAt settings (asks settings catalog (record node { todo = todo }))
    todo_asks node [] d = tt
    todo_asks node (statement ∷ later) d = doing_asks (record node { todo = statement ∷ later }) statement node.doing d

    -- ---- after a reply

    abbrev At : Node → Type 0
    At node = DoingAt settings node.doing

    outside_takes : (node : Node) (course : Course) (heard : Heard) → At (takes_outside settings node course heard)
    outside_takes node ToBegin (Commits c) = tt
    outside_takes node ToIdle (Told (manager.FloorIs floor)) = tt
    outside_takes node (ToRecover gone) (Told manager.There) = tt
    outside_takes node (ToRecover gone) (Told (manager.Given also)) = tt
    outside_takes node course heard = tt

    begins_at : (node : Node) (statement : Bound) (t : Txn) → At (begins node statement t)
    begins_at node bound.Begin t = tt
    begins_at node bound.Commit t = tt
    begins_at node bound.Rollback t = tt
    begins_at node (bound.Select query) t = tt
    begins_at node (bound.Change edit) t = tt
    begins_at node (bound.Recover gone) t = tt

    noted_takes : (node : Node) (statement : Bound) (seen : TidSet) (heard : Heard) → At (takes_noted settings node statement seen heard)
    noted_takes node statement seen (Told (manager.Began tid snapshot floor)) = begins_at (learnt node (home_of settings node.number) floor) statement (begun_txn tid snapshot)
    noted_takes node statement seen (Told manager.NeedRange) = tt
    noted_takes node statement seen heard = tt

    drawing_takes : (node : Node) (seen : TidSet) (heard : Heard) → At (takes_drawing node seen heard)
    drawing_takes node seen (Numbers old) = tt
    drawing_takes node seen heard = tt

    bringing_takes : (node : Node) (seen : TidSet) (heard : Heard) → At (takes_bringing node seen heard)
    bringing_takes node seen (Told manager.Ranged) = tt
    bringing_takes node seen heard = tt

    stage_at : (node : Node) (statement : Bound) (t : Txn) (stage : Stage) (rows : List (List (List Value))) (told : Answer) → At (said catalog node statement (record t { stage = stage }) rows told)
    stage_at node statement t Fresh rows told = tt
    stage_at node statement t Opened rows told = tt
    stage_at node statement t (Answering before) rows told = tt

    on_at : (node : Node) (statement : Bound) (t : Txn) (reads : Reads) (left : List Read) (told : Answer) → ReadsAt settings (record reads { left = left })
        → At (goes_on catalog node statement t (record reads { left = left }) told)
    on_at node statement t reads [] told h = let read : Reads = record reads { left = [] } in stage_at node statement t t.stage (tables_read read) told
    on_at node statement t reads (read ∷ left) told h = h

    read_takes : (node : Node) (statement : Bound) (t : Txn) (reads : Reads) (heard : Heard) (told : Answer) → ReadsAt settings reads
        → At (takes_read settings catalog node statement t reads heard told)
    read_takes node statement t reads heard told h =
        elim (after_reply settings t.snapshot reads reads.left heard) as (λ o. OptionAt settings o → after_reply settings t.snapshot reads reads.left heard ≡ o
        → At (takes_read settings catalog node statement t reads heard told)) [
          | None ↦ λ k e. rw e tt
          | Some after ↦ λ k e. rw e (on_at node statement t after after.left told k)
        ] (reply_at t.snapshot reads reads.left heard h h.left) refl

    idle_at : (node : Node) (statement : Bound) (t : Txn) (reads : Reads) (told : Answer) → At (idles catalog node statement t reads told)
    idle_at node bound.Begin t reads told = tt
    idle_at node (bound.Recover gone) t reads told = tt
    idle_at node (bound.Select query) t reads told = stage_at node (bound.Select query) t t.stage (tables_read reads) told
    idle_at node (bound.Change edit) t reads told = stage_at node (bound.Change edit) t t.stage (tables_read reads) told
    idle_at node bound.Commit t reads told = stage_at node bound.Commit t t.stage (tables_read reads) told
    idle_at node bound.Rollback t reads told = stage_at node bound.Rollback t t.stage (tables_read reads) told

    idle_takes : (node : Node) (statement : Bound) (t : Txn) (heard : Heard) (told : Answer) → At (takes_idle settings catalog node statement t heard told)
    idle_takes node statement t (Told (manager.FloorIs floor)) told = idle_at (learnt node (home_of settings node.number) floor) statement t (begin_reads (all_reads catalog statement)) told
    idle_takes node statement t heard told = tt

    commit_takes : (node : Node) (t : Txn) (heard : Heard) → At (takes_commit settings node t heard)
    commit_takes node t (Commits c) = tt
    commit_takes node t (Stored stamp) = tt
    commit_takes node t (Told (manager.FloorIs floor)) = tt
    commit_takes node t heard = tt

    give_up_takes : (node : Node) (t : Txn) (heard : Heard) → At (takes_give_up node t heard)
    give_up_takes node t (Commits c) = tt
    give_up_takes node t heard = tt

    inside_takes : (node : Node) (statement : Bound) (t : Txn) (course : Course) (heard : Heard) (told : Answer) → CourseAt settings course
        → At (takes_inside settings catalog node statement t course heard told)
    inside_takes node statement t (ToRead reads) heard told c = read_takes node statement t reads heard told c
    inside_takes node statement t ToIdle heard told c = idle_takes node statement t heard told
    inside_takes node statement t ToCommit heard told c = commit_takes node t heard
    inside_takes node statement t ToGiveUp heard told c = give_up_takes node t heard
    inside_takes node statement t ToBegin heard told c = tt
    inside_takes node statement t (ToRecover gone) heard told c = tt

    trying_takes : (node : Node) (t : Txn) (heard : Heard) → At (takes_trying node t heard)
    trying_takes node t (Stored stamp) = tt
    trying_takes node t heard = tt

    finds_at : (node : Node) (s : Storing) (key : Key) (cell : Cell) (rival : Option ℕ) → At (finds node s key cell rival)
    finds_at node s key cell None = tt
    finds_at node s key cell (Some rival) = tt

    storing_takes : (node : Node) (s : Storing) (l : Option Loaded) (left : List Write) (heard : Heard) → At (takes_storing node s l left heard)
    storing_takes node s None [] (Stored stamp) = tt
    storing_takes node s None (o ∷ left) (Record cell) = finds_at node s o.key cell (stranger s.txn.snapshot cell.versions)
    storing_takes node s (Some l) (o ∷ left) (Stored stamp) = tt
    storing_takes node s (Some l) left Moved = tt
    storing_takes node s l left heard = tt

    removing_takes : (node : Node) (r : Removing) (l : Option Loaded) (left : List Write) (heard : Heard) → At (takes_removing node r l left heard)
    removing_takes node r None [] (Stored stamp) = tt
    removing_takes node r None (o ∷ left) (Record cell) = tt
    removing_takes node r (Some l) (o ∷ left) (Stored stamp) = tt
    removing_takes node r (Some l) left Moved = tt
    removing_takes node r l left heard = tt

    closing_takes : (node : Node) (t : Txn) (d : Decision) (c : Option CommitsCell) (heard : Heard) → At (takes_closing node t d c heard)
    closing_takes node t d None (Commits c) = tt
    closing_takes node t d (Some c) (Stored stamp) = tt
    closing_takes node t d (Some c) Moved = tt
    closing_takes node t d c heard = tt

    ending_takes : (node : Node) (told : Answer) (heard : Heard) → At (takes_ending node told heard)
    ending_takes node told (Told manager.Ended) = tt
    ending_takes node told heard = tt

    -- the transactions of vanished nodes
    duty_at : (node : Node) (c : Claimed) (left : List ℕ) → At (next_duty node (record c { left = left }))
    duty_at node c [] = tt
    duty_at node c (d ∷ left) = tt

    lost_at : (node : Node) (c : Claimed) (d : ℕ) (tids : List ℕ) → At (next_lost node c d tids)
    lost_at node c d [] = duty_at node c c.left
    lost_at node c d (tid ∷ others) = tt

    recovering_takes : (node : Node) (c : Claimed) (left : List ℕ) (heard : Heard) → At (takes_recovering node c left heard)
    recovering_takes node c (d ∷ left) (Told (manager.Orphaned tids)) = lost_at node (record c { left = left }) d tids
    recovering_takes node c left heard = tt

    flag_at : (node : Node) (c : Claimed) (o : Lost) (log : LogCell) (f : Flag) → At (by_flag node c o log f)
    flag_at node c o log flag.Trying = tt
    flag_at node c o log flag.Decided = tt
    flag_at node c o log flag.Undone = tt

    log_takes : (node : Node) (c : Claimed) (o : Lost) (heard : Heard) → At (takes_log node c o heard)
    log_takes node c o (Log None) = tt
    log_takes node c o (Log (Some log)) = flag_at node c o log log.entry.flag
    log_takes node c o heard = tt

    stripping_takes : (node : Node) (c : Claimed) (o : Lost) (log : LogCell) (keys : List Key) (l : Option Loaded) (heard : Heard) → At (takes_stripping node c o log keys l heard)
    stripping_takes node c o log [] None (Stored stamp) = tt
    stripping_takes node c o log (key ∷ keys) None (Record cell) = by (is_written o.tid cell.versions)
      where
        by : (b : Bool) → At (cond b (with_doing node (Stripping c o log (key ∷ keys) (Some (record { key = key; stamp = cell.stamp; versions = cell.versions }))))
            (with_doing node (Stripping c o log keys None)))
        by true = tt
        by false = tt
    stripping_takes node c o log (key ∷ keys) (Some l) (Stored stamp) = tt
    stripping_takes node c o log keys (Some l) Moved = tt
    stripping_takes node c o log keys l heard = tt

    finishing_takes : (node : Node) (c : Claimed) (o : Lost) (committed : Bool) (x : Option CommitsCell) (heard : Heard) → At (takes_finishing node c o committed x heard)
    finishing_takes node c o committed None (Commits x) = by (has x.finished o.tid)
      where
        by : (b : Bool) → At (cond b (with_doing node (EndingLost c o)) (with_doing node (Finishing c o committed (Some x))))
        by true = tt
        by false = tt
    finishing_takes node c o committed (Some x) (Stored stamp) = tt
    finishing_takes node c o committed (Some x) Moved = tt
    finishing_takes node c o committed x heard = tt

    end_lost_takes : (node : Node) (c : Claimed) (o : Lost) (heard : Heard) → At (takes_end_lost node c o heard)
    end_lost_takes node c o (Told manager.Ended) = lost_at node c o.node o.others
    end_lost_takes node c o heard = tt

    doing_takes : (node : Node) (statement : Bound) (doing : Doing) (heard : Heard) (told : Answer) → At node → DoingAt settings doing
        → At (takes_doing settings catalog node statement doing heard told)
    doing_takes node statement Outside heard told h d = outside_takes node (course_outside statement) heard
    doing_takes node statement (Noted seen) heard told h d = noted_takes node statement seen heard
    doing_takes node statement (Drawing seen) heard told h d = drawing_takes node seen heard
    doing_takes node statement (Bringing seen low) heard told h d = bringing_takes node seen heard
    doing_takes node statement (Inside x) heard told h d = inside_takes node statement x (course_in catalog x.stage statement) heard told (course_at x.stage statement)
    doing_takes node statement (Reading x reads) heard told h d = read_takes node statement x reads heard told d
    doing_takes node statement (Trying x) heard told h d = trying_takes node x heard
    doing_takes node statement (Stores x l) heard told h d = storing_takes node x l x.left heard
    doing_takes node statement (Removes r l) heard told h d = removing_takes node r l r.left heard
    doing_takes node statement (Closing x decision c) heard told h d = closing_takes node x decision c heard
    doing_takes node statement (Ending tid said_so) heard told h d = ending_takes node said_so heard
    doing_takes node statement (Recovering c) heard told h d = recovering_takes node c c.left heard
    doing_takes node statement (ReadingLog c o) heard told h d = log_takes node c o heard
    doing_takes node statement (Stripping c o log keys l) heard told h d = stripping_takes node c o log keys l heard
    doing_takes node statement (Finishing c o committed x) heard told h d = finishing_takes node c o committed x heard
    doing_takes node statement (EndingLost c o) heard told h d = end_lost_takes node c o heard
    doing_takes node statement (Stopped nodes) heard told h d = h

    todo_takes : (node : Node) (todo : List Bound) (heard : Heard) (told : Answer) → DoingAt settings node.doing → At (takes settings catalog (record node { todo = todo }) heard told)
    todo_takes node [] heard told h = h
    todo_takes node (statement ∷ later) heard told h = doing_takes (record node { todo = statement ∷ later }) statement node.doing heard told h h

pub takes_at : (settings : Settings) (catalog : Catalog) (node : Node) (heard : Heard) (told : Answer) → 1 ≤ settings.shards → DoingAt settings node.doing
    → DoingAt settings (takes settings catalog node heard told).doing
takes_at settings catalog node heard told some h = todo_takes settings some catalog node node.todo heard told h

at_shard : (settings : Settings) (ask : Ask) → is_of_shard ask ≡ true → OfShardAt settings ask → IsAtShard settings ask
at_shard settings LoadCommits o h = tt
at_shard settings (StoreCommits stamp set) o h = tt
at_shard settings (LoadLog tid) o h = tt
at_shard settings (StoreLog stamp entry) o h = tt
at_shard settings (LoadRecord key) o h = tt
at_shard settings (StoreRecord key stamp versions) o h = tt
at_shard settings (ReadPage shard from before) o h = h
at_shard settings DrawNumbers o h = tt
at_shard settings (AskManager m asked) o h = cc

-- what a node asks of a shard it asks of one that there is
pub asks_at : (settings : Settings) (catalog : Catalog) (node : Node) (ask : Ask) → 1 ≤ settings.shards → DoingAt settings node.doing
    → asks settings catalog node ≡ Some ask → is_of_shard ask ≡ true → IsAtShard settings ask
asks_at settings catalog node ask some h e o = at_shard settings ask o (subst (AskedAt settings) e (todo_asks settings some catalog node node.todo h))
