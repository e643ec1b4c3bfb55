-- What a node does with a reply. Where a statement is said at it, its answer is given; `Means` says which it may be.
use Rattle.std.specs.Prelude.{◌≡◌, ℕ, ◌+◌, Bool, true, false, List, [], ◌∷◌, ◌++◌, Option, Some, None, slice_set, if◌then◌else◌}
use Rattle.tl_base.specs.NodeSet.{with_node}
use Rattle.tl_base.specs.declared.place.Settings.{Settings}
use Rattle.tl_values.specs.declared.value.Value.{Value}
use Rattle.tl_schema.specs.declared.catalog.Catalog.{Catalog}
use Rattle.tl_descriptor.specs.Tids.{TidSet, has}
use Rattle.tl_logrec.specs.declared.entry.Flag.{Flag}
use Rattle.tl_logrec.specs.declared.entry.Flag.TheVariants as flag
use Rattle.tl_manager.specs.declared.request.ManagerReply.TheVariants as manager
use Rattle.tl_versions.specs.Versions.{is_written, stranger}
use Rattle.tl_algebra.specs.declared.edit.Edit.{Edit}
use Rattle.tl_write.specs.declared.write.Write.{Write}
use Rattle.tl_write.specs.Change.{number_of}
use Rattle.tl_write.specs.Tables.{Tables, laid_over, tables_of}
use Rattle.tl_isolation.specs.declared.bound.Bound.{Bound}
use Rattle.tl_isolation.specs.declared.bound.Bound.TheVariants as bound
use Rattle.tl_isolation.specs.declared.entry.Answer.{Answer}
use Rattle.tl_isolation.specs.declared.entry.Answer.TheVariants as answer
use Rattle.tl_isolation.specs.Meaning.{QueryAnswers, change_of, told_of}
use Rattle.tl_isolation.specs.Step.{own_after}
use Rattle.tl_isolation.specs.Tables.{rows_in, table_of}
use Rattle.tl_plan.specs.Plan.{numbers_of}
use Rattle.tl_protocol.specs.Store.{Key, Cell, CommitsCell, LogCell}
use Rattle.tl_protocol.specs.World.{Stage, Fresh, Opened, Answering, Txn, Loaded, Decision, Commit, Undo}
use Rattle.tl_protocol.specs.Next.{after_saying, begun_txn, end_answer}
use Rattle.tl_journal.specs.Ask.{Heard, Commits, Log, Record, Page, Stored, Moved, Numbers, Told}
use Rattle.tl_journal.specs.Bytes.{home_of}
use Rattle.tl_journal.specs.Reads.{Read, Point, Range, Reads, all_reads, begin_reads, tables_read, take_cell, take_page}
use Rattle.tl_journal.specs.Node.{Storing, Removing, Claimed, Lost, Doing, Outside, Noted, Drawing, Bringing, Inside, Reading, Trying, Stores, Removes, Closing, Ending, Recovering, ReadingLog, Stripping, Finishing, EndingLost, Stopped, Node, nodes_in, owed_by}
use Rattle.tl_journal.specs.Asks.{Course, ToBegin, ToRead, ToIdle, ToCommit, ToGiveUp, ToRecover, course_in, course_outside, other_manager}

abbrev pub with_doing : Node → Doing → Node
with_doing node doing = record node { doing = doing }

abbrev pub stopped : Node → Node
stopped node = with_doing node (Stopped (owed_by node.doing))

-- the present statement is answered
abbrev pub answered : Node → Answer → Doing → Node
answered node told doing = record node { todo = rest node.todo; answers = node.answers ++ told ∷ []; doing = doing }
  where
    rest : {A : Type 0} → List A → List A
    rest [] = []
    rest (x ∷ xs) = xs

-- a manager told its low-water mark
abbrev pub learnt : Node → ℕ → TidSet → Node
learnt node manager floor = record node { floors = slice_set node.floors manager floor }

-- the tables that were read, with the own writes over them
abbrev pub view_read : Catalog → ℕ → List Write → List (List Value) → Tables
view_read catalog number own rows = laid_over (tables_of number (table_of catalog number) rows) own

abbrev pub tables_seen : Catalog → List ℕ → List Write → List (List (List Value)) → List (List (List Value))
tables_seen catalog [] own rows = []
tables_seen catalog (number ∷ numbers) own [] = []
tables_seen catalog (number ∷ numbers) own (found ∷ later) =
    rows_in number (view_read catalog number own found) ∷ tables_seen catalog numbers own later

abbrev pub first_rows : List (List (List Value)) → List (List Value)
first_rows [] = []
first_rows (rows ∷ later) = rows

abbrev pub view_changed : Catalog → Edit → List Write → List (List (List Value)) → Tables
view_changed catalog edit own rows = view_read catalog (number_of edit) own (first_rows rows)

-- the own writes after a statement
abbrev pub own_said : Catalog → Bound → List Write → List (List (List Value)) → List Write
own_said catalog (bound.Change edit) own rows = own_after (change_of catalog edit (view_changed catalog edit own rows) own) own
own_said catalog statement own rows = own

-- the statement is said: it is answered in a transaction that BEGIN opened, else its answer waits for the end
abbrev pub said : Catalog → Node → Bound → Txn → List (List (List Value)) → Answer → Node
said catalog node statement t rows told = by t.stage (record t { own = own_said catalog statement t.own rows; stage = after_saying told t.stage })
  where
    by : Stage → Txn → Node
    by Fresh after = with_doing node (Inside after)
    by Opened after = answered node told (Inside after)
    by (Answering before) after = with_doing node (Inside after)

-- where this may be the answer, by the rows that were read
abbrev pub Means : Catalog → Bound → List Write → List (List (List Value)) → Answer → Type 0
Means catalog (bound.Select query) own rows told = QueryAnswers query (tables_seen catalog (numbers_of query) own rows) told
Means catalog (bound.Change edit) own rows told = told_of (change_of catalog edit (view_changed catalog edit own rows) own) ≡ Some told
Means catalog statement own rows told = ⊥

abbrev pub takes_outside : Settings → Node → Course → Heard → Node
takes_outside settings node ToBegin (Commits c) = with_doing node (Noted c.finished)
takes_outside settings node ToIdle (Told (manager.FloorIs floor)) =
    answered (learnt node (home_of settings node.number) floor) answer.Outside Outside
takes_outside settings node (ToRecover gone) (Told manager.There) = answered node (answer.There gone) Outside
takes_outside settings node (ToRecover gone) (Told (manager.Given also)) =
    with_doing node (Recovering (record { node = gone; all = with_node also gone; left = nodes_in (with_node also gone) }))
takes_outside settings node course heard = stopped node

-- for the statement BEGIN the transaction is open at once
abbrev pub begins : Node → Bound → Txn → Node
begins node bound.Begin t = answered node answer.Begun (Inside (record t { stage = Opened }))
begins node statement t = with_doing node (Inside t)

abbrev pub takes_noted : Settings → Node → Bound → TidSet → Heard → Node
takes_noted settings node statement seen (Told (manager.Began tid snapshot floor)) =
    begins (learnt node (home_of settings node.number) floor) statement (begun_txn tid snapshot)
takes_noted settings node statement seen (Told manager.NeedRange) = with_doing node (Drawing seen)
takes_noted settings node statement seen heard = stopped node

abbrev pub takes_drawing : Node → TidSet → Heard → Node
takes_drawing node seen (Numbers old) = with_doing node (Bringing seen old)
takes_drawing node seen heard = stopped node

abbrev pub takes_bringing : Node → TidSet → Heard → Node
takes_bringing node seen (Told manager.Ranged) = with_doing node (Noted seen)
takes_bringing node seen heard = stopped node

-- what was read is all, or there is more to read
abbrev pub goes_on : Catalog → Node → Bound → Txn → Reads → Answer → Node
goes_on catalog node statement t reads told = by reads.left
  where
    by : List Read → Node
    by [] = said catalog node statement t (tables_read reads) told
    by (read ∷ left) = with_doing node (Reading t reads)

-- the reads after a reply to the first of them, where it is one
abbrev pub after_reply : Settings → TidSet → Reads → List Read → Heard → Option Reads
after_reply settings snapshot reads (Point key ∷ left) (Record cell) = Some (take_cell snapshot cell.versions reads left)
after_reply settings snapshot reads (Range shard from first before ∷ left) (Page found more) =
    Some (take_page settings.shards snapshot shard from first before found more reads left)
after_reply settings snapshot reads left heard = None

abbrev pub takes_read : Settings → Catalog → Node → Bound → Txn → Reads → Heard → Answer → Node
takes_read settings catalog node statement t reads heard told = by (after_reply settings t.snapshot reads reads.left heard)
  where
    by : Option Reads → Node
    by None = stopped node
    by (Some after) = goes_on catalog node statement t after told

-- the one request of a statement without reads was answered
abbrev pub idles : Catalog → Node → Bound → Txn → Reads → Answer → Node
idles catalog node bound.Begin t reads told = answered node answer.Nested (Inside t)
idles catalog node (bound.Recover gone) t reads told = answered node answer.Nested (Inside t)
idles catalog node statement t reads told = said catalog node statement t (tables_read reads) told

abbrev pub stores_first : Txn → ℕ → Doing
stores_first t stamp = Stores (record { txn = t; log = stamp; stored = []; left = t.own }) None

abbrev pub takes_commit : Settings → Node → Txn → Heard → Node
takes_commit settings node t (Commits c) = with_doing node (Closing t Commit (Some c))
takes_commit settings node t (Stored stamp) = with_doing node (stores_first t stamp)
takes_commit settings node t (Told (manager.FloorIs floor)) =
    record (learnt node (other_manager settings node) floor) { asked_others = node.asked_others + 1; doing = Trying t }
takes_commit settings node t heard = stopped node

abbrev pub takes_give_up : Node → Txn → Heard → Node
takes_give_up node t (Commits c) = with_doing node (Closing t (Undo None) (Some c))
takes_give_up node t heard = stopped node

abbrev pub takes_idle : Settings → Catalog → Node → Bound → Txn → Heard → Answer → Node
takes_idle settings catalog node statement t (Told (manager.FloorIs floor)) told =
    idles catalog (learnt node (home_of settings node.number) floor) statement t (begin_reads (all_reads catalog statement)) told
takes_idle settings catalog node statement t heard told = stopped node

abbrev pub takes_inside : Settings → Catalog → Node → Bound → Txn → Course → Heard → Answer → Node
takes_inside settings catalog node statement t (ToRead reads) heard told = takes_read settings catalog node statement t reads heard told
takes_inside settings catalog node statement t ToIdle heard told = takes_idle settings catalog node statement t heard told
takes_inside settings catalog node statement t ToCommit heard told = takes_commit settings node t heard
takes_inside settings catalog node statement t ToGiveUp heard told = takes_give_up node t heard
takes_inside settings catalog node statement t course heard told = stopped node

abbrev pub takes_trying : Node → Txn → Heard → Node
takes_trying node t (Stored stamp) = with_doing node (stores_first t stamp)
takes_trying node t heard = stopped node

-- an own record was loaded
abbrev pub finds : Node → Storing → Key → Cell → Option ℕ → Node
finds node s key cell None = with_doing node (Stores s (Some (record { key = key; stamp = cell.stamp; versions = cell.versions })))
finds node s key cell (Some rival) = with_doing node (Removes (record { txn = s.txn; log = s.log; rival = rival; left = s.stored }) None)

abbrev pub takes_storing : Node → Storing → Option Loaded → List Write → Heard → Node
takes_storing node s None [] (Stored stamp) = with_doing node (Closing s.txn Commit None)
takes_storing node s None (o ∷ left) (Record cell) = finds node s o.key cell (stranger s.txn.snapshot cell.versions)
takes_storing node s (Some l) (o ∷ left) (Stored stamp) = with_doing node (Stores (record s { stored = s.stored ++ o ∷ []; left = left }) None)
takes_storing node s (Some l) left Moved = with_doing node (Stores s None)
takes_storing node s l left heard = stopped node

abbrev pub takes_removing : Node → Removing → Option Loaded → List Write → Heard → Node
takes_removing node r None [] (Stored stamp) = with_doing node (Closing r.txn (Undo (Some r.rival)) None)
takes_removing node r None (o ∷ left) (Record cell) =
    with_doing node (Removes r (Some (record { key = o.key; stamp = cell.stamp; versions = cell.versions })))
takes_removing node r (Some l) (o ∷ left) (Stored stamp) = with_doing node (Removes (record r { left = left }) None)
takes_removing node r (Some l) left Moved = with_doing node (Removes r None)
takes_removing node r l left heard = stopped node

abbrev pub takes_closing : Node → Txn → Decision → Option CommitsCell → Heard → Node
takes_closing node t d None (Commits c) = with_doing node (Closing t d (Some c))
takes_closing node t d (Some c) (Stored stamp) = with_doing node (Ending t.tid (end_answer t.stage d))
takes_closing node t d (Some c) Moved = with_doing node (Closing t d None)
takes_closing node t d c heard = stopped node

abbrev pub takes_ending : Node → Answer → Heard → Node
takes_ending node told (Told manager.Ended) = answered node told Outside
takes_ending node told heard = stopped node

-- the next duty, or the answer where none is left
abbrev pub next_duty : Node → Claimed → Node
next_duty node c = by c.left
  where
    by : List ℕ → Node
    by [] = answered node (answer.Recovered c.node) Outside
    by (d ∷ left) = with_doing node (Recovering c)

-- the next transaction of the duty in hand, or the next duty
abbrev pub next_lost : Node → Claimed → ℕ → List ℕ → Node
next_lost node c d [] = next_duty node c
next_lost node c d (tid ∷ others) = with_doing node (ReadingLog c (record { node = d; tid = tid; others = others }))

abbrev pub takes_recovering : Node → Claimed → List ℕ → Heard → Node
takes_recovering node c (d ∷ left) (Told (manager.Orphaned tids)) = next_lost node (record c { left = left }) d tids
takes_recovering node c left heard = stopped node

abbrev pub by_flag : Node → Claimed → Lost → LogCell → Flag → Node
by_flag node c o log flag.Trying = with_doing node (Stripping c o log log.entry.writes None)
by_flag node c o log flag.Decided = with_doing node (Finishing c o true None)
by_flag node c o log flag.Undone = with_doing node (Finishing c o false None)

abbrev pub takes_log : Node → Claimed → Lost → Heard → Node
takes_log node c o (Log None) = with_doing node (Finishing c o false None)
takes_log node c o (Log (Some log)) = by_flag node c o log log.entry.flag
takes_log node c o heard = stopped node

abbrev pub takes_stripping : Node → Claimed → Lost → LogCell → List Key → Option Loaded → Heard → Node
takes_stripping node c o log [] None (Stored stamp) = with_doing node (Finishing c o false None)
takes_stripping node c o log (key ∷ keys) None (Record cell) =
    if is_written o.tid cell.versions
    then with_doing node (Stripping c o log (key ∷ keys) (Some (record { key = key; stamp = cell.stamp; versions = cell.versions })))
    else with_doing node (Stripping c o log keys None)
takes_stripping node c o log (key ∷ keys) (Some l) (Stored stamp) = with_doing node (Stripping c o log keys None)
takes_stripping node c o log keys (Some l) Moved = with_doing node (Stripping c o log keys None)
takes_stripping node c o log keys l heard = stopped node

abbrev pub takes_finishing : Node → Claimed → Lost → Bool → Option CommitsCell → Heard → Node
takes_finishing node c o committed None (Commits x) =
    if has x.finished o.tid then with_doing node (EndingLost c o) else with_doing node (Finishing c o committed (Some x))
takes_finishing node c o committed (Some x) (Stored stamp) = with_doing node (EndingLost c o)
takes_finishing node c o committed (Some x) Moved = with_doing node (Finishing c o committed None)
takes_finishing node c o committed x heard = stopped node

abbrev pub takes_end_lost : Node → Claimed → Lost → Heard → Node
takes_end_lost node c o (Told manager.Ended) = next_lost node c o.node o.others
takes_end_lost node c o heard = stopped node

abbrev pub takes_doing : Settings → Catalog → Node → Bound → Doing → Heard → Answer → Node
takes_doing settings catalog node statement Outside heard told = takes_outside settings node (course_outside statement) heard
takes_doing settings catalog node statement (Noted seen) heard told = takes_noted settings node statement seen heard
takes_doing settings catalog node statement (Drawing seen) heard told = takes_drawing node seen heard
takes_doing settings catalog node statement (Bringing seen low) heard told = takes_bringing node seen heard
takes_doing settings catalog node statement (Inside t) heard told = takes_inside settings catalog node statement t (course_in catalog t.stage statement) heard told
takes_doing settings catalog node statement (Reading t reads) heard told = takes_read settings catalog node statement t reads heard told
takes_doing settings catalog node statement (Trying t) heard told = takes_trying node t heard
takes_doing settings catalog node statement (Stores s l) heard told = takes_storing node s l s.left heard
takes_doing settings catalog node statement (Removes r l) heard told = takes_removing node r l r.left heard
takes_doing settings catalog node statement (Closing t d c) heard told = takes_closing node t d c heard
takes_doing settings catalog node statement (Ending tid said_so) heard told = takes_ending node said_so heard
takes_doing settings catalog node statement (Recovering c) heard told = takes_recovering node c c.left heard
takes_doing settings catalog node statement (ReadingLog c o) heard told = takes_log node c o heard
takes_doing settings catalog node statement (Stripping c o log keys l) heard told = takes_stripping node c o log keys l heard
takes_doing settings catalog node statement (Finishing c o committed x) heard told = takes_finishing node c o committed x heard
takes_doing settings catalog node statement (EndingLost c o) heard told = takes_end_lost node c o heard
takes_doing settings catalog node statement (Stopped nodes) heard told = node

abbrev pub takes : Settings → Catalog → Node → Heard → Answer → Node
takes settings catalog node heard told = by node.todo
  where
    by : List Bound → Node
    by [] = node
    by (statement ∷ later) = takes_doing settings catalog node statement node.doing heard told

abbrev pub MeansRead : Catalog → Bound → Txn → Option Reads → Answer → Type 0
MeansRead catalog statement t None told = Unit {0}
MeansRead catalog statement t (Some after) told = by after.left
  where
    by : List Read → Type 0
    by [] = Means catalog statement t.own (tables_read after) told
    by (read ∷ left) = Unit {0}

abbrev pub MeansIdle : Catalog → Bound → Txn → Answer → Type 0
MeansIdle catalog bound.Begin t told = Unit {0}
MeansIdle catalog (bound.Recover gone) t told = Unit {0}
MeansIdle catalog statement t told = Means catalog statement t.own (tables_read (begin_reads (all_reads catalog statement))) told

abbrev pub MeansInside : Settings → Catalog → Bound → Txn → Course → Heard → Answer → Type 0
MeansInside settings catalog statement t (ToRead reads) heard told = MeansRead catalog statement t (after_reply settings t.snapshot reads reads.left heard) told
MeansInside settings catalog statement t ToIdle heard told = MeansIdle catalog statement t told
MeansInside settings catalog statement t course heard told = Unit {0}

abbrev pub MeansDoing : Settings → Catalog → Bound → Doing → Heard → Answer → Type 0
MeansDoing settings catalog statement (Inside t) heard told = MeansInside settings catalog statement t (course_in catalog t.stage statement) heard told
MeansDoing settings catalog statement (Reading t reads) heard told = MeansRead catalog statement t (after_reply settings t.snapshot reads reads.left heard) told
MeansDoing settings catalog statement doing heard told = Unit {0}

-- where a statement is said at this reply, it may be answered so
abbrev pub MayMean : Settings → Catalog → Node → Heard → Answer → Type 0
MayMean settings catalog node heard told = by node.todo
  where
    by : List Bound → Type 0
    by [] = Unit {0}
    by (statement ∷ later) = MeansDoing settings catalog statement node.doing heard told
