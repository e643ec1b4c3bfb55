-- A node that reads has something left to read, and one that recovers has a node left to see to.
use Rattle.std.proofs.Common.{◌≡◌, ℕ, ◌≤◌, Bool, true, false, cond, List, [], ◌∷◌, Option, Some, None, refl, ◌∙◌, arith}
use Rattle.std.specs.Prelude.{◌==◌, ◌&&◌, not, nat_le, nat_lt, if◌then◌else◌}
use Rattle.std.specs.List.{AllByRecursion}
use Rattle.std.proofs.lemmas.Bool.{and_from}
use Rattle.std.proofs.lemmas.Bool.Decides.{nat_tests}
use Rattle.tl_base.specs.NodeSet.{has_node, with_node}
use Rattle.tl_base.specs.declared.node.NodeSet.{NodeSet}
use Rattle.tl_base.specs.declared.place.Settings.{Settings}
use Rattle.tl_schema.specs.declared.catalog.Catalog.{Catalog}
use Rattle.tl_values.specs.declared.value.Value.{Value}
use Rattle.tl_descriptor.specs.Tids.{TidSet, has}
use Rattle.tl_logrec.specs.declared.entry.Flag.{Flag}
use Rattle.tl_logrec.specs.declared.entry.Flag.TheVariants as flag
use Rattle.tl_manager.specs.declared.request.ManagerReply.TheVariants as manager
use Rattle.tl_versions.specs.Versions.{is_written, stranger}
use Rattle.tl_write.specs.declared.write.Write.{Write}
use Rattle.tl_isolation.specs.declared.bound.Bound.{Bound}
use Rattle.tl_isolation.specs.declared.bound.Bound.TheVariants as bound
use Rattle.tl_isolation.specs.declared.entry.Answer.{Answer}
use Rattle.tl_isolation.specs.declared.entry.Answer.TheVariants as answer
use Rattle.tl_isolation.specs.declared.script.Script.{Script}
use Rattle.tl_isolation.specs.declared.script.Session.{Session}
use Rattle.tl_isolation.specs.State.{is_refusal}
use Rattle.tl_protocol.specs.Store.{Key, Cell, CommitsCell, LogCell}
use Rattle.tl_protocol.specs.World.{Stage, Fresh, Opened, Answering, Txn, Loaded, Decision}
use Rattle.tl_protocol.specs.Move.{is_empty}
use Rattle.tl_protocol.specs.Next.{begun_txn}
use Rattle.tl_protocol.proofs.Held.{vanished_here}
use Rattle.tl_journal.specs.declared.event.Event.{Event}
use Rattle.tl_journal.specs.Ask.{Ask, Heard, Commits, Log, Record, Stored, Moved, Numbers, Told}
use Rattle.tl_journal.specs.Asks.{Course, ToBegin, ToRead, ToIdle, ToCommit, ToGiveUp, ToRecover, asks, course_in, course_outside, reading_course, statement_course}
use Rattle.tl_journal.specs.Bytes.{heard, home_of}
use Rattle.tl_journal.specs.Journal.{after_event, answer_said, is_post, node_after, node_from, takes_reply}
use Rattle.tl_journal.specs.Memory.{cut_short, is_cut}
use Rattle.tl_journal.specs.Node.{Storing, Removing, Claimed, Lost, Doing, Outside, Noted, Drawing, Bringing, Inside, Reading, Trying, Stores, Removes, Closing, Ending, Recovering, ReadingLog, Stripping, Finishing, EndingLost, Stopped, Node, all_nodes, nodes_in, opening_node}
use Rattle.tl_journal.specs.Reads.{Read, Reads, all_reads, begin_reads, tables_read}
use Rattle.tl_journal.specs.Takes.{after_reply, answered, begins, by_flag, finds, goes_on, idles, learnt, next_duty, next_lost, said, takes, takes_bringing, takes_closing, takes_commit, takes_doing, takes_drawing, takes_end_lost, takes_ending, takes_finishing, takes_give_up, takes_idle, takes_inside, takes_log, takes_noted, takes_outside, takes_read, takes_recovering, takes_removing, takes_storing, takes_stripping, takes_trying, with_doing}
use Rattle.tl_journal.proofs.Meets.{members}
use Rattle.tl_journal.proofs.Owed.{members_count, members_filter}
use Rattle.tl_journal.proofs.Stated.{StatementOn}

abbrev pub LeftIs : Doing → Type 0
LeftIs (Reading t reads) = is_empty reads.left ≡ false
LeftIs (Recovering c) = is_empty c.left ≡ false
LeftIs doing = Unit {0}

-- where a statement leads inside a transaction: not out of it, and to reads where there are some
abbrev pub CourseIs : Course → Type 0
CourseIs (ToRead reads) = is_empty reads.left ≡ false
CourseIs ToBegin = ⊥
CourseIs (ToRecover gone) = ⊥
CourseIs course = Unit {0}

reading_is : (reads : Reads) → CourseIs (reading_course reads)
reading_is reads = by reads.left
  where
    by : (left : List Read) → CourseIs (reading_course (record reads { left = left }))
    by [] = tt
    by (read ∷ left) = refl

statement_is : (catalog : Catalog) (statement : Bound) → CourseIs (statement_course catalog statement)
statement_is catalog (bound.Select query) = reading_is (begin_reads (all_reads catalog (bound.Select query)))
statement_is catalog (bound.Change edit) = reading_is (begin_reads (all_reads catalog (bound.Change edit)))
statement_is catalog bound.Commit = tt
statement_is catalog bound.Rollback = tt
statement_is catalog bound.Begin = tt
statement_is catalog (bound.Recover gone) = tt

pub course_is : (catalog : Catalog) (stage : Stage) (statement : Bound) → CourseIs (course_in catalog stage statement)
course_is catalog Fresh statement = statement_is catalog statement
course_is catalog Opened statement = statement_is catalog statement
course_is catalog (Answering told) statement = by (is_refusal told)
  where
    by : (b : Bool) → CourseIs (if b then ToGiveUp else ToCommit)
    by true = tt
    by false = tt

-- the nodes that a claim gives are some
some_left : (nodes : List ℕ) (d : ℕ) → members nodes d ≡ true → is_empty nodes ≡ false
some_left [] d h = absurd cc
some_left (x ∷ xs) d h = refl

nodes_some : (also : NodeSet) (gone : ℕ) → 1 ≤ gone → gone ≤ 16 → is_empty (nodes_in (with_node also gone)) ≡ false
nodes_some also gone least most =
    some_left (nodes_in (with_node also gone)) gone
    (members_filter (has_node (with_node also gone)) all_nodes gone ∙ and_from (has_node (with_node also gone) gone) (members all_nodes gone) (vanished_here also gone) (members_count 1 16 gone ∙ within gone least most))
  where
    within : (d : ℕ) → 1 ≤ d → d ≤ 16 → (nat_le 1 d && nat_lt d 17) ≡ true
    within d l m = grind (arith, nat_tests)

abbrev OutsideIs : Course → Type 0
OutsideIs (ToRecover gone) = (1 ≤ gone) × (gone ≤ 16)
OutsideIs course = Unit {0}

outside_is : (catalog : Catalog) (statement : Bound) → StatementOn catalog statement → OutsideIs (course_outside statement)
outside_is catalog bound.Begin h = tt
outside_is catalog (bound.Select query) h = tt
outside_is catalog (bound.Change edit) h = tt
outside_is catalog bound.Commit h = tt
outside_is catalog bound.Rollback h = tt
outside_is catalog (bound.Recover gone) h = h

-- ---- after a reply

module _ (settings : Settings) (catalog : Catalog) where
  abbrev TodoFits : Node → Type 0
  TodoFits node = AllByRecursion (StatementOn catalog) node.todo

  -- the statements that are left fit, and something is left to read or to recover
  abbrev Lasts : Node → Type 0
  Lasts node = TodoFits node × LeftIs node.doing

  -- whatever is answered
  later_fits : (node : Node) → TodoFits node → TodoFits (answered node answer.Begun Outside)
  later_fits node = by node.todo
    where
      by : (todo : List Bound) → AllByRecursion (StatementOn catalog) todo → TodoFits (answered (record node { todo = todo }) answer.Begun Outside)
      by [] h = tt
      by (statement ∷ later) h = h.1

  outside_lasts : (node : Node) (course : Course) (told : Heard) → OutsideIs course → TodoFits node → Lasts (takes_outside settings node course told)
  outside_lasts node ToBegin (Commits c) o h = (h, tt)
  outside_lasts node ToIdle (Told (manager.FloorIs floor)) o h = (later_fits (learnt node (home_of settings node.number) floor) h, tt)
  outside_lasts node (ToRecover gone) (Told manager.There) o h = (later_fits node h, tt)
  outside_lasts node (ToRecover gone) (Told (manager.Given also)) o h = (h, nodes_some also gone o.0 o.1)
  outside_lasts node course told o h = (h, tt)

  begins_lasts : (node : Node) (statement : Bound) (t : Txn) → TodoFits node → Lasts (begins node statement t)
  begins_lasts node bound.Begin t h = (later_fits node h, tt)
  begins_lasts node statement t h = (h, tt)

  noted_lasts : (node : Node) (statement : Bound) (seen : TidSet) (told : Heard) → TodoFits node → Lasts (takes_noted settings node statement seen told)
  noted_lasts node statement seen (Told (manager.Began tid snapshot floor)) h = begins_lasts (learnt node (home_of settings node.number) floor) statement (begun_txn tid snapshot) h
  noted_lasts node statement seen (Told manager.NeedRange) h = (h, tt)
  noted_lasts node statement seen told h = (h, tt)

  drawing_lasts : (node : Node) (seen : TidSet) (told : Heard) → TodoFits node → Lasts (takes_drawing node seen told)
  drawing_lasts node seen (Numbers old) h = (h, tt)
  drawing_lasts node seen told h = (h, tt)

  bringing_lasts : (node : Node) (seen : TidSet) (told : Heard) → TodoFits node → Lasts (takes_bringing node seen told)
  bringing_lasts node seen (Told manager.Ranged) h = (h, tt)
  bringing_lasts node seen told h = (h, tt)

  said_lasts : (node : Node) (statement : Bound) (t : Txn) (stage : Stage) (rows : List (List (List Value))) (told : Answer) → TodoFits node
      → Lasts (said catalog node statement (record t { stage = stage }) rows told)
  said_lasts node statement t Fresh rows told h = (h, tt)
  said_lasts node statement t Opened rows told h = (later_fits node h, tt)
  said_lasts node statement t (Answering before) rows told h = (h, tt)

  on_lasts : (node : Node) (statement : Bound) (t : Txn) (reads : Reads) (left : List Read) (told : Answer) → TodoFits node
      → Lasts (goes_on catalog node statement t (record reads { left = left }) told)
  on_lasts node statement t reads [] told h = let read : Reads = record reads { left = [] } in said_lasts node statement t t.stage (tables_read read) told h
  on_lasts node statement t reads (read ∷ left) told h = (h, refl)

  read_lasts : (node : Node) (statement : Bound) (t : Txn) (reads : Reads) (answer : Heard) (told : Answer) → TodoFits node
      → Lasts (takes_read settings catalog node statement t reads answer told)
  read_lasts node statement t reads answer told h = by (after_reply settings t.snapshot reads reads.left answer) refl
    where
      by : (o : Option Reads) → after_reply settings t.snapshot reads reads.left answer ≡ o → Lasts (takes_read settings catalog node statement t reads answer told)
      by None e = rw e (h, tt)
      by (Some after) e = rw e (on_lasts node statement t after after.left told h)

  idles_lasts : (node : Node) (statement : Bound) (t : Txn) (reads : Reads) (told : Answer) → TodoFits node → Lasts (idles catalog node statement t reads told)
  idles_lasts node bound.Begin t reads told h = (later_fits node h, tt)
  idles_lasts node (bound.Recover gone) t reads told h = (later_fits node h, tt)
  idles_lasts node (bound.Select query) t reads told h = said_lasts node (bound.Select query) t t.stage (tables_read reads) told h
  idles_lasts node (bound.Change edit) t reads told h = said_lasts node (bound.Change edit) t t.stage (tables_read reads) told h
  idles_lasts node bound.Commit t reads told h = said_lasts node bound.Commit t t.stage (tables_read reads) told h
  idles_lasts node bound.Rollback t reads told h = said_lasts node bound.Rollback t t.stage (tables_read reads) told h

  idle_lasts : (node : Node) (statement : Bound) (t : Txn) (answer : Heard) (told : Answer) → TodoFits node → Lasts (takes_idle settings catalog node statement t answer told)
  idle_lasts node statement t (Told (manager.FloorIs floor)) told h = idles_lasts (learnt node (home_of settings node.number) floor) statement t (begin_reads (all_reads catalog statement)) told h
  idle_lasts node statement t answer told h = (h, tt)

  commit_lasts : (node : Node) (t : Txn) (answer : Heard) → TodoFits node → Lasts (takes_commit settings node t answer)
  commit_lasts node t (Commits c) h = (h, tt)
  commit_lasts node t (Stored stamp) h = (h, tt)
  commit_lasts node t (Told (manager.FloorIs floor)) h = (h, tt)
  commit_lasts node t answer h = (h, tt)

  give_up_lasts : (node : Node) (t : Txn) (answer : Heard) → TodoFits node → Lasts (takes_give_up node t answer)
  give_up_lasts node t (Commits c) h = (h, tt)
  give_up_lasts node t answer h = (h, tt)

  inside_lasts : (node : Node) (statement : Bound) (t : Txn) (course : Course) (answer : Heard) (told : Answer) → TodoFits node
      → Lasts (takes_inside settings catalog node statement t course answer told)
  inside_lasts node statement t (ToRead reads) answer told h = read_lasts node statement t reads answer told h
  inside_lasts node statement t ToIdle answer told h = idle_lasts node statement t answer told h
  inside_lasts node statement t ToCommit answer told h = commit_lasts node t answer h
  inside_lasts node statement t ToGiveUp answer told h = give_up_lasts node t answer h
  inside_lasts node statement t ToBegin answer told h = (h, tt)
  inside_lasts node statement t (ToRecover gone) answer told h = (h, tt)

  trying_lasts : (node : Node) (t : Txn) (answer : Heard) → TodoFits node → Lasts (takes_trying node t answer)
  trying_lasts node t (Stored stamp) h = (h, tt)
  trying_lasts node t answer h = (h, tt)

  finds_lasts : (node : Node) (s : Storing) (key : Key) (cell : Cell) (rival : Option ℕ) → TodoFits node → Lasts (finds node s key cell rival)
  finds_lasts node s key cell None h = (h, tt)
  finds_lasts node s key cell (Some rival) h = (h, tt)

  storing_lasts : (node : Node) (s : Storing) (l : Option Loaded) (left : List Write) (answer : Heard) → TodoFits node → Lasts (takes_storing node s l left answer)
  storing_lasts node s None [] (Stored stamp) h = (h, tt)
  storing_lasts node s None (o ∷ left) (Record cell) h = finds_lasts node s o.key cell (stranger s.txn.snapshot cell.versions) h
  storing_lasts node s (Some l) (o ∷ left) (Stored stamp) h = (h, tt)
  storing_lasts node s (Some l) left Moved h = (h, tt)
  storing_lasts node s l left answer h = (h, tt)

  removing_lasts : (node : Node) (r : Removing) (l : Option Loaded) (left : List Write) (answer : Heard) → TodoFits node → Lasts (takes_removing node r l left answer)
  removing_lasts node r None [] (Stored stamp) h = (h, tt)
  removing_lasts node r None (o ∷ left) (Record cell) h = (h, tt)
  removing_lasts node r (Some l) (o ∷ left) (Stored stamp) h = (h, tt)
  removing_lasts node r (Some l) left Moved h = (h, tt)
  removing_lasts node r l left answer h = (h, tt)

  closing_lasts : (node : Node) (t : Txn) (d : Decision) (c : Option CommitsCell) (answer : Heard) → TodoFits node → Lasts (takes_closing node t d c answer)
  closing_lasts node t d None (Commits c) h = (h, tt)
  closing_lasts node t d (Some c) (Stored stamp) h = (h, tt)
  closing_lasts node t d (Some c) Moved h = (h, tt)
  closing_lasts node t d c answer h = (h, tt)

  ending_lasts : (node : Node) (told : Answer) (answer : Heard) → TodoFits node → Lasts (takes_ending node told answer)
  ending_lasts node told (Told manager.Ended) h = (later_fits node h, tt)
  ending_lasts node told answer h = (h, tt)

  duty_lasts : (node : Node) (c : Claimed) (left : List ℕ) → TodoFits node → Lasts (next_duty node (record c { left = left }))
  duty_lasts node c [] h = (later_fits node h, tt)
  duty_lasts node c (d ∷ left) h = (h, refl)

  lost_lasts : (node : Node) (c : Claimed) (d : ℕ) (tids : List ℕ) → TodoFits node → Lasts (next_lost node c d tids)
  lost_lasts node c d [] h = duty_lasts node c c.left h
  lost_lasts node c d (tid ∷ others) h = (h, tt)

  recovering_lasts : (node : Node) (c : Claimed) (left : List ℕ) (answer : Heard) → TodoFits node → Lasts (takes_recovering node c left answer)
  recovering_lasts node c (d ∷ left) (Told (manager.Orphaned tids)) h = lost_lasts node (record c { left = left }) d tids h
  recovering_lasts node c left answer h = (h, tt)

  flag_lasts : (node : Node) (c : Claimed) (o : Lost) (log : LogCell) (f : Flag) → TodoFits node → Lasts (by_flag node c o log f)
  flag_lasts node c o log flag.Trying h = (h, tt)
  flag_lasts node c o log flag.Decided h = (h, tt)
  flag_lasts node c o log flag.Undone h = (h, tt)

  log_lasts : (node : Node) (c : Claimed) (o : Lost) (answer : Heard) → TodoFits node → Lasts (takes_log node c o answer)
  log_lasts node c o (Log None) h = (h, tt)
  log_lasts node c o (Log (Some log)) h = flag_lasts node c o log log.entry.flag h
  log_lasts node c o answer h = (h, tt)

  stripping_lasts : (node : Node) (c : Claimed) (o : Lost) (log : LogCell) (keys : List Key) (l : Option Loaded) (answer : Heard) → TodoFits node
      → Lasts (takes_stripping node c o log keys l answer)
  stripping_lasts node c o log [] None (Stored stamp) h = (h, tt)
  stripping_lasts node c o log (key ∷ keys) None (Record cell) h = by (is_written o.tid cell.versions)
    where
      by : (b : Bool) → Lasts (cond b (with_doing node (Stripping c o log (key ∷ keys) (Some (record { key = key; stamp = cell.stamp; versions = cell.versions }))))
          (with_doing node (Stripping c o log keys None)))
      by true = (h, tt)
      by false = (h, tt)
  stripping_lasts node c o log (key ∷ keys) (Some l) (Stored stamp) h = (h, tt)
  stripping_lasts node c o log keys (Some l) Moved h = (h, tt)
  stripping_lasts node c o log keys l answer h = (h, tt)

  finishing_lasts : (node : Node) (c : Claimed) (o : Lost) (committed : Bool) (x : Option CommitsCell) (answer : Heard) → TodoFits node
      → Lasts (takes_finishing node c o committed x answer)
  finishing_lasts node c o committed None (Commits x) h = by (has x.finished o.tid)
    where
      by : (b : Bool) → Lasts (cond b (with_doing node (EndingLost c o)) (with_doing node (Finishing c o committed (Some x))))
      by true = (h, tt)
      by false = (h, tt)
  finishing_lasts node c o committed (Some x) (Stored stamp) h = (h, tt)
  finishing_lasts node c o committed (Some x) Moved h = (h, tt)
  finishing_lasts node c o committed x answer h = (h, tt)

  end_lost_lasts : (node : Node) (c : Claimed) (o : Lost) (answer : Heard) → TodoFits node → Lasts (takes_end_lost node c o answer)
  end_lost_lasts node c o (Told manager.Ended) h = lost_lasts node c o.node o.others h
  end_lost_lasts node c o answer h = (h, tt)

  doing_lasts : (node : Node) (statement : Bound) (doing : Doing) (answer : Heard) (told : Answer) → StatementOn catalog statement → Lasts node
      → Lasts (takes_doing settings catalog node statement doing answer told)
  doing_lasts node statement Outside answer told f h = outside_lasts node (course_outside statement) answer (outside_is catalog statement f) h.0
  doing_lasts node statement (Noted seen) answer told f h = noted_lasts node statement seen answer h.0
  doing_lasts node statement (Drawing seen) answer told f h = drawing_lasts node seen answer h.0
  doing_lasts node statement (Bringing seen low) answer told f h = bringing_lasts node seen answer h.0
  doing_lasts node statement (Inside t) answer told f h = inside_lasts node statement t (course_in catalog t.stage statement) answer told h.0
  doing_lasts node statement (Reading t reads) answer told f h = read_lasts node statement t reads answer told h.0
  doing_lasts node statement (Trying t) answer told f h = trying_lasts node t answer h.0
  doing_lasts node statement (Stores s l) answer told f h = storing_lasts node s l s.left answer h.0
  doing_lasts node statement (Removes r l) answer told f h = removing_lasts node r l r.left answer h.0
  doing_lasts node statement (Closing t d c) answer told f h = closing_lasts node t d c answer h.0
  doing_lasts node statement (Ending tid said_so) answer told f h = ending_lasts node said_so answer h.0
  doing_lasts node statement (Recovering c) answer told f h = recovering_lasts node c c.left answer h.0
  doing_lasts node statement (ReadingLog c o) answer told f h = log_lasts node c o answer h.0
  doing_lasts node statement (Stripping c o log keys l) answer told f h = stripping_lasts node c o log keys l answer h.0
  doing_lasts node statement (Finishing c o committed x) answer told f h = finishing_lasts node c o committed x answer h.0
  doing_lasts node statement (EndingLost c o) answer told f h = end_lost_lasts node c o answer h.0
  doing_lasts node statement (Stopped nodes) answer told f h = h

  takes_lasts : (node : Node) (answer : Heard) (told : Answer) → Lasts node → Lasts (takes settings catalog node answer told)
  takes_lasts node answer told = by node.todo
    where
      by : (todo : List Bound) → AllByRecursion (StatementOn catalog) todo × LeftIs node.doing → Lasts (takes settings catalog (record node { todo = todo }) answer told)
      by [] h = h
      by (statement ∷ later) h = doing_lasts (record node { todo = statement ∷ later }) statement node.doing answer told h.0.0 h

-- ---- after events

module _ (settings : Settings) (script : Script) where
  event_lasts : (e : Event) (node : Node) → Lasts settings script.catalog node → Lasts settings script.catalog (after_event settings script e node)
  event_lasts e node h = by ((e.node == node.number) && not (is_post e.request)) (asks settings script.catalog node)
    where
      cut : (ask : Ask) (b : Bool)
          → Lasts settings script.catalog
          (if b then cut_short settings script.catalog node (heard ask e.reply) (answer_said e.entries) else takes settings script.catalog node (heard ask e.reply) (answer_said e.entries))
      cut ask true = (h.0, tt)
      cut ask false = takes_lasts settings script.catalog node (heard ask e.reply) (answer_said e.entries) h

      by : (b : Bool) (o : Option Ask) → Lasts settings script.catalog (if b then takes_reply settings script node o e.reply e.entries else node)
      by false o = h
      by true None = h
      by true (Some ask) = cut ask (is_cut settings script.catalog node (heard ask e.reply) (answer_said e.entries) e.entries)

  events_last : (node : Node) (events : List Event) → Lasts settings script.catalog node → Lasts settings script.catalog (node_from settings script node events)
  events_last node [] h = h
  events_last node (e ∷ events) h = events_last (after_event settings script e node) events (event_lasts e node h)

  -- what is left of a node of the script
  pub left_after : (past : List Event) (session : Session) → AllByRecursion (StatementOn script.catalog) session.statements → LeftIs (node_after settings script past session).doing
  left_after past session fits = (events_last (opening_node settings session) past (fits, tt)).1
