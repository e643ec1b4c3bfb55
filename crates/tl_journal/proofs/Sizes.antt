-- A node's parts fit: so does what it asks, and what it is after a reply that fits.
use Rattle.std.proofs.Common.{◌≡◌, ℕ, ◌+◌, ◌^◌, ◌≤◌, Bool, true, false, cond, eqb, List, [], ◌∷◌, ◌++◌, Option, Some, None, length, map, refl, subst, arith}
use Rattle.std.specs.List.{AllByRecursion}
use Rattle.std.proofs.lemmas.Bool.{and_from}
use Rattle.std.proofs.lemmas.List.{length-map}
use Rattle.std.proofs.lemmas.List.Elements.{All-from_recursion}
use Rattle.tl_lemmas.proofs.Tests.{and_first, and_second}
use Rattle.tl_lemmas.proofs.Lists.{all_map, all_push, found, weaker}
use Rattle.tl_base.specs.declared.place.Settings.{Settings}
use Rattle.tl_values.specs.declared.value.Value.{Value}
use Rattle.tl_schema.specs.declared.catalog.Catalog.{Catalog}
use Rattle.tl_descriptor.specs.Tids.{TidSet, has, inserted}
use Rattle.tl_descriptor.proofs.Members.{inserted_canonical, inserted_runs}
use Rattle.tl_logrec.specs.declared.entry.Flag.{Flag}
use Rattle.tl_logrec.specs.declared.entry.Flag.TheVariants as flag
use Rattle.tl_logrec.specs.Entry.{are_rising, rise_from}
use Rattle.tl_logrec.specs.Keys.{IsKey}
use Rattle.tl_manager.specs.declared.request.ManagerReply.TheVariants as manager
use Rattle.tl_manager.specs.declared.request.ManagerRequest.TheVariants as request
use Rattle.tl_versions.specs.Cell.{AreChanges}
use Rattle.tl_versions.specs.Versions.{is_written, prune, stranger}
use Rattle.tl_versions.proofs.Lists.{no_stranger_absent}
use Rattle.tl_write.specs.declared.write.Write.{Write}
use Rattle.tl_write.specs.Own.{is_rising}
use Rattle.tl_isolation.specs.declared.bound.Bound.{Bound}
use Rattle.tl_isolation.specs.declared.bound.Bound.TheVariants as bound
use Rattle.tl_isolation.specs.declared.entry.Answer.{Answer}
use Rattle.tl_isolation.specs.declared.entry.Answer.TheVariants as answer
use Rattle.tl_isolation.specs.declared.script.Script.{Script}
use Rattle.tl_isolation.specs.declared.script.Session.{Session}
use Rattle.tl_isolation.specs.State.{is_refusal}
use Rattle.tl_protocol.specs.Store.{Key, Cell, CommitsCell, LogCell, same_key, last_of}
use Rattle.tl_protocol.specs.Store as store
use Rattle.tl_protocol.specs.World.{Stage, Fresh, Opened, Answering, Txn, Loaded, Decision, Commit, Undo}
use Rattle.tl_protocol.specs.Move.{is_empty}
use Rattle.tl_protocol.specs.Next.{begun_txn, end_answer, log_cell, marked, own_version}
use Rattle.tl_journal.specs.Binding.{IsBound, IsBrief, KeyFits, StatementFits, WriteFits}
use Rattle.tl_journal.specs.Ask.{Ask, LoadCommits, AskManager, Found, Heard, Commits, Log, Record, Page, Stored, Moved, Numbers, Told, Strange}
use Rattle.tl_journal.specs.Asks.{Course, ToBegin, ToRead, ToIdle, ToCommit, ToGiveUp, ToRecover, asks, asks_commit, asks_doing, asks_finish, asks_inside, asks_outside, asks_removing, asks_storing, asks_stripping, asks_duty, course_in, course_outside, other_manager, reading_course, statement_course, store_trying}
use Rattle.tl_journal.specs.Bytes.{home_of}
use Rattle.tl_journal.specs.Journal.{session_of}
use Rattle.tl_journal.specs.Node.{Storing, Removing, Claimed, Lost, Doing, Outside, Noted, Drawing, Bringing, Inside, Reading, Trying, Stores, Removes, Closing, Ending, Recovering, ReadingLog, Stripping, Finishing, EndingLost, Node, opening_node}
use Rattle.tl_journal.specs.Reads.{Read, Reads, all_reads, begin_reads, tables_read}
use Rattle.tl_journal.specs.Takes.{after_reply, answered, begins, by_flag, finds, goes_on, idles, learnt, next_duty, next_lost, own_said, said, stopped, stores_first, takes, takes_bringing, takes_closing, takes_commit, takes_doing, takes_drawing, takes_end_lost, takes_ending, takes_finishing, takes_give_up, takes_idle, takes_inside, takes_log, takes_noted, takes_outside, takes_read, takes_recovering, takes_removing, takes_storing, takes_stripping, takes_trying, with_doing}
use Rattle.tl_journal.proofs.Fits.{AskFits, EntryFits, FoundFits, HandFits, HeardFits, KeysFit, ReadsFit, RowFits, SeenFits, SetFits, TxnFits, VersionsFit}
use Rattle.tl_journal.proofs.RowSizes.{more_versions, prune_fits, push_fits, strip_fits}
use Rattle.tl_journal.proofs.ReadSizes.{OptionFits, begin_fits, read_asked, reply_fits, tables_fit}
use Rattle.tl_journal.proofs.ChangeSizes.{OwnFits, change_fits}
use Rattle.tl_journal.proofs.Stated.{StatementOn, all_stated}

-- ---- what fits

abbrev pub AreTids : List ℕ → Type 0
AreTids tids = AllByRecursion (λ (tid : ℕ). tid ≤ 2 ^ 62) tids

pub record StoringFits (s : Storing) : Type 0 where
  pub txn : TxnFits s.txn
  pub stored : AllByRecursion WriteFits s.stored
  pub left : AllByRecursion WriteFits s.left

-- the cell in hand has no version of the transaction
abbrev pub NewIn : ℕ → Option Loaded → Type 0
NewIn tid None = Unit {0}
NewIn tid (Some l) = is_written tid l.versions ≡ false

pub record RemovingFits (r : Removing) : Type 0 where
  pub txn : TxnFits r.txn
  pub left : AllByRecursion WriteFits r.left

pub record LostFits (o : Lost) : Type 0 where
  pub tid : o.tid ≤ 2 ^ 62
  pub others : AllByRecursion (λ (tid : ℕ). tid ≤ 2 ^ 62) o.others

abbrev pub DoingFits : ℕ → Doing → Type 0
DoingFits few Outside = Unit {0}
DoingFits few (Noted seen) = Unit {0}
DoingFits few (Drawing seen) = Unit {0}
DoingFits few (Bringing seen low) = Unit {0}
DoingFits few (Inside t) = TxnFits t
DoingFits few (Reading t reads) = TxnFits t × ReadsFit reads
DoingFits few (Trying t) = TxnFits t
DoingFits few (Stores s l) = StoringFits s × HandFits few l × NewIn s.txn.tid l
DoingFits few (Removes r l) = RemovingFits r × HandFits few l
DoingFits few (Closing t d c) = TxnFits t × SeenFits few c
DoingFits few (Ending tid told) = Unit {0}
DoingFits few (Recovering c) = Unit {0}
DoingFits few (ReadingLog c o) = LostFits o
DoingFits few (Stripping c o log keys l) = LostFits o × EntryFits log.entry × KeysFit keys × HandFits few l
DoingFits few (Finishing c o committed x) = LostFits o × SeenFits few x
DoingFits few (EndingLost c o) = LostFits o
DoingFits few doing = Unit {0}

pub record NodeFits (settings : Settings) (catalog : Catalog) (few : ℕ) (node : Node) : Type 0 where
  pub least : 1 ≤ node.number
  pub greatest : node.number ≤ 16
  pub todo : AllByRecursion (StatementOn catalog) node.todo
  pub doing : DoingFits few node.doing

-- a manager gives no number above 2^62, and begins no transaction whose snapshot has its own number
abbrev pub ToldFits : Heard → Type 0
ToldFits (Told (manager.Began tid snapshot floor)) = (tid ≤ 2 ^ 62) × (has snapshot tid ≡ false)
ToldFits (Told (manager.Orphaned tids)) = AllByRecursion (λ (tid : ℕ). tid ≤ 2 ^ 62) tids
ToldFits heard = Unit {0}

-- ---- one more

more_set : (few : ℕ) (set : TidSet) → SetFits few set → SetFits (few + 1) set
more_set few set h = let runs : length set.runs ≤ few = h.runs in record { canonical = h.canonical; runs = omega arith }

more_hand : (few : ℕ) (l : Option Loaded) → HandFits few l → HandFits (few + 1) l
more_hand few None h = tt
more_hand few (Some l) h = (h.0, more_versions few l.versions h.1)

more_seen : (few : ℕ) (c : Option CommitsCell) → SeenFits few c → SeenFits (few + 1) c
more_seen few None h = tt
more_seen few (Some c) h = more_set few c.finished h

more_found : (few : ℕ) (found : List Found) → AllByRecursion (FoundFits few) found → AllByRecursion (FoundFits (few + 1)) found
more_found few found h = weaker (FoundFits few) (FoundFits (few + 1)) (λ f i. record { is_record = i.is_record; versions = more_versions few f.versions i.versions }) found h

pub heard_more : (few : ℕ) (heard : Heard) → HeardFits few heard → HeardFits (few + 1) heard
heard_more few (Commits c) h = more_set few c.finished h
heard_more few (Log log) h = h
heard_more few (Record cell) h = more_versions few cell.versions h
heard_more few (Page found more) h = more_found few found h
heard_more few (Stored stamp) h = tt
heard_more few Moved h = tt
heard_more few (Numbers old) h = tt
heard_more few (Told reply) h = tt
heard_more few Strange h = tt

more_doing : (few : ℕ) (doing : Doing) → DoingFits few doing → DoingFits (few + 1) doing
more_doing few Outside h = tt
more_doing few (Noted seen) h = tt
more_doing few (Drawing seen) h = tt
more_doing few (Bringing seen low) h = tt
more_doing few (Inside t) h = h
more_doing few (Reading t reads) h = h
more_doing few (Trying t) h = h
more_doing few (Stores s l) h = (h.0, more_hand few l h.1, h.2)
more_doing few (Removes r l) h = (h.0, more_hand few l h.1)
more_doing few (Closing t d c) h = (h.0, more_seen few c h.1)
more_doing few (Ending tid told) h = tt
more_doing few (Recovering c) h = tt
more_doing few (ReadingLog c o) h = h
more_doing few (Stripping c o log keys l) h = (h.0, h.1, h.2, more_hand few l h.3)
more_doing few (Finishing c o committed x) h = (h.0, more_seen few x h.1)
more_doing few (EndingLost c o) h = h
more_doing few doing h = tt

pub fits_more : (settings : Settings) (catalog : Catalog) (few : ℕ) (node : Node) → NodeFits settings catalog few node → NodeFits settings catalog (few + 1) node
fits_more settings catalog few node h = record { least = h.least; greatest = h.greatest; todo = h.todo; doing = more_doing few node.doing h.doing }

-- ---- the opening

pub opening_fits : (script : Script) (settings : Settings) (few n : ℕ) (session : Session) → IsBound script settings → session_of script n ≡ Some session
    → NodeFits settings script.catalog few (opening_node settings session)
opening_fits script settings few n session b e =
    let number = found (λ (s : Session). (1 ≤ s.node) × (s.node ≤ 16)) (λ (s : Session). eqb s.node n) script.sessions session b.nodes e in
    let fits = found (λ (s : Session). AllByRecursion (StatementFits script.catalog) s.statements) (λ (s : Session). eqb s.node n) script.sessions session b.statements e in
    let todo = all_stated script.catalog session.statements b.tables fits in
    record { least = number.0; greatest = number.1; todo = todo; doing = tt }

-- ---- what is asked

abbrev AskOk : ℕ → Option Ask → Type 0
AskOk few None = Unit {0}
AskOk few (Some ask) = AskFits few ask

-- the keys of writes rise as the writes do
pub keys_rise_from : (w : Write) (ws : List Write) → is_rising (w ∷ ws) ≡ true → rise_from w.key (map (λ (o : Write). o.key) ws) ≡ true
keys_rise_from w [] h = refl
keys_rise_from w (x ∷ xs) h = and_from _ _ (and_first _ _ (and_first _ _ h)) (keys_rise_from x xs (and_second _ _ h))

pub keys_rise : (ws : List Write) → is_rising ws ≡ true → are_rising (map (λ (o : Write). o.key) ws) ≡ true
keys_rise [] h = refl
keys_rise (w ∷ ws) h = keys_rise_from w ws h

log_fits : (stamp number : ℕ) (f : Flag) (t : Txn) → 1 ≤ number → number ≤ 16 → TxnFits t → EntryFits (log_cell stamp number f t).entry
log_fits stamp number f t least greatest h =
    let tid : t.tid ≤ 2 ^ 62 = h.tid in
    let few : length t.own ≤ 4096 = h.few in
    let keys : KeysFit (map (λ (o : Write). o.key) t.own) = all_map WriteFits KeyFits (λ (o : Write). o.key) (λ o w. w.key) t.own h.own in
    record {
      tid = h.tid;
      spelled = record {
        tid = omega arith;
        least = least;
        greatest = greatest;
        writes = record {
          count = rw (length-map t.own (λ (o : Write). o.key)) (omega arith);
          short = All-from_recursion IsKey _ (weaker KeyFits IsKey (λ k f. f.short) _ keys);
          rising = keys_rise t.own h.rising;
        };
      };
      keys = keys;
    }

-- a log cell with another flag
marked_fits : (stamp : ℕ) (f : Flag) (log : LogCell) → EntryFits log.entry → EntryFits (marked stamp f log).entry
marked_fits stamp f log h = record {
  tid = h.tid;
  spelled = record { tid = h.spelled.tid; least = h.spelled.least; greatest = h.spelled.greatest; writes = h.spelled.writes };
  keys = h.keys;
}

-- what a transaction writes to a record
abbrev WrittenFits : Option (Option (List Value)) → Type 0
WrittenFits None = Unit {0}
WrittenFits (Some row) = AreChanges row × IsBrief row

written_fits : (k : Key) (own : List Write) → AllByRecursion WriteFits own → WrittenFits (store.written k own)
written_fits k [] h = tt
written_fits k (w ∷ ws) h = by (same_key w.key k) (store.written k ws) (written_fits k ws h.1)
  where
    by : (b : Bool) (later : Option (Option (List Value))) → WrittenFits later → WrittenFits (last_of (cond b (Some w.row) None) later)
    by true None f = (h.0.row, h.0.brief)
    by false None f = tt
    by true (Some row) f = f
    by false (Some row) f = f

own_row : (k : Key) (t : Txn) (o : Option (Option (List Value))) → store.written k t.own ≡ o → WrittenFits o → AreChanges (own_version k t).row × IsBrief (own_version k t).row
own_row k t None e h = rw e (tt, tt)
own_row k t (Some row) e h = rw e h

-- a cell with a new version in front
pushed_fits : (few : ℕ) (floor : TidSet) (t : Txn) (l : Loaded) → TxnFits t → VersionsFit few l.versions → is_written t.tid l.versions ≡ false
    → VersionsFit (few + 1) (prune floor (own_version l.key t ∷ l.versions))
pushed_fits few floor t l h v new =
    let tid : t.tid ≤ 2 ^ 62 = h.tid in
    let row = own_row l.key t (store.written l.key t.own) refl (written_fits l.key t.own h.own) in
    prune_fits (few + 1) floor (own_version l.key t ∷ l.versions)
    (push_fits few (own_version l.key t) l.versions v (record { tid = omega arith; change = row.0 }) row.1 new)

-- a set with a transaction more
inserted_fits : (few : ℕ) (set : TidSet) (tid : ℕ) → tid ≤ 2 ^ 62 → SetFits few set → SetFits (few + 1) (inserted set tid)
inserted_fits few set tid le h =
    let runs : length set.runs ≤ few = h.runs in
    let more = inserted_runs set tid in
    record { canonical = inserted_canonical set tid h.canonical le; runs = omega arith }

abbrev CourseFits : Course → Type 0
CourseFits (ToRead reads) = ReadsFit reads
CourseFits course = Unit {0}

reading_fits : (reads : Reads) (left : List Read) → ReadsFit (record reads { left = left }) → CourseFits (reading_course (record reads { left = left }))
reading_fits reads [] h = tt
reading_fits reads (read ∷ left) h = h

statement_fits : (catalog : Catalog) (statement : Bound) → CourseFits (statement_course catalog statement)
statement_fits catalog (bound.Select query) =
    let reads : Reads = begin_reads (all_reads catalog (bound.Select query)) in reading_fits reads reads.left (begin_fits catalog (bound.Select query))
statement_fits catalog (bound.Change edit) =
    let reads : Reads = begin_reads (all_reads catalog (bound.Change edit)) in reading_fits reads reads.left (begin_fits catalog (bound.Change edit))
statement_fits catalog bound.Commit = tt
statement_fits catalog bound.Rollback = tt
statement_fits catalog bound.Begin = tt
statement_fits catalog (bound.Recover gone) = tt

course_fits : (catalog : Catalog) (stage : Stage) (statement : Bound) → CourseFits (course_in catalog stage statement)
course_fits catalog (Answering told) statement = by (is_refusal told)
  where
    by : (b : Bool) → CourseFits (cond b ToGiveUp ToCommit)
    by true = tt
    by false = tt
course_fits catalog Fresh statement = statement_fits catalog statement
course_fits catalog Opened statement = statement_fits catalog statement

module _ (settings : Settings) (catalog : Catalog) (few : ℕ) where
  outside_asks : (node : Node) (statement : Bound) (course : Course) → AskFits (few + 1) (asks_outside settings node statement course)
  outside_asks node statement ToBegin = tt
  outside_asks node statement (ToRead reads) = tt
  outside_asks node statement ToIdle = tt
  outside_asks node statement ToCommit = tt
  outside_asks node statement ToGiveUp = tt
  outside_asks node statement (ToRecover gone) = tt

  commit_asks : (node : Node) (t : Txn) → 1 ≤ node.number → node.number ≤ 16 → TxnFits t → AskFits (few + 1) (asks_commit settings node t)
  commit_asks node t least greatest h = by (is_empty t.own) _
    where
      by : (a b : Bool) → AskFits (few + 1) (cond a LoadCommits (cond b (store_trying node t) (AskManager (other_manager settings node) (request.Floor t.snapshot))))
      by true b = tt
      by false true = log_fits 0 node.number flag.Trying t least greatest h
      by false false = tt

  inside_asks : (node : Node) (t : Txn) (course : Course) → 1 ≤ node.number → node.number ≤ 16 → TxnFits t → CourseFits course → AskFits (few + 1) (asks_inside settings node t course)
  inside_asks node t (ToRead reads) least greatest h c = read_asked (few + 1) reads.left c.left
  inside_asks node t ToIdle least greatest h c = tt
  inside_asks node t ToCommit least greatest h c = commit_asks node t least greatest h
  inside_asks node t ToBegin least greatest h c = tt
  inside_asks node t ToGiveUp least greatest h c = tt
  inside_asks node t (ToRecover gone) least greatest h c = tt

  storing_asks : (node : Node) (s : Storing) (l : Option Loaded) (left : List Write) → 1 ≤ node.number → node.number ≤ 16 → TxnFits s.txn → AllByRecursion WriteFits left
      → HandFits few l → NewIn s.txn.tid l → AskFits (few + 1) (asks_storing node (record s { left = left }) l)
  storing_asks node s (Some l) left least greatest h w f new = (f.0, pushed_fits few _ s.txn l h f.1 new)
  storing_asks node s None [] least greatest h w f new = log_fits 0 node.number flag.Decided s.txn least greatest h
  storing_asks node s None (o ∷ left) least greatest h w f new = w.0.key.is_record

  removing_asks : (node : Node) (r : Removing) (l : Option Loaded) (left : List Write) → 1 ≤ node.number → node.number ≤ 16 → TxnFits r.txn → AllByRecursion WriteFits left
      → HandFits few l → AskFits (few + 1) (asks_removing node (record r { left = left }) l)
  removing_asks node r (Some l) left least greatest h w f = (f.0, more_versions few _ (strip_fits few r.txn.tid l.versions f.1))
  removing_asks node r None [] least greatest h w f = log_fits 0 node.number flag.Undone r.txn least greatest h
  removing_asks node r None (o ∷ left) least greatest h w f = w.0.key.is_record

  finish_asks : (tid : ℕ) (c : Option CommitsCell) → tid ≤ 2 ^ 62 → SeenFits few c → AskFits (few + 1) (asks_finish tid c)
  finish_asks tid None le h = tt
  finish_asks tid (Some c) le h = inserted_fits few c.finished tid le h

  duty_asks : (c : Claimed) (left : List ℕ) → AskFits (few + 1) (asks_duty settings (record c { left = left }))
  duty_asks c [] = tt
  duty_asks c (d ∷ left) = tt

  stripping_asks : (o : Lost) (log : LogCell) (keys : List Key) (l : Option Loaded) → EntryFits log.entry → KeysFit keys → HandFits few l
      → AskFits (few + 1) (asks_stripping o log keys l)
  stripping_asks o log keys (Some l) e k f = (f.0, more_versions few _ (strip_fits few o.tid l.versions f.1))
  stripping_asks o log [] None e k f = marked_fits 0 flag.Undone log e
  stripping_asks o log (key ∷ keys) None e k f = k.0.is_record

  doing_asks : (node : Node) (statement : Bound) (doing : Doing) → 1 ≤ node.number → node.number ≤ 16 → DoingFits few doing
      → AskOk (few + 1) (asks_doing settings catalog node statement doing)
  doing_asks node statement Outside least greatest d = outside_asks node statement (course_outside statement)
  doing_asks node statement (Noted seen) least greatest d = tt
  doing_asks node statement (Drawing seen) least greatest d = tt
  doing_asks node statement (Bringing seen low) least greatest d = tt
  doing_asks node statement (Inside t) least greatest d =
      inside_asks node t (course_in catalog t.stage statement) least greatest d (course_fits catalog t.stage statement)
  doing_asks node statement (Reading t reads) least greatest d = read_asked (few + 1) reads.left d.1.left
  doing_asks node statement (Trying t) least greatest d = log_fits 0 node.number flag.Trying t least greatest d
  doing_asks node statement (Stores s l) least greatest d = storing_asks node s l s.left least greatest d.0.txn d.0.left d.1 d.2
  doing_asks node statement (Removes r l) least greatest d = removing_asks node r l r.left least greatest d.0.txn d.0.left d.1
  doing_asks node statement (Closing t decision c) least greatest d = finish_asks t.tid c d.0.tid d.1
  doing_asks node statement (Ending tid told) least greatest d = tt
  doing_asks node statement (Recovering c) least greatest d = duty_asks c c.left
  doing_asks node statement (ReadingLog c o) least greatest d = d.tid
  doing_asks node statement (Stripping c o log keys l) least greatest d = stripping_asks o log keys l d.1 d.2 d.3
  doing_asks node statement (Finishing c o committed x) least greatest d = finish_asks o.tid x d.0.tid d.1
  doing_asks node statement (EndingLost c o) least greatest d = tt
  doing_asks node statement doing least greatest d = tt

  todo_asks : (node : Node) (todo : List Bound) → 1 ≤ node.number → node.number ≤ 16 → DoingFits few node.doing → AskOk (few + 1) (asks settings catalog (record node { todo = todo }))
  todo_asks node [] least greatest d = tt
  todo_asks node (statement ∷ later) least greatest d = doing_asks (record node { todo = statement ∷ later }) statement node.doing least greatest d

  pub asks_fit : (node : Node) (ask : Ask) → NodeFits settings catalog few node → asks settings catalog node ≡ Some ask → AskFits (few + 1) ask
  asks_fit node ask h e = subst (AskOk (few + 1)) e (todo_asks node node.todo h.least h.greatest h.doing)

-- ---- after a reply

-- the own writes of a transaction, and a transaction with other ones
own_of : (t : Txn) → TxnFits t → OwnFits t.own
own_of t h = record { writes = h.own; few = h.few; rising = h.rising }

with_own : (t : Txn) (own : List Write) (stage : Stage) → TxnFits t → OwnFits own → TxnFits (record t { own = own; stage = stage })
with_own t own stage h o = record { tid = h.tid; unseen = h.unseen; own = o.writes; few = o.few; rising = o.rising }

-- the own writes once a statement is said
said_fits : (catalog : Catalog) (statement : Bound) (own : List Write) (rows : List (List (List Value))) → StatementOn catalog statement → OwnFits own
    → AllByRecursion (AllByRecursion RowFits) rows → OwnFits (own_said catalog statement own rows)
said_fits catalog (bound.Change edit) own rows s o h = change_fits catalog edit own rows s o h
said_fits catalog (bound.Select query) own rows s o h = o
said_fits catalog bound.Begin own rows s o h = o
said_fits catalog bound.Commit own rows s o h = o
said_fits catalog bound.Rollback own rows s o h = o
said_fits catalog (bound.Recover gone) own rows s o h = o

begun_fits : (tid : ℕ) (snapshot : TidSet) (stage : Stage) → tid ≤ 2 ^ 62 → has snapshot tid ≡ false → TxnFits (record (begun_txn tid snapshot) { stage = stage })
begun_fits tid snapshot stage le new = record { tid = le; unseen = new; own = tt; few = omega arith; rising = refl }

module _ (settings : Settings) (catalog : Catalog) (few : ℕ) where
  abbrev Fits : Node → Type 0
  Fits node = NodeFits settings catalog few node

  doing_fits : (node : Node) (doing : Doing) → Fits node → DoingFits few doing → Fits (with_doing node doing)
  doing_fits node doing h d = record { least = h.least; greatest = h.greatest; todo = h.todo; doing = d }

  stops : (node : Node) → Fits node → Fits (stopped node)
  stops node h = record { least = h.least; greatest = h.greatest; todo = h.todo; doing = tt }

  learnt_fits : (node : Node) (m : ℕ) (floor : TidSet) → Fits node → Fits (learnt node m floor)
  learnt_fits node m floor h = record { least = h.least; greatest = h.greatest; todo = h.todo; doing = h.doing }

  answered_rest : (node : Node) (todo : List Bound) (told : Answer) (doing : Doing) → AllByRecursion (StatementOn catalog) todo
      → AllByRecursion (StatementOn catalog) (answered (record node { todo = todo }) told doing).todo
  answered_rest node [] told doing h = tt
  answered_rest node (statement ∷ later) told doing h = h.1

  answered_fits : (node : Node) (told : Answer) (doing : Doing) → Fits node → DoingFits few doing → Fits (answered node told doing)
  answered_fits node told doing h d = record { least = h.least; greatest = h.greatest; todo = answered_rest node node.todo told doing h.todo; doing = d }

  -- outside a transaction
  outside_takes : (node : Node) (course : Course) (heard : Heard) → Fits node → Fits (takes_outside settings node course heard)
  outside_takes node ToBegin (Commits c) h = doing_fits node (Noted c.finished) h tt
  outside_takes node ToIdle (Told (manager.FloorIs floor)) h =
      answered_fits (learnt node (home_of settings node.number) floor) answer.Outside Outside (learnt_fits node (home_of settings node.number) floor h) tt
  outside_takes node (ToRecover gone) (Told manager.There) h = answered_fits node (answer.There gone) Outside h tt
  outside_takes node (ToRecover gone) (Told (manager.Given also)) h = doing_fits node (Recovering _) h tt
  outside_takes node course heard h = stops node h

  begins_fits : (node : Node) (statement : Bound) (tid : ℕ) (snapshot : TidSet) → Fits node → tid ≤ 2 ^ 62 → has snapshot tid ≡ false → Fits (begins node statement (begun_txn tid snapshot))
  begins_fits node bound.Begin tid snapshot h le new = answered_fits node answer.Begun (Inside (record (begun_txn tid snapshot) { stage = Opened })) h (begun_fits tid snapshot Opened le new)
  begins_fits node bound.Commit tid snapshot h le new = doing_fits node (Inside (begun_txn tid snapshot)) h (begun_fits tid snapshot Fresh le new)
  begins_fits node bound.Rollback tid snapshot h le new = doing_fits node (Inside (begun_txn tid snapshot)) h (begun_fits tid snapshot Fresh le new)
  begins_fits node (bound.Select query) tid snapshot h le new = doing_fits node (Inside (begun_txn tid snapshot)) h (begun_fits tid snapshot Fresh le new)
  begins_fits node (bound.Change edit) tid snapshot h le new = doing_fits node (Inside (begun_txn tid snapshot)) h (begun_fits tid snapshot Fresh le new)
  begins_fits node (bound.Recover gone) tid snapshot h le new = doing_fits node (Inside (begun_txn tid snapshot)) h (begun_fits tid snapshot Fresh le new)

  noted_takes : (node : Node) (statement : Bound) (seen : TidSet) (heard : Heard) → Fits node → ToldFits heard → Fits (takes_noted settings node statement seen heard)
  noted_takes node statement seen (Told (manager.Began tid snapshot floor)) h t =
      begins_fits (learnt node (home_of settings node.number) floor) statement tid snapshot (learnt_fits node (home_of settings node.number) floor h) t.0 t.1
  noted_takes node statement seen (Told manager.NeedRange) h t = doing_fits node (Drawing seen) h tt
  noted_takes node statement seen heard h t = stops node h

  drawing_takes : (node : Node) (seen : TidSet) (heard : Heard) → Fits node → Fits (takes_drawing node seen heard)
  drawing_takes node seen (Numbers old) h = doing_fits node (Bringing seen old) h tt
  drawing_takes node seen heard h = stops node h

  bringing_takes : (node : Node) (seen : TidSet) (heard : Heard) → Fits node → Fits (takes_bringing node seen heard)
  bringing_takes node seen (Told manager.Ranged) h = doing_fits node (Noted seen) h tt
  bringing_takes node seen heard h = stops node h

  -- a statement
  stage_fits : (node : Node) (statement : Bound) (t : Txn) (stage : Stage) (rows : List (List (List Value))) (told : Answer) → Fits node → StatementOn catalog statement → TxnFits t
      → AllByRecursion (AllByRecursion RowFits) rows → Fits (said catalog node statement (record t { stage = stage }) rows told)
  stage_fits node statement t Fresh rows told h s f r =
      doing_fits node (Inside _) h (with_own t (own_said catalog statement t.own rows) _ f (said_fits catalog statement t.own rows s (own_of t f) r))
  stage_fits node statement t Opened rows told h s f r =
      answered_fits node told (Inside _) h (with_own t (own_said catalog statement t.own rows) _ f (said_fits catalog statement t.own rows s (own_of t f) r))
  stage_fits node statement t (Answering before) rows told h s f r =
      doing_fits node (Inside _) h (with_own t (own_said catalog statement t.own rows) _ f (said_fits catalog statement t.own rows s (own_of t f) r))

  on_fits : (node : Node) (statement : Bound) (t : Txn) (reads : Reads) (left : List Read) (told : Answer) → Fits node → StatementOn catalog statement → TxnFits t
      → ReadsFit (record reads { left = left }) → Fits (goes_on catalog node statement t (record reads { left = left }) told)
  on_fits node statement t reads [] told h s f r =
      let read : Reads = record reads { left = [] } in stage_fits node statement t t.stage (tables_read read) told h s f (tables_fit read r)
  on_fits node statement t reads (read ∷ left) told h s f r = doing_fits node (Reading t (record reads { left = read ∷ left })) h (f, r)

  read_takes : (node : Node) (statement : Bound) (t : Txn) (reads : Reads) (heard : Heard) (told : Answer) → Fits node → StatementOn catalog statement → TxnFits t → ReadsFit reads
      → HeardFits few heard → Fits (takes_read settings catalog node statement t reads heard told)
  read_takes node statement t reads heard told h s f r g =
      elim (after_reply settings t.snapshot reads reads.left heard) as (λ o. OptionFits o → after_reply settings t.snapshot reads reads.left heard ≡ o
      → Fits (takes_read settings catalog node statement t reads heard told)) [
        | None ↦ λ k e. rw e (stops node h)
        | Some after ↦ λ k e. rw e (on_fits node statement t after after.left told h s f k)
      ] (reply_fits settings few t.snapshot reads reads.left heard r r.left g) refl

  -- a statement without reads
  rows_begun : (statement : Bound) → AllByRecursion (AllByRecursion RowFits) (tables_read (begin_reads (all_reads catalog statement)))
  rows_begun statement = tables_fit (begin_reads (all_reads catalog statement)) (begin_fits catalog statement)

  idle_fits : (node : Node) (statement : Bound) (t : Txn) (reads : Reads) (told : Answer) → Fits node → StatementOn catalog statement → TxnFits t
      → AllByRecursion (AllByRecursion RowFits) (tables_read reads) → Fits (idles catalog node statement t reads told)
  idle_fits node bound.Begin t reads told h s f r = answered_fits node answer.Nested (Inside t) h f
  idle_fits node (bound.Recover gone) t reads told h s f r = answered_fits node answer.Nested (Inside t) h f
  idle_fits node (bound.Select query) t reads told h s f r = stage_fits node (bound.Select query) t t.stage (tables_read reads) told h s f r
  idle_fits node (bound.Change edit) t reads told h s f r = stage_fits node (bound.Change edit) t t.stage (tables_read reads) told h s f r
  idle_fits node bound.Commit t reads told h s f r = stage_fits node bound.Commit t t.stage (tables_read reads) told h s f r
  idle_fits node bound.Rollback t reads told h s f r = stage_fits node bound.Rollback t t.stage (tables_read reads) told h s f r

  idle_takes : (node : Node) (statement : Bound) (t : Txn) (heard : Heard) (told : Answer) → Fits node → StatementOn catalog statement → TxnFits t
      → Fits (takes_idle settings catalog node statement t heard told)
  idle_takes node statement t (Told (manager.FloorIs floor)) told h s f =
      idle_fits (learnt node (home_of settings node.number) floor) statement t (begin_reads (all_reads catalog statement)) told
      (learnt_fits node (home_of settings node.number) floor h) s f (rows_begun statement)
  idle_takes node statement t heard told h s f = stops node h

  -- the end of a transaction
  first_fits : (t : Txn) (stamp : ℕ) → TxnFits t → DoingFits few (stores_first t stamp)
  first_fits t stamp f = (record { txn = f; stored = tt; left = f.own }, tt, tt)

  commit_takes : (node : Node) (t : Txn) (heard : Heard) → Fits node → TxnFits t → HeardFits few heard → Fits (takes_commit settings node t heard)
  commit_takes node t (Commits c) h f g = doing_fits node (Closing t Commit (Some c)) h (f, g)
  commit_takes node t (Stored stamp) h f g = doing_fits node (stores_first t stamp) h (first_fits t stamp f)
  commit_takes node t (Told (manager.FloorIs floor)) h f g = record { least = h.least; greatest = h.greatest; todo = h.todo; doing = f }
  commit_takes node t heard h f g = stops node h

  give_up_takes : (node : Node) (t : Txn) (heard : Heard) → Fits node → TxnFits t → HeardFits few heard → Fits (takes_give_up node t heard)
  give_up_takes node t (Commits c) h f g = doing_fits node (Closing t (Undo None) (Some c)) h (f, g)
  give_up_takes node t heard h f g = stops node h

  inside_takes : (node : Node) (statement : Bound) (t : Txn) (course : Course) (heard : Heard) (told : Answer) → Fits node → StatementOn catalog statement → TxnFits t
      → CourseFits course → HeardFits few heard → Fits (takes_inside settings catalog node statement t course heard told)
  inside_takes node statement t (ToRead reads) heard told h s f c g = read_takes node statement t reads heard told h s f c g
  inside_takes node statement t ToIdle heard told h s f c g = idle_takes node statement t heard told h s f
  inside_takes node statement t ToCommit heard told h s f c g = commit_takes node t heard h f g
  inside_takes node statement t ToGiveUp heard told h s f c g = give_up_takes node t heard h f g
  inside_takes node statement t ToBegin heard told h s f c g = stops node h
  inside_takes node statement t (ToRecover gone) heard told h s f c g = stops node h

  trying_takes : (node : Node) (t : Txn) (heard : Heard) → Fits node → TxnFits t → Fits (takes_trying node t heard)
  trying_takes node t (Stored stamp) h f = doing_fits node (stores_first t stamp) h (first_fits t stamp f)
  trying_takes node t heard h f = stops node h

  finds_fits : (node : Node) (s : Storing) (key : Key) (cell : Cell) (rival : Option ℕ) → Fits node → StoringFits s → KeyFits key → VersionsFit few cell.versions
      → stranger s.txn.snapshot cell.versions ≡ rival → Fits (finds node s key cell rival)
  finds_fits node s key cell None h f k v e =
      doing_fits node (Stores s (Some (record { key = key; stamp = cell.stamp; versions = cell.versions }))) h
      (f, (k, v), no_stranger_absent s.txn.snapshot s.txn.tid cell.versions e f.txn.unseen)
  finds_fits node s key cell (Some rival) h f k v e =
      doing_fits node (Removes (record { txn = s.txn; log = s.log; rival = rival; left = s.stored }) None) h (record { txn = f.txn; left = f.stored }, tt)

  storing_takes : (node : Node) (s : Storing) (l : Option Loaded) (left : List Write) (heard : Heard) → Fits node → StoringFits s → AllByRecursion WriteFits left → HeardFits few heard
      → Fits (takes_storing node s l left heard)
  storing_takes node s None [] (Stored stamp) h f w g = doing_fits node (Closing s.txn Commit None) h (f.txn, tt)
  storing_takes node s None (o ∷ left) (Record cell) h f w g = finds_fits node s o.key cell (stranger s.txn.snapshot cell.versions) h f w.0.key g refl
  storing_takes node s (Some l) (o ∷ left) (Stored stamp) h f w g =
      doing_fits node (Stores (record s { stored = s.stored ++ o ∷ []; left = left }) None) h
      (record { txn = f.txn; stored = all_push WriteFits s.stored o f.stored w.0; left = w.1 }, tt, tt)
  storing_takes node s (Some l) left Moved h f w g = doing_fits node (Stores s None) h (f, tt, tt)
  storing_takes node s l left heard h f w g = stops node h

  removing_takes : (node : Node) (r : Removing) (l : Option Loaded) (left : List Write) (heard : Heard) → Fits node → RemovingFits r → AllByRecursion WriteFits left → HeardFits few heard
      → Fits (takes_removing node r l left heard)
  removing_takes node r None [] (Stored stamp) h f w g = doing_fits node (Closing r.txn (Undo (Some r.rival)) None) h (f.txn, tt)
  removing_takes node r None (o ∷ left) (Record cell) h f w g =
      doing_fits node (Removes r (Some (record { key = o.key; stamp = cell.stamp; versions = cell.versions }))) h (f, (w.0.key, g))
  removing_takes node r (Some l) (o ∷ left) (Stored stamp) h f w g = doing_fits node (Removes (record r { left = left }) None) h (record { txn = f.txn; left = w.1 }, tt)
  removing_takes node r (Some l) left Moved h f w g = doing_fits node (Removes r None) h (f, tt)
  removing_takes node r l left heard h f w g = stops node h

  closing_takes : (node : Node) (t : Txn) (d : Decision) (c : Option CommitsCell) (heard : Heard) → Fits node → TxnFits t → HeardFits few heard → Fits (takes_closing node t d c heard)
  closing_takes node t d None (Commits c) h f g = doing_fits node (Closing t d (Some c)) h (f, g)
  closing_takes node t d (Some c) (Stored stamp) h f g = doing_fits node (Ending t.tid (end_answer t.stage d)) h tt
  closing_takes node t d (Some c) Moved h f g = doing_fits node (Closing t d None) h (f, tt)
  closing_takes node t d c heard h f g = stops node h

  ending_takes : (node : Node) (told : Answer) (heard : Heard) → Fits node → Fits (takes_ending node told heard)
  ending_takes node told (Told manager.Ended) h = answered_fits node told Outside h tt
  ending_takes node told heard h = stops node h

  -- the transactions of vanished nodes
  duty_fits : (node : Node) (c : Claimed) (left : List ℕ) → Fits node → Fits (next_duty node (record c { left = left }))
  duty_fits node c [] h = answered_fits node (answer.Recovered c.node) Outside h tt
  duty_fits node c (d ∷ left) h = doing_fits node (Recovering (record c { left = d ∷ left })) h tt

  lost_fits : (node : Node) (c : Claimed) (d : ℕ) (tids : List ℕ) → Fits node → AreTids tids → Fits (next_lost node c d tids)
  lost_fits node c d [] h a = duty_fits node c c.left h
  lost_fits node c d (tid ∷ others) h a = doing_fits node (ReadingLog c (record { node = d; tid = tid; others = others })) h (record { tid = a.0; others = a.1 })

  recovering_takes : (node : Node) (c : Claimed) (left : List ℕ) (heard : Heard) → Fits node → ToldFits heard → Fits (takes_recovering node c left heard)
  recovering_takes node c (d ∷ left) (Told (manager.Orphaned tids)) h t = lost_fits node (record c { left = left }) d tids h t
  recovering_takes node c left heard h t = stops node h

  flag_fits : (node : Node) (c : Claimed) (o : Lost) (log : LogCell) (f : Flag) → Fits node → LostFits o → EntryFits log.entry → Fits (by_flag node c o log f)
  flag_fits node c o log flag.Trying h l e = doing_fits node (Stripping c o log log.entry.writes None) h (l, e, e.keys, tt)
  flag_fits node c o log flag.Decided h l e = doing_fits node (Finishing c o true None) h (l, tt)
  flag_fits node c o log flag.Undone h l e = doing_fits node (Finishing c o false None) h (l, tt)

  log_takes : (node : Node) (c : Claimed) (o : Lost) (heard : Heard) → Fits node → LostFits o → HeardFits few heard → Fits (takes_log node c o heard)
  log_takes node c o (Log None) h l g = doing_fits node (Finishing c o false None) h (l, tt)
  log_takes node c o (Log (Some log)) h l g = flag_fits node c o log log.entry.flag h l g
  log_takes node c o heard h l g = stops node h

  stripping_takes : (node : Node) (c : Claimed) (o : Lost) (log : LogCell) (keys : List Key) (l : Option Loaded) (heard : Heard) → Fits node → LostFits o → EntryFits log.entry
      → KeysFit keys → HeardFits few heard → Fits (takes_stripping node c o log keys l heard)
  stripping_takes node c o log [] None (Stored stamp) h f e k g = doing_fits node (Finishing c o false None) h (f, tt)
  stripping_takes node c o log (key ∷ keys) None (Record cell) h f e k g = by (is_written o.tid cell.versions)
    where
      by : (b : Bool) → Fits (cond b (with_doing node (Stripping c o log (key ∷ keys) (Some (record { key = key; stamp = cell.stamp; versions = cell.versions }))))
          (with_doing node (Stripping c o log keys None)))
      by true = doing_fits node (Stripping c o log (key ∷ keys) (Some (record { key = key; stamp = cell.stamp; versions = cell.versions }))) h (f, e, k, (k.0, g))
      by false = doing_fits node (Stripping c o log keys None) h (f, e, k.1, tt)
  stripping_takes node c o log (key ∷ keys) (Some l) (Stored stamp) h f e k g = doing_fits node (Stripping c o log keys None) h (f, e, k.1, tt)
  stripping_takes node c o log keys (Some l) Moved h f e k g = doing_fits node (Stripping c o log keys None) h (f, e, k, tt)
  stripping_takes node c o log keys l heard h f e k g = stops node h

  finishing_takes : (node : Node) (c : Claimed) (o : Lost) (committed : Bool) (x : Option CommitsCell) (heard : Heard) → Fits node → LostFits o → HeardFits few heard
      → Fits (takes_finishing node c o committed x heard)
  finishing_takes node c o committed None (Commits x) h f g = by (has x.finished o.tid)
    where
      by : (b : Bool) → Fits (cond b (with_doing node (EndingLost c o)) (with_doing node (Finishing c o committed (Some x))))
      by true = doing_fits node (EndingLost c o) h f
      by false = doing_fits node (Finishing c o committed (Some x)) h (f, g)
  finishing_takes node c o committed (Some x) (Stored stamp) h f g = doing_fits node (EndingLost c o) h f
  finishing_takes node c o committed (Some x) Moved h f g = doing_fits node (Finishing c o committed None) h (f, tt)
  finishing_takes node c o committed x heard h f g = stops node h

  end_lost_takes : (node : Node) (c : Claimed) (o : Lost) (heard : Heard) → Fits node → LostFits o → Fits (takes_end_lost node c o heard)
  end_lost_takes node c o (Told manager.Ended) h f = lost_fits node c o.node o.others h f.others
  end_lost_takes node c o heard h f = stops node h

  doing_takes : (node : Node) (statement : Bound) (doing : Doing) (heard : Heard) (told : Answer) → Fits node → StatementOn catalog statement → DoingFits few doing
      → HeardFits few heard → ToldFits heard → Fits (takes_doing settings catalog node statement doing heard told)
  doing_takes node statement Outside heard told h s d g t = outside_takes node (course_outside statement) heard h
  doing_takes node statement (Noted seen) heard told h s d g t = noted_takes node statement seen heard h t
  doing_takes node statement (Drawing seen) heard told h s d g t = drawing_takes node seen heard h
  doing_takes node statement (Bringing seen low) heard told h s d g t = bringing_takes node seen heard h
  doing_takes node statement (Inside x) heard told h s d g t =
      inside_takes node statement x (course_in catalog x.stage statement) heard told h s d (course_fits catalog x.stage statement) g
  doing_takes node statement (Reading x reads) heard told h s d g t = read_takes node statement x reads heard told h s d.0 d.1 g
  doing_takes node statement (Trying x) heard told h s d g t = trying_takes node x heard h d
  doing_takes node statement (Stores x l) heard told h s d g t = storing_takes node x l x.left heard h d.0 d.0.left g
  doing_takes node statement (Removes r l) heard told h s d g t = removing_takes node r l r.left heard h d.0 d.0.left g
  doing_takes node statement (Closing x decision c) heard told h s d g t = closing_takes node x decision c heard h d.0 g
  doing_takes node statement (Ending tid said_so) heard told h s d g t = ending_takes node said_so heard h
  doing_takes node statement (Recovering c) heard told h s d g t = recovering_takes node c c.left heard h t
  doing_takes node statement (ReadingLog c o) heard told h s d g t = log_takes node c o heard h d g
  doing_takes node statement (Stripping c o log keys l) heard told h s d g t = stripping_takes node c o log keys l heard h d.0 d.1 d.2 g
  doing_takes node statement (Finishing c o committed x) heard told h s d g t = finishing_takes node c o committed x heard h d.0 g
  doing_takes node statement (EndingLost c o) heard told h s d g t = end_lost_takes node c o heard h d
  doing_takes node statement doing heard told h s d g t = h

  todo_takes : (node : Node) (todo : List Bound) (heard : Heard) (told : Answer) → Fits (record node { todo = todo }) → HeardFits few heard → ToldFits heard
      → Fits (takes settings catalog (record node { todo = todo }) heard told)
  todo_takes node [] heard told h g t = h
  todo_takes node (statement ∷ later) heard told h g t = doing_takes (record node { todo = statement ∷ later }) statement node.doing heard told h h.todo.0 h.doing g t

-- what a node is after a reply fits, whatever it asked, and whatever is answered
pub takes_fit : (settings : Settings) (catalog : Catalog) (few : ℕ) (node : Node) (heard : Heard) (told : Answer) → NodeFits settings catalog few node → HeardFits (few + 1) heard
    → ToldFits heard → NodeFits settings catalog (few + 1) (takes settings catalog node heard told)
takes_fit settings catalog few node heard told h g t = todo_takes settings catalog (few + 1) node node.todo heard told (fits_more settings catalog few node h) g t
