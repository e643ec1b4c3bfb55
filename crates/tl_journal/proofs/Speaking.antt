-- The entries of a journal speak the script: what a node says is said of its next statement, and a transaction that
-- BEGIN opened ends where the script says so.
use Rattle.std.proofs.Common.{◌≡◌, ℕ, ◌+◌, ◌==◌, suc, Bool, true, false, not, ◌&&◌, ◌||◌, List, [], ◌∷◌, ◌++◌, length, Option, Some, None, refl, sym, ap, ◌∙◌, subst, arith}
use Rattle.std.specs.Prelude.{slice_get, option_and_then, unwrap_or, if◌then◌else◌}
use Rattle.std.proofs.lemmas.Bool.{both_ways, eq-eqb}
use Rattle.std.proofs.lemmas.List.{append-nil, append_assoc}
use Rattle.std.proofs.lemmas.List.Elements.{filter_map-append}
use Rattle.tl_lemmas.proofs.Tests.{and_first}
use Rattle.tl_lemmas.proofs.Lists.{behind_first}
use Rattle.tl_base.specs.Along.{Along}
use Rattle.tl_base.specs.declared.place.Settings.{Settings}
use Rattle.tl_values.specs.declared.value.Value.{Value}
use Rattle.tl_schema.specs.declared.catalog.Catalog.{Catalog}
use Rattle.tl_descriptor.specs.Tids.{TidSet, has}
use Rattle.tl_logrec.specs.declared.entry.Flag.{Flag}
use Rattle.tl_logrec.specs.declared.entry.Flag.TheVariants as flag
use Rattle.tl_manager.specs.declared.request.ManagerReply.TheVariants as reply
use Rattle.tl_versions.specs.Versions.{is_written, stranger}
use Rattle.tl_write.specs.declared.write.Write.{Write}
use Rattle.tl_isolation.specs.declared.bound.Bound.{Bound}
use Rattle.tl_isolation.specs.declared.bound.Bound.TheVariants as bound
use Rattle.tl_isolation.specs.declared.entry.Answer.{Answer}
use Rattle.tl_isolation.specs.declared.entry.Answer.TheVariants as answer
use Rattle.tl_isolation.specs.declared.entry.Ending.{Ending as Ends}
use Rattle.tl_isolation.specs.declared.entry.Entry.{Entry}
use Rattle.tl_isolation.specs.declared.entry.Entry.TheVariants as entry
use Rattle.tl_isolation.specs.declared.entry.Said.{Said}
use Rattle.tl_isolation.specs.declared.script.Script.{Script}
use Rattle.tl_isolation.specs.declared.script.Session.{Session}
use Rattle.tl_isolation.specs.declared.state.Commit.{Commit as Committed}
use Rattle.tl_isolation.specs.declared.state.SiState.{SiState}
use Rattle.tl_isolation.specs.History.{state_after}
use Rattle.tl_isolation.specs.Script.{SpeaksAt, NextPasses, answer_at, answers_by, begins_transaction, ends_transaction, is_commit, is_rollback, next_statement, opened_after, opening_at, setup_of, was_opened}
use Rattle.tl_isolation.specs.State.{is_lost}
use Rattle.tl_isolation.specs.Step.{holds}
use Rattle.tl_protocol.specs.Store.{CommitsCell, Key, LogCell}
use Rattle.tl_protocol.specs.World.{Stage, Fresh, Opened, Answering, Txn, Fact, Loaded, Decision, Commit, Undo, World}
use Rattle.tl_protocol.specs.World as protocol
use Rattle.tl_protocol.specs.Next.{begun_txn}
use Rattle.tl_protocol.specs.Run.{Layout}
use Rattle.tl_protocol.specs.Told.{count_in, finished_as, finished_so, says}
use Rattle.tl_protocol.proofs.Inv.{is_opened}
use Rattle.tl_journal.specs.Ask.{Heard, Commits, Log, Record, Page, Stored, Moved, Numbers, Told}
use Rattle.tl_journal.specs.Asks.{Course, ToBegin, ToRead, ToIdle, ToCommit, ToGiveUp, ToRecover, course_in, course_outside, reading_course}
use Rattle.tl_journal.specs.Bytes.{home_of}
use Rattle.tl_journal.specs.Journal.{session_of}
use Rattle.tl_journal.specs.Node.{Storing, Removing, Claimed, Lost, Doing, Outside, Noted, Drawing, Bringing, Inside, Reading, Trying, Stores, Removes, Closing, Ending, Recovering, ReadingLog, Stripping, Finishing, EndingLost, Stopped, Node, opening_node}
use Rattle.tl_journal.specs.Reads.{Read, Point, Range, Reads, all_reads, begin_reads, tables_read}
use Rattle.tl_journal.specs.Says.{says_at, says_begun, says_closing, says_commit, says_end_lost, says_ending, says_finishing, says_idle, says_inside, says_noted, says_outside, says_read, says_recovered, says_recovering, says_rival, says_storing, says_statement, statement_number}
use Rattle.tl_journal.specs.Takes.{MayMean, Means, MeansIdle, MeansInside, MeansRead, after_reply, answered, begins, by_flag, finds, goes_on, learnt, next_lost, said, stopped, takes, takes_bringing, takes_closing, takes_commit, takes_drawing, takes_end_lost, takes_ending, takes_finishing, takes_give_up, takes_idle, takes_inside, takes_log, takes_noted, takes_outside, takes_read, takes_recovering, takes_removing, takes_storing, takes_stripping, takes_trying, with_doing}
use Rattle.tl_journal.proofs.Begins.{so_far}
use Rattle.tl_journal.proofs.Meets.{Before, PresentIs, is_single, orphan_of}
use Rattle.tl_journal.proofs.OwnHeld.{IsLost, IsOwn, own_closing, own_live, orphan_lost}

-- ---- what a node has said, and what it is doing

-- the statement that ends a transaction which BEGIN opened
abbrev pub ends_so : Decision → Bound → Bool
ends_so Commit = is_commit
ends_so (Undo None) = is_rollback
ends_so (Undo (Some rival)) = is_commit

-- where BEGIN opened the transaction the present statement passes
abbrev pub EndsBy : (Bound → Bool) → Bool → List Bound → Type 0
EndsBy p opened todo = opened ≡ true → PresentIs (λ statement. p statement ≡ true) todo

-- the present statement is the RECOVER of this node
abbrev pub RecoversBy : ℕ → List Bound → Type 0
RecoversBy gone todo = PresentIs (λ statement. statement ≡ bound.Recover gone) todo

-- whether BEGIN opened the transaction is known by its stage, and the present statement is the one for which it ends
abbrev pub SuitsScript : Bool → List Bound → Doing → Type 0
SuitsScript opened todo (Inside t) = opened ≡ is_opened t.stage
SuitsScript opened todo (Reading t reads) = opened ≡ is_opened t.stage
SuitsScript opened todo (Trying t) = (opened ≡ is_opened t.stage) × EndsBy is_commit opened todo
SuitsScript opened todo (Stores s l) = (opened ≡ is_opened s.txn.stage) × EndsBy is_commit opened todo
SuitsScript opened todo (Removes r l) = (opened ≡ is_opened r.txn.stage) × EndsBy is_commit opened todo
SuitsScript opened todo (Closing t d c) = (opened ≡ is_opened t.stage) × EndsBy (ends_so d) opened todo
SuitsScript opened todo (Ending tid told) = EndsBy ends_transaction opened todo
SuitsScript opened todo (Recovering c) = RecoversBy c.node todo
SuitsScript opened todo (ReadingLog c o) = RecoversBy c.node todo
SuitsScript opened todo (Stripping c o log keys l) = RecoversBy c.node todo
SuitsScript opened todo (Finishing c o committed x) = RecoversBy c.node todo
SuitsScript opened todo (EndingLost c o) = RecoversBy c.node todo
SuitsScript opened todo doing = Unit {0}

-- the node's answers are those that the entries tell, and it has the rest of its session to do
pub record SpeakIs (script : Script) (entries : List Entry) (session : Session) (node : Node) : Type 0 where
  pub is_session : session_of script node.number ≡ Some session
  pub answers : answers_by node.number entries ≡ node.answers
  pub past : List Bound
  pub statements : session.statements ≡ past ++ node.todo
  pub count : length past ≡ length node.answers
  pub suits : SuitsScript (was_opened node.number entries) node.todo node.doing

-- at the beginning
pub opening_speaks : (script : Script) (settings : Settings) (session : Session) → session_of script session.node ≡ Some session
    → SpeakIs script [] session (opening_node settings session)
opening_speaks script settings session e = record { is_session = e; answers = refl; past = []; statements = refl; count = refl; suits = tt }

-- a node that vanishes speaks so wherever it stands
pub vanished_speaks : (script : Script) (settings : Settings) (past : List Entry) (node : ℕ) (ending : Ends) → SpeaksAt script settings past (entry.Vanished node ending)
vanished_speaks script settings past node ending = tt

-- where nothing is left to do all statements are answered
pub all_answered : (script : Script) (entries : List Entry) (session : Session) (node : Node) → SpeakIs script entries session node → node.todo ≡ []
    → length (answers_by node.number entries) ≡ length session.statements
all_answered script entries session node i todo =
    ap length i.answers ∙ sym i.count ∙ ap length (sym (i.statements ∙ ap (λ x. i.past ++ x) todo ∙ append-nil i.past))

-- ---- entries that follow

opened_append : (n : ℕ) (opened : Bool) (es ds : List Entry) → opened_after n opened (es ++ ds) ≡ opened_after n (opened_after n opened es) ds
opened_append n opened [] ds = refl
opened_append n opened (e ∷ es) ds = opened_append n (unwrap_or (opening_at n e) opened) es ds

length_push : {A : Type 0} (xs : List A) (x : A) → length (xs ++ x ∷ []) ≡ suc (length xs)
length_push [] x = refl
length_push (z ∷ xs) x = ap suc (length_push xs x)

module _ (script : Script) (entries : List Entry) (session : Session) (node : Node) (i : SpeakIs script entries session node) where
  -- entries in which the node's statement isn't answered
  pub quiet : (new : Node) → new.number ≡ node.number → new.todo ≡ node.todo → new.answers ≡ node.answers → (told : List Entry) → answers_by node.number told ≡ []
      → SuitsScript (opened_after node.number (was_opened node.number entries) told) new.todo new.doing → SpeakIs script (entries ++ told) session new
  quiet new n t a told none suits = record {
    is_session = ap (session_of script) n ∙ i.is_session;
    answers = ap (λ k. answers_by k (entries ++ told)) n ∙ filter_map-append (answer_at node.number) entries told
        ∙ ap (λ x. answers_by node.number entries ++ x) none ∙ append-nil (answers_by node.number entries) ∙ i.answers ∙ sym a;
    past = i.past;
    statements = i.statements ∙ ap (λ x. i.past ++ x) (sym t);
    count = i.count ∙ ap length (sym a);
    suits = subst (λ k. SuitsScript (was_opened k (entries ++ told)) new.todo new.doing) (sym n)
        (subst (λ b. SuitsScript b new.todo new.doing) (sym (opened_append node.number false entries told)) suits);
  }

  -- and entries in which it is
  answers_it : (statement : Bound) (later : List Bound) (said_so : Answer) (new : Node) → node.todo ≡ statement ∷ later → new.number ≡ node.number
      → new.todo ≡ later → new.answers ≡ node.answers ++ said_so ∷ [] → (told : List Entry) → answers_by node.number told ≡ said_so ∷ []
      → SuitsScript (opened_after node.number (was_opened node.number entries) told) new.todo new.doing → SpeakIs script (entries ++ told) session new
  answers_it statement later said_so new todo n t a told one suits = record {
    is_session = ap (session_of script) n ∙ i.is_session;
    answers = ap (λ k. answers_by k (entries ++ told)) n ∙ filter_map-append (answer_at node.number) entries told
        ∙ ap (λ x. answers_by node.number entries ++ x) one ∙ ap (λ x. x ++ said_so ∷ []) i.answers ∙ sym a;
    past = i.past ++ statement ∷ [];
    statements = i.statements ∙ ap (λ x. i.past ++ x) (todo ∙ ap (λ x. statement ∷ x) (sym t)) ∙ sym (append_assoc i.past (statement ∷ []) new.todo);
    count = length_push i.past statement ∙ ap suc i.count ∙ sym (length_push node.answers said_so) ∙ ap length (sym a);
    suits = subst (λ k. SuitsScript (was_opened k (entries ++ told)) new.todo new.doing) (sym n)
        (subst (λ b. SuitsScript b new.todo new.doing) (sym (opened_append node.number false entries told)) suits);
  }

  -- the first of the statements that are left is the next one
  next_is : (statement : Bound) (later : List Bound) → node.todo ≡ statement ∷ later → next_statement script node.number entries ≡ Some statement
  next_is statement later todo =
      ap (λ o. option_and_then (λ (s : Session). slice_get s.statements (length (answers_by node.number entries))) o) i.is_session
      ∙ ap (λ xs. slice_get xs (length (answers_by node.number entries))) (i.statements ∙ ap (λ x. i.past ++ x) todo)
      ∙ ap (λ k. slice_get (i.past ++ statement ∷ later) k) (ap length i.answers ∙ sym i.count)
      ∙ behind_first i.past statement later

  pub next_passes : (p : Bound → Bool) (statement : Bound) (later : List Bound) → node.todo ≡ statement ∷ later → p statement ≡ true
      → NextPasses p script node.number entries
  next_passes p statement later todo h = ap (holds p) (next_is statement later todo) ∙ h

  number_is : statement_number node ≡ length (answers_by node.number entries) + 1
  number_is = ap (λ (x : List Answer). length x + 1) (sym i.answers)

-- ---- what one entry tells

said_one : (n k : ℕ) (b : Bound) (a : Answer) → answers_by n (says n k b a ∷ []) ≡ a ∷ []
said_one n k b a = rw (eq-eqb n n refl) refl

said_none : (n k : ℕ) (b : Bound) (a : Answer) → answers_by n (entry.Said n b (record { statement = k; answer = a; answered = false }) ∷ []) ≡ []
said_none n k b a = rw (eq-eqb n n refl) refl

answered_one : (n k : ℕ) (a : Answer) → answers_by n (entry.Answered n k a ∷ []) ≡ a ∷ []
answered_one n k a = rw (eq-eqb n n refl) refl

-- a SELECT or a change opens nothing
opens_none : (n m : ℕ) (b : Bound) (s : Said) → is_single b ≡ true → opening_at n (entry.Said m b s) ≡ None
opens_none n m bound.Begin s e = cc
opens_none n m bound.Commit s e = refl
opens_none n m bound.Rollback s e = refl
opens_none n m (bound.Recover gone) s e = refl
opens_none n m (bound.Select query) s e = refl
opens_none n m (bound.Change edit) s e = refl

begun_unopened : (n tid first : ℕ) (opened : Bool) → opened_after n opened (entry.Began n tid first ∷ []) ≡ false
begun_unopened n tid first opened = rw (eq-eqb n n refl) refl

begin_nested : (n k : ℕ) (opened : Bool) → opened_after n opened (says n k bound.Begin answer.Nested ∷ []) ≡ opened
begin_nested n k opened = by (n == n)
  where
    by : (b : Bool) → unwrap_or (if b && false then Some true else None) opened ≡ opened
    by true = refl
    by false = refl

begin_opens : (n k : ℕ) (opened : Bool) → opened_after n opened (says n k bound.Begin answer.Begun ∷ []) ≡ true
begin_opens n k opened = rw (eq-eqb n n refl) refl

-- ---- statements

recover_of : (statement : Bound) (gone : ℕ) → course_outside statement ≡ ToRecover gone → statement ≡ bound.Recover gone
recover_of bound.Begin gone e = cc
recover_of bound.Commit gone e = cc
recover_of bound.Rollback gone e = cc
recover_of (bound.Recover d) gone e = cc
recover_of (bound.Select query) gone e = cc
recover_of (bound.Change edit) gone e = cc

begins_so : (statement : Bound) → course_outside statement ≡ ToBegin → begins_transaction statement ≡ true
begins_so bound.Begin e = refl
begins_so bound.Commit e = cc
begins_so bound.Rollback e = cc
begins_so (bound.Recover d) e = cc
begins_so (bound.Select query) e = refl
begins_so (bound.Change edit) e = refl

reading_on : (reads : Reads) → (reading_course reads ≡ ToCommit → ⊥) × (reading_course reads ≡ ToGiveUp → ⊥)
reading_on reads = by reads.left
  where
    by : (left : List Read) → (reading_course (record reads { left = left }) ≡ ToCommit → ⊥) × (reading_course (record reads { left = left }) ≡ ToGiveUp → ⊥)
    by [] = (λ e. cc, λ e. cc)
    by (read ∷ left) = (λ e. cc, λ e. cc)

-- a transaction that BEGIN opened commits at COMMIT
commits_by : (catalog : Catalog) (stage : Stage) (statement : Bound) → course_in catalog stage statement ≡ ToCommit → is_opened stage ≡ true → is_commit statement ≡ true
commits_by catalog Fresh statement e o = cc
commits_by catalog (Answering told) statement e o = cc
commits_by catalog Opened bound.Begin e o = cc
commits_by catalog Opened bound.Commit e o = refl
commits_by catalog Opened bound.Rollback e o = cc
commits_by catalog Opened (bound.Recover d) e o = cc
commits_by catalog Opened (bound.Select query) e o = absurd ((reading_on _).0 e)
commits_by catalog Opened (bound.Change edit) e o = absurd ((reading_on _).0 e)

-- and gives up at ROLLBACK
gives_up_by : (catalog : Catalog) (stage : Stage) (statement : Bound) → course_in catalog stage statement ≡ ToGiveUp → is_opened stage ≡ true → is_rollback statement ≡ true
gives_up_by catalog Fresh statement e o = cc
gives_up_by catalog (Answering told) statement e o = cc
gives_up_by catalog Opened bound.Begin e o = cc
gives_up_by catalog Opened bound.Commit e o = cc
gives_up_by catalog Opened bound.Rollback e o = refl
gives_up_by catalog Opened (bound.Recover d) e o = cc
gives_up_by catalog Opened (bound.Select query) e o = absurd ((reading_on _).1 e)
gives_up_by catalog Opened (bound.Change edit) e o = absurd ((reading_on _).1 e)

-- by either it ends
ends_then : (d : Decision) (statement : Bound) → ends_so d statement ≡ true → ends_transaction statement ≡ true
ends_then Commit bound.Commit e = refl
ends_then (Undo None) bound.Rollback e = refl
ends_then (Undo (Some rival)) bound.Commit e = refl
ends_then d statement e = cc

-- what may be answered is of a SELECT or a change
means_single : (catalog : Catalog) (statement : Bound) (own : List Write) (rows : List (List (List Value))) (told : Answer)
    → Means catalog statement own rows told → is_single statement ≡ true
means_single catalog (bound.Select query) own rows told m = refl
means_single catalog (bound.Change edit) own rows told m = refl
means_single catalog bound.Begin own rows told m = absurd m
means_single catalog bound.Commit own rows told m = absurd m
means_single catalog bound.Rollback own rows told m = absurd m
means_single catalog (bound.Recover d) own rows told m = absurd m

-- ---- what a node says at a reply, and how far it is then

-- the node after a read
abbrev read_so : Catalog → Node → Bound → Txn → Option Reads → Answer → Node
read_so catalog node statement t None told = stopped node
read_so catalog node statement t (Some after) told = goes_on catalog node statement t after told

read_is : (settings : Settings) (catalog : Catalog) (node : Node) (statement : Bound) (t : Txn) (reads : Reads) (heard : Heard) (told : Answer)
    → read_so catalog node statement t (after_reply settings t.snapshot reads reads.left heard) told ≡ takes_read settings catalog node statement t reads heard told
read_is settings catalog node statement t reads heard told = by reads.left heard
  where
    by : (left : List Read) (heard : Heard)
        → read_so catalog node statement t (after_reply settings t.snapshot (record reads { left = left }) left heard) told
        ≡ takes_read settings catalog node statement t (record reads { left = left }) heard told
    by (Point key ∷ left) (Record cell) = refl
    by (Range shard from first before ∷ left) (Page found more) = refl
    by left heard = refl

module _ (script : Script) (settings : Settings) (commits : List Committed) (entries : List Entry) (session : Session) (later : List Bound) where
  -- before the reply
  abbrev From : Node → Bound → Doing → Type 0
  From node statement doing = SpeakIs script entries session (so_far node (statement ∷ later) doing)

  -- and after it
  abbrev Spoken : List Entry → Node → Type 0
  Spoken told new = Along (SpeaksAt script settings) entries told × SpeakIs script (entries ++ told) session new

  stops : (node : Node) (statement : Bound) (doing : Doing) → From node statement doing → Spoken [] (stopped (so_far node (statement ∷ later) doing))
  stops node statement doing i = (tt, quiet script entries session (so_far node (statement ∷ later) doing) i (stopped (so_far node (statement ∷ later) doing)) refl refl refl [] refl tt)

  -- nothing is said
  goes_quiet : (node : Node) (statement : Bound) (old : Doing) (i : From node statement old) (floors : List TidSet) (asked : ℕ) (doing : Doing)
      → SuitsScript (was_opened node.number entries) (statement ∷ later) doing
      → Spoken [] (record (so_far node (statement ∷ later) doing) { floors = floors; asked_others = asked })
  goes_quiet node statement old i floors asked doing h =
      (tt, quiet script entries session (so_far node (statement ∷ later) old) i (record (so_far node (statement ∷ later) doing) { floors = floors; asked_others = asked }) refl refl refl [] refl h)

  -- one entry, by which the statement isn't answered
  goes_on_by : (node : Node) (statement : Bound) (old : Doing) (i : From node statement old) (e : Entry) (new : Node) → SpeaksAt script settings entries e
      → new.number ≡ node.number → new.todo ≡ statement ∷ later → new.answers ≡ node.answers → answers_by node.number (e ∷ []) ≡ []
      → SuitsScript (opened_after node.number (was_opened node.number entries) (e ∷ [])) new.todo new.doing → Spoken (e ∷ []) new
  goes_on_by node statement old i e new h n t a none suits =
      ((h, tt), quiet script entries session (so_far node (statement ∷ later) old) i new n t a (e ∷ []) none suits)

  -- the statement is answered at once
  says_it : (node : Node) (statement : Bound) (old : Doing) (i : From node statement old) (told : Answer) (floors : List TidSet) (asked : ℕ) (doing : Doing)
      → SuitsScript (opened_after node.number (was_opened node.number entries) (says node.number (statement_number node) statement told ∷ [])) later doing
      → Spoken (says node.number (statement_number node) statement told ∷ [])
      (record node { todo = later; answers = node.answers ++ told ∷ []; floors = floors; asked_others = asked; doing = doing })
  says_it node statement old i told floors asked doing h =
      let here : Node = so_far node (statement ∷ later) old in
      let new : Node = record node { todo = later; answers = node.answers ++ told ∷ []; floors = floors; asked_others = asked; doing = doing } in (
        ((number_is script entries session here i, next_is script entries session here i statement later refl), tt),
        answers_it script entries session here i statement later told new refl refl refl refl (says node.number (statement_number node) statement told ∷ [])
            (said_one node.number (statement_number node) statement told) h,
      )

  -- ---- outside a transaction

  speaks_outside : (node : Node) (statement : Bound) (course : Course) → course_outside statement ≡ course → (heard : Heard) → From node statement Outside
      → Spoken (says_outside (so_far node (statement ∷ later) Outside) statement course heard) (takes_outside settings (so_far node (statement ∷ later) Outside) course heard)
  speaks_outside node statement ToBegin e (Commits c) i = goes_on_by node statement Outside i (entry.Asked node.number) _ tt refl refl refl refl tt
  speaks_outside node statement ToIdle e (Told (reply.FloorIs floor)) i = says_it node statement Outside i answer.Outside _ node.asked_others Outside tt
  speaks_outside node statement (ToRecover gone) e (Told reply.There) i =
      subst (λ b. Spoken (says node.number (statement_number node) b (answer.There gone) ∷ []) (answered (so_far node (statement ∷ later) Outside) (answer.There gone) Outside))
      (recover_of statement gone e) (says_it node statement Outside i (answer.There gone) node.floors node.asked_others Outside tt)
  speaks_outside node statement (ToRecover gone) e (Told (reply.Given also)) i =
      goes_quiet node statement Outside i node.floors node.asked_others (Recovering _) (recover_of statement gone e)
  speaks_outside node statement course e heard i = stops node statement Outside i

  -- the transaction begins; of the statement BEGIN it is said at once
  speaks_begun : (node : Node) (statement : Bound) (seen : TidSet) (tid first : ℕ) (snapshot floor : TidSet) → begins_transaction statement ≡ true
      → From node statement (Noted seen)
      → Spoken (entry.Began node.number tid first ∷ says_begun (so_far node (statement ∷ later) (Noted seen)) statement)
      (begins (learnt (so_far node (statement ∷ later) (Noted seen)) (home_of settings node.number) floor) statement (begun_txn tid snapshot))
  speaks_begun node bound.Begin seen tid first snapshot floor e i =
      let here : Node = so_far node (bound.Begin ∷ later) (Noted seen) in
      let k : ℕ = statement_number node in
      let begun : List Entry = entry.Began node.number tid first ∷ [] in
      let opens : List Entry = says node.number k bound.Begin answer.Begun ∷ [] in
      let new : Node = answered (learnt here (home_of settings node.number) floor) answer.Begun (Inside (record { tid = tid; snapshot = snapshot; own = []; stage = Opened })) in
      let mid : SpeakIs script (entries ++ begun) session here = quiet script entries session here i here refl refl refl begun refl tt in (
        (
          next_passes script entries session here i begins_transaction bound.Begin later refl e,
          ((number_is script (entries ++ begun) session here mid, next_is script (entries ++ begun) session here mid bound.Begin later refl), tt),
        ),
        subst (λ x. SpeakIs script x session new) (append_assoc entries begun opens)
            (answers_it script (entries ++ begun) session here mid bound.Begin later answer.Begun new refl refl refl refl opens
            (said_one node.number k bound.Begin answer.Begun) (begin_opens node.number k (was_opened node.number (entries ++ begun)))),
      )
  speaks_begun node statement seen tid first snapshot floor e i =
      goes_on_by node statement (Noted seen) i (entry.Began node.number tid first) _
      (next_passes script entries session (so_far node (statement ∷ later) (Noted seen)) i begins_transaction statement later refl e) refl refl refl refl
      (begun_unopened node.number tid first (was_opened node.number entries))

  speaks_noted : (node : Node) (statement : Bound) (seen : TidSet) → course_outside statement ≡ ToBegin → (heard : Heard) → From node statement (Noted seen)
      → Spoken (says_noted commits (so_far node (statement ∷ later) (Noted seen)) statement heard)
      (takes_noted settings (so_far node (statement ∷ later) (Noted seen)) statement seen heard)
  speaks_noted node statement seen e (Told (reply.Began tid snapshot floor)) i =
      speaks_begun node statement seen tid (count_in snapshot commits) snapshot floor (begins_so statement e) i
  speaks_noted node statement seen e (Told reply.NeedRange) i = goes_quiet node statement (Noted seen) i node.floors node.asked_others (Drawing seen) tt
  speaks_noted node statement seen e heard i = stops node statement (Noted seen) i

  speaks_drawing : (node : Node) (statement : Bound) (seen : TidSet) (heard : Heard) → From node statement (Drawing seen)
      → Spoken [] (takes_drawing (so_far node (statement ∷ later) (Drawing seen)) seen heard)
  speaks_drawing node statement seen (Numbers old) i = goes_quiet node statement (Drawing seen) i node.floors node.asked_others (Bringing seen old) tt
  speaks_drawing node statement seen heard i = stops node statement (Drawing seen) i

  speaks_bringing : (node : Node) (statement : Bound) (seen : TidSet) (low : ℕ) (heard : Heard) → From node statement (Bringing seen low)
      → Spoken [] (takes_bringing (so_far node (statement ∷ later) (Bringing seen low)) seen heard)
  speaks_bringing node statement seen low (Told reply.Ranged) i = goes_quiet node statement (Bringing seen low) i node.floors node.asked_others (Noted seen) tt
  speaks_bringing node statement seen low heard i = stops node statement (Bringing seen low) i

  -- ---- in a transaction

  -- a SELECT or a change opens nothing
  opened_still : (node : Node) (statement : Bound) (told : Answer) (now : Bool) → is_single statement ≡ true
      → opened_after node.number (was_opened node.number entries)
      (entry.Said node.number statement (record { statement = statement_number node; answer = told; answered = now }) ∷ []) ≡ was_opened node.number entries
  opened_still node statement told now single =
      ap (λ o. unwrap_or o (was_opened node.number entries))
      (opens_none node.number node.number statement (record { statement = statement_number node; answer = told; answered = now }) single)

  -- the statement is said, and its answer waits
  said_waits : (node : Node) (statement : Bound) (old : Doing) (told : Answer) (i : From node statement old) (doing : Doing)
      → SuitsScript (opened_after node.number (was_opened node.number entries)
      (entry.Said node.number statement (record { statement = statement_number node; answer = told; answered = false }) ∷ [])) (statement ∷ later) doing
      → Spoken (entry.Said node.number statement (record { statement = statement_number node; answer = told; answered = false }) ∷ [])
      (so_far node (statement ∷ later) doing)
  said_waits node statement old told i doing h =
      let here : Node = so_far node (statement ∷ later) old in
      goes_on_by node statement old i (entry.Said node.number statement (record { statement = statement_number node; answer = told; answered = false }))
      (so_far node (statement ∷ later) doing)
      (number_is script entries session here i, next_is script entries session here i statement later refl) refl refl refl
      (said_none node.number (statement_number node) statement told) h

  -- the statement is said
  speaks_said : (node : Node) (statement : Bound) (old : Doing) (tid : ℕ) (snapshot : TidSet) (own : List Write) (stage : Stage) (rows : List (List (List Value)))
      (told : Answer) → is_single statement ≡ true → was_opened node.number entries ≡ is_opened stage → From node statement old
      → Spoken (says_statement (so_far node (statement ∷ later) old) statement (record { tid = tid; snapshot = snapshot; own = own; stage = stage }) told ∷ [])
      (said script.catalog (so_far node (statement ∷ later) old) statement (record { tid = tid; snapshot = snapshot; own = own; stage = stage }) rows told)
  speaks_said node statement old tid snapshot own Opened rows told single e i =
      says_it node statement old i told node.floors node.asked_others (Inside _) (opened_still node statement told true single ∙ e)
  speaks_said node statement old tid snapshot own Fresh rows told single e i =
      said_waits node statement old told i (Inside _) (opened_still node statement told false single ∙ e)
  speaks_said node statement old tid snapshot own (Answering before) rows told single e i =
      said_waits node statement old told i (Inside _) (opened_still node statement told false single ∙ e)

  -- a read was made; the statement is said once it was the last
  speaks_read : (node : Node) (statement : Bound) (old : Doing) (t : Txn) (told : Answer) → was_opened node.number entries ≡ is_opened t.stage → From node statement old
      → (o : Option Reads) → MeansRead script.catalog statement t o told
      → Spoken (says_read (so_far node (statement ∷ later) old) statement t o told) (read_so script.catalog (so_far node (statement ∷ later) old) statement t o told)
  speaks_read node statement old t told e i None m = stops node statement old i
  speaks_read node statement old t told e i (Some after) m = by after.left m
    where
      by : (left : List Read) → MeansRead script.catalog statement t (Some (record after { left = left })) told
          → Spoken (says_read (so_far node (statement ∷ later) old) statement t (Some (record after { left = left })) told)
          (goes_on script.catalog (so_far node (statement ∷ later) old) statement t (record after { left = left }) told)
      by [] m = speaks_said node statement old t.tid t.snapshot t.own t.stage _ told (means_single script.catalog statement t.own _ told m) e i
      by (read ∷ left) m = goes_quiet node statement old i node.floors node.asked_others (Reading t _) e

  speaks_reading : (node : Node) (statement : Bound) (old : Doing) (t : Txn) (reads : Reads) (heard : Heard) (told : Answer)
      → was_opened node.number entries ≡ is_opened t.stage → From node statement old
      → MeansRead script.catalog statement t (after_reply settings t.snapshot reads reads.left heard) told
      → Spoken (says_read (so_far node (statement ∷ later) old) statement t (after_reply settings t.snapshot reads reads.left heard) told)
      (takes_read settings script.catalog (so_far node (statement ∷ later) old) statement t reads heard told)
  speaks_reading node statement old t reads heard told e i m =
      subst (λ x. Spoken (says_read (so_far node (statement ∷ later) old) statement t (after_reply settings t.snapshot reads reads.left heard) told) x)
      (read_is settings script.catalog (so_far node (statement ∷ later) old) statement t reads heard told)
      (speaks_read node statement old t told e i (after_reply settings t.snapshot reads reads.left heard) m)

  -- the one request of a statement without reads
  speaks_idle : (node : Node) (statement : Bound) (t : Txn) (told : Answer) (heard : Heard) → MeansIdle script.catalog statement t told → From node statement (Inside t)
      → Spoken (says_idle (so_far node (statement ∷ later) (Inside t)) statement t heard told)
      (takes_idle settings script.catalog (so_far node (statement ∷ later) (Inside t)) statement t heard told)
  speaks_idle node bound.Begin t told (Told (reply.FloorIs floor)) m i =
      says_it node bound.Begin (Inside t) i answer.Nested _ node.asked_others (Inside t) (begin_nested node.number (statement_number node) (was_opened node.number entries) ∙ i.suits)
  speaks_idle node (bound.Recover gone) t told (Told (reply.FloorIs floor)) m i =
      says_it node (bound.Recover gone) (Inside t) i answer.Nested _ node.asked_others (Inside t) i.suits
  speaks_idle node statement t told (Told (reply.FloorIs floor)) m i =
      speaks_said (learnt node (home_of settings node.number) floor) statement (Inside t) t.tid t.snapshot t.own t.stage
      (tables_read (begin_reads (all_reads script.catalog statement))) told
      (means_single script.catalog statement t.own (tables_read (begin_reads (all_reads script.catalog statement))) told m) i.suits
      (record { is_session = i.is_session; answers = i.answers; past = i.past; statements = i.statements; count = i.count; suits = i.suits })
  speaks_idle node statement t told heard m i = stops node statement (Inside t) i

  -- ---- the end of a transaction

  -- a transaction that tries is the node's own
  try_speaks : (node : Node) (statement : Bound) (old : Doing) (t : Txn) (rival : Option ℕ) → IsOwn (state_after (setup_of script settings) entries) node.number t rival
      → From node statement old → (is_opened t.stage ≡ true → is_commit statement ≡ true) → SpeaksAt script settings entries (entry.Tried t.tid)
  try_speaks node statement old t rival own i h held e stays =
      let q = own held e in
      subst (λ k. NextPasses is_commit script k entries) (sym q.1)
      (next_passes script entries session (so_far node (statement ∷ later) old) i is_commit statement later refl
      (h (sym q.0 ∙ and_first held.opened (not (is_lost held.phase)) stays)))

  -- and one that is undone
  undo_speaks : (node : Node) (statement : Bound) (old : Doing) (t : Txn) (rival : Option ℕ) → IsOwn (state_after (setup_of script settings) entries) node.number t rival
      → From node statement old → (is_opened t.stage ≡ true → ends_so (Undo rival) statement ≡ true) → SpeaksAt script settings entries (entry.Undone t.tid)
  undo_speaks node statement old t rival own i h held e stays none =
      let q = own held e in
      subst (λ k. NextPasses is_rollback script k entries) (sym q.1)
      (next_passes script entries session (so_far node (statement ∷ later) old) i is_rollback statement later refl
      (subst (λ r. ends_so (Undo r) statement ≡ true) (sym q.2 ∙ none) (h (sym q.0 ∙ and_first held.opened (not (is_lost held.phase)) stays))))

  speaks_commit : (node : Node) (statement : Bound) (t : Txn) (heard : Heard) → IsOwn (state_after (setup_of script settings) entries) node.number t None
      → (is_opened t.stage ≡ true → is_commit statement ≡ true) → From node statement (Inside t)
      → Spoken (says_commit t heard) (takes_commit settings (so_far node (statement ∷ later) (Inside t)) t heard)
  speaks_commit node statement t (Commits c) own h i =
      goes_on_by node statement (Inside t) i (entry.Tried t.tid) _ (try_speaks node statement (Inside t) t None own i h) refl refl refl refl (i.suits, λ o. h (sym i.suits ∙ o))
  speaks_commit node statement t (Stored stamp) own h i =
      goes_on_by node statement (Inside t) i (entry.Tried t.tid) _ (try_speaks node statement (Inside t) t None own i h) refl refl refl refl (i.suits, λ o. h (sym i.suits ∙ o))
  speaks_commit node statement t (Told (reply.FloorIs floor)) own h i =
      goes_quiet node statement (Inside t) i _ _ (Trying t) (i.suits, λ o. h (sym i.suits ∙ o))
  speaks_commit node statement t heard own h i = stops node statement (Inside t) i

  speaks_trying : (node : Node) (statement : Bound) (t : Txn) (heard : Heard) → IsOwn (state_after (setup_of script settings) entries) node.number t None
      → From node statement (Trying t) → Spoken (says_commit t heard) (takes_trying (so_far node (statement ∷ later) (Trying t)) t heard)
  speaks_trying node statement t (Stored stamp) own i =
      goes_on_by node statement (Trying t) i (entry.Tried t.tid) _ (try_speaks node statement (Trying t) t None own i (λ o. i.suits.1 (i.suits.0 ∙ o))) refl refl refl refl i.suits
  speaks_trying node statement t (Commits c) own i =
      goes_on_by node statement (Trying t) i (entry.Tried t.tid) _ (try_speaks node statement (Trying t) t None own i (λ o. i.suits.1 (i.suits.0 ∙ o))) refl refl refl refl tt
  speaks_trying node statement t heard own i = stops node statement (Trying t) i

  speaks_give_up : (node : Node) (statement : Bound) (t : Txn) (heard : Heard) → (is_opened t.stage ≡ true → is_rollback statement ≡ true) → From node statement (Inside t)
      → Spoken [] (takes_give_up (so_far node (statement ∷ later) (Inside t)) t heard)
  speaks_give_up node statement t (Commits c) h i =
      goes_quiet node statement (Inside t) i node.floors node.asked_others (Closing t (Undo None) (Some c)) (i.suits, λ o. h (sym i.suits ∙ o))
  speaks_give_up node statement t heard h i = stops node statement (Inside t) i

  speaks_inside : (node : Node) (statement : Bound) (t : Txn) (course : Course) → course_in script.catalog t.stage statement ≡ course → (heard : Heard) (told : Answer)
      → IsOwn (state_after (setup_of script settings) entries) node.number t None → MeansInside settings script.catalog statement t course heard told
      → From node statement (Inside t)
      → Spoken (says_inside settings (so_far node (statement ∷ later) (Inside t)) statement t course heard told)
      (takes_inside settings script.catalog (so_far node (statement ∷ later) (Inside t)) statement t course heard told)
  speaks_inside node statement t (ToRead reads) e heard told own m i =
      speaks_reading node statement (Inside t) t reads heard told i.suits i m
  speaks_inside node statement t ToIdle e heard told own m i = speaks_idle node statement t told heard m i
  speaks_inside node statement t ToCommit e heard told own m i = speaks_commit node statement t heard own (commits_by script.catalog t.stage statement e) i
  speaks_inside node statement t ToGiveUp e heard told own m i = speaks_give_up node statement t heard (gives_up_by script.catalog t.stage statement e) i
  speaks_inside node statement t course e heard told own m i = stops node statement (Inside t) i

  speaks_storing : (node : Node) (statement : Bound) (s : Storing) (l l' : Option Loaded) (left : List Write) (heard : Heard) → From node statement (Stores s l)
      → Spoken (says_storing s l' left heard) (takes_storing (so_far node (statement ∷ later) (Stores s l)) s l' left heard)
  speaks_storing node statement s l None [] (Stored stamp) i = goes_quiet node statement (Stores s l) i node.floors node.asked_others (Closing s.txn Commit None) i.suits
  speaks_storing node statement s l None (o ∷ left) (Record cell) i = by (stranger s.txn.snapshot cell.versions)
    where
      by : (rival : Option ℕ) → Spoken (says_rival s rival) (finds (so_far node (statement ∷ later) (Stores s l)) s o.key cell rival)
      by None = goes_quiet node statement (Stores s l) i node.floors node.asked_others (Stores s _) i.suits
      by (Some rival) = goes_on_by node statement (Stores s l) i (entry.Clash s.txn.tid rival (length s.stored)) _ tt refl refl refl refl i.suits
  speaks_storing node statement s l (Some x) (o ∷ left) (Stored stamp) i = goes_quiet node statement (Stores s l) i node.floors node.asked_others (Stores _ None) i.suits
  speaks_storing node statement s l (Some x) left Moved i = goes_quiet node statement (Stores s l) i node.floors node.asked_others (Stores s None) i.suits
  speaks_storing node statement s l l' left heard i = stops node statement (Stores s l) i

  speaks_removing : (node : Node) (statement : Bound) (r : Removing) (l l' : Option Loaded) (left : List Write) (heard : Heard) → From node statement (Removes r l)
      → Spoken [] (takes_removing (so_far node (statement ∷ later) (Removes r l)) r l' left heard)
  speaks_removing node statement r l None [] (Stored stamp) i =
      goes_quiet node statement (Removes r l) i node.floors node.asked_others (Closing r.txn (Undo (Some r.rival)) None) i.suits
  speaks_removing node statement r l None (o ∷ left) (Record cell) i = goes_quiet node statement (Removes r l) i node.floors node.asked_others (Removes r _) i.suits
  speaks_removing node statement r l (Some x) (o ∷ left) (Stored stamp) i = goes_quiet node statement (Removes r l) i node.floors node.asked_others (Removes _ None) i.suits
  speaks_removing node statement r l (Some x) left Moved i = goes_quiet node statement (Removes r l) i node.floors node.asked_others (Removes r None) i.suits
  speaks_removing node statement r l l' left heard i = stops node statement (Removes r l) i

  -- it is finished
  speaks_finished : (node : Node) (statement : Bound) (t : Txn) (d : Decision) (c : Option CommitsCell)
      → ((rival : Option ℕ) → d ≡ Undo rival → IsOwn (state_after (setup_of script settings) entries) node.number t rival)
      → From node statement (Closing t d c) → SpeaksAt script settings entries (finished_as d t.tid)
  speaks_finished node statement t Commit c own i = tt
  speaks_finished node statement t (Undo rival) c own i =
      undo_speaks node statement (Closing t (Undo rival) c) t rival (own rival refl) i (λ o. i.suits.1 (i.suits.0 ∙ o))

  ends_at : (d : Decision) (opened : Bool) (statement : Bound) → EndsBy (ends_so d) opened (statement ∷ later) → EndsBy ends_transaction opened (statement ∷ later)
  ends_at d opened statement h o = ends_then d statement (h o)

  finished_none : (d : Decision) (n tid : ℕ) → answers_by n (finished_as d tid ∷ []) ≡ []
  finished_none Commit n tid = refl
  finished_none (Undo rival) n tid = refl

  finished_still : (d : Decision) (n tid : ℕ) (opened : Bool) → opened ≡ opened_after n opened (finished_as d tid ∷ [])
  finished_still Commit n tid opened = refl
  finished_still (Undo rival) n tid opened = refl

  speaks_closing : (node : Node) (statement : Bound) (t : Txn) (d : Decision) (c : Option CommitsCell) (heard : Heard)
      → ((rival : Option ℕ) → d ≡ Undo rival → IsOwn (state_after (setup_of script settings) entries) node.number t rival)
      → From node statement (Closing t d c) → Spoken (says_closing t d c heard) (takes_closing (so_far node (statement ∷ later) (Closing t d c)) t d c heard)
  speaks_closing node statement t d None (Commits x) own i = goes_quiet node statement (Closing t d None) i node.floors node.asked_others (Closing t d (Some x)) i.suits
  speaks_closing node statement t d (Some c) (Stored stamp) own i =
      goes_on_by node statement (Closing t d (Some c)) i (finished_as d t.tid) _ (speaks_finished node statement t d (Some c) own i) refl refl refl
      (finished_none d node.number t.tid)
      (subst (λ o. EndsBy ends_transaction o (statement ∷ later)) (finished_still d node.number t.tid (was_opened node.number entries))
      (ends_at d (was_opened node.number entries) statement i.suits.1))
  speaks_closing node statement t d (Some c) Moved own i = goes_quiet node statement (Closing t d (Some c)) i node.floors node.asked_others (Closing t d None) i.suits
  speaks_closing node statement t d c heard own i = stops node statement (Closing t d c) i

  speaks_ending : (node : Node) (statement : Bound) (tid : ℕ) (told : Answer) (heard : Heard) → From node statement (Ending tid told)
      → Spoken (says_ending (so_far node (statement ∷ later) (Ending tid told)) told heard) (takes_ending (so_far node (statement ∷ later) (Ending tid told)) told heard)
  speaks_ending node statement tid told (Told reply.Ended) i =
      let here : Node = so_far node (statement ∷ later) (Ending tid told) in (
        (
          (
            number_is script entries session here i,
            next_passes script entries session here i (λ next. not (was_opened node.number entries) || ends_transaction next) statement later refl
                (either (was_opened node.number entries) (ends_transaction statement) i.suits),
          ),
          tt,
        ),
        answers_it script entries session here i statement later told (answered here told Outside) refl refl refl refl
            (entry.Answered node.number (statement_number node) told ∷ []) (answered_one node.number (statement_number node) told) tt,
      )
    where
      either : (x y : Bool) → (x ≡ true → y ≡ true) → (not x || y) ≡ true
      either true y h = h refl
      either false y h = refl
  speaks_ending node statement tid told heard i = stops node statement (Ending tid told) i

  -- ---- a recovery

  -- RECOVER is answered where no duty is left
  speaks_recovered : (node : Node) (statement : Bound) (old : Doing) (c : Claimed) (d : ℕ) (tids left : List ℕ) → statement ≡ bound.Recover c.node
      → From node statement old
      → Spoken (says_recovered (so_far node (statement ∷ later) old) c tids left) (next_lost (so_far node (statement ∷ later) old) (record c { left = left }) d tids)
  speaks_recovered node statement old c d [] [] e i =
      subst (λ b. Spoken (says node.number (statement_number node) b (answer.Recovered c.node) ∷ [])
      (answered (so_far node (statement ∷ later) old) (answer.Recovered c.node) Outside)) e
      (says_it node statement old i (answer.Recovered c.node) node.floors node.asked_others Outside tt)
  speaks_recovered node statement old c d [] (next ∷ left) e i = goes_quiet node statement old i node.floors node.asked_others (Recovering _) e
  speaks_recovered node statement old c d (tid ∷ tids) left e i = goes_quiet node statement old i node.floors node.asked_others (ReadingLog _ _) e

  speaks_recovering : (node : Node) (statement : Bound) (c : Claimed) (left : List ℕ) (heard : Heard) → From node statement (Recovering c)
      → Spoken (says_recovering (so_far node (statement ∷ later) (Recovering c)) c left heard)
      (takes_recovering (so_far node (statement ∷ later) (Recovering c)) c left heard)
  speaks_recovering node statement c (d ∷ left) (Told (reply.Orphaned tids)) i = speaks_recovered node statement (Recovering c) c d tids left i.suits i
  speaks_recovering node statement c left heard i = stops node statement (Recovering c) i

  speaks_log : (node : Node) (statement : Bound) (c : Claimed) (o : Lost) (heard : Heard) → From node statement (ReadingLog c o)
      → Spoken [] (takes_log (so_far node (statement ∷ later) (ReadingLog c o)) c o heard)
  speaks_log node statement c o (Log None) i = goes_quiet node statement (ReadingLog c o) i node.floors node.asked_others (Finishing c o false None) i.suits
  speaks_log node statement c o (Log (Some log)) i = by log.entry.flag
    where
      by : (f : Flag) → Spoken [] (by_flag (so_far node (statement ∷ later) (ReadingLog c o)) c o log f)
      by flag.Trying = goes_quiet node statement (ReadingLog c o) i node.floors node.asked_others (Stripping c o log log.entry.writes None) i.suits
      by flag.Decided = goes_quiet node statement (ReadingLog c o) i node.floors node.asked_others (Finishing c o true None) i.suits
      by flag.Undone = goes_quiet node statement (ReadingLog c o) i node.floors node.asked_others (Finishing c o false None) i.suits
  speaks_log node statement c o heard i = stops node statement (ReadingLog c o) i

  speaks_stripping : (node : Node) (statement : Bound) (c : Claimed) (o : Lost) (log : LogCell) (all keys : List Key) (l l' : Option Loaded) (heard : Heard)
      → From node statement (Stripping c o log all l)
      → Spoken [] (takes_stripping (so_far node (statement ∷ later) (Stripping c o log all l)) c o log keys l' heard)
  speaks_stripping node statement c o log all [] l None (Stored stamp) i =
      goes_quiet node statement (Stripping c o log all l) i node.floors node.asked_others (Finishing c o false None) i.suits
  speaks_stripping node statement c o log all (key ∷ keys) l None (Record cell) i = by (is_written o.tid cell.versions)
    where
      here : Node
      here = so_far node (statement ∷ later) (Stripping c o log all l)

      by : (b : Bool)
          → Spoken [] (if b then with_doing here (Stripping c o log (key ∷ keys) (Some (record { key = key; stamp = cell.stamp; versions = cell.versions })))
          else with_doing here (Stripping c o log keys None))
      by true = goes_quiet node statement (Stripping c o log all l) i node.floors node.asked_others (Stripping c o log (key ∷ keys) _) i.suits
      by false = goes_quiet node statement (Stripping c o log all l) i node.floors node.asked_others (Stripping c o log keys None) i.suits
  speaks_stripping node statement c o log all (key ∷ keys) l (Some x) (Stored stamp) i =
      goes_quiet node statement (Stripping c o log all l) i node.floors node.asked_others (Stripping c o log keys None) i.suits
  speaks_stripping node statement c o log all keys l (Some x) Moved i =
      goes_quiet node statement (Stripping c o log all l) i node.floors node.asked_others (Stripping c o log keys None) i.suits
  speaks_stripping node statement c o log all keys l l' heard i = stops node statement (Stripping c o log all l) i

  -- a transaction of a vanished node ends without its node's statement
  lost_speaks : (committed : Bool) (tid : ℕ) → IsLost (state_after (setup_of script settings) entries) tid → SpeaksAt script settings entries (finished_so committed tid)
  lost_speaks true tid lost = tt
  lost_speaks false tid lost = λ h held stays none. absurd (both_ways (is_lost h.phase) (second h.opened (is_lost h.phase) stays) (lost h held))
    where
      second : (x y : Bool) → (x && not y) ≡ true → y ≡ false
      second x y e = grind arith

  lost_none : (committed : Bool) (n tid : ℕ) → answers_by n (finished_so committed tid ∷ []) ≡ []
  lost_none true n tid = refl
  lost_none false n tid = refl

  speaks_finishing : (node : Node) (statement : Bound) (c : Claimed) (o : Lost) (committed : Bool) (x : Option CommitsCell) (heard : Heard)
      → IsLost (state_after (setup_of script settings) entries) o.tid → From node statement (Finishing c o committed x)
      → Spoken (says_finishing o committed x heard) (takes_finishing (so_far node (statement ∷ later) (Finishing c o committed x)) c o committed x heard)
  speaks_finishing node statement c o committed None (Commits x) lost i = by (has x.finished o.tid)
    where
      here : Node
      here = so_far node (statement ∷ later) (Finishing c o committed None)

      by : (b : Bool) → Spoken [] (if b then with_doing here (EndingLost c o) else with_doing here (Finishing c o committed (Some x)))
      by true = goes_quiet node statement (Finishing c o committed None) i node.floors node.asked_others (EndingLost c o) i.suits
      by false = goes_quiet node statement (Finishing c o committed None) i node.floors node.asked_others (Finishing c o committed (Some x)) i.suits
  speaks_finishing node statement c o committed (Some x) (Stored stamp) lost i =
      goes_on_by node statement (Finishing c o committed (Some x)) i (finished_so committed o.tid) _ (lost_speaks committed o.tid lost) refl refl refl
      (lost_none committed node.number o.tid) i.suits
  speaks_finishing node statement c o committed (Some x) Moved lost i =
      goes_quiet node statement (Finishing c o committed (Some x)) i node.floors node.asked_others (Finishing c o committed None) i.suits
  speaks_finishing node statement c o committed x heard lost i = stops node statement (Finishing c o committed x) i

  speaks_end_lost : (node : Node) (statement : Bound) (c : Claimed) (o : Lost) (heard : Heard) → From node statement (EndingLost c o)
      → Spoken (says_end_lost (so_far node (statement ∷ later) (EndingLost c o)) c o heard)
      (takes_end_lost (so_far node (statement ∷ later) (EndingLost c o)) c o heard)
  speaks_end_lost node statement c o (Told reply.Ended) i = speaks_recovered node statement (EndingLost c o) c o.node o.others c.left i.suits i
  speaks_end_lost node statement c o heard i = stops node statement (EndingLost c o) i

-- ---- a request of the node

module _ (R : Txn → List Fact → Reads → Type 0) (layout : Layout) (script : Script) (settings : Settings) (commits : List Committed) (w : World) (state : SiState)
    (entries : List Entry) (session : Session) where
  abbrev Spoken_at : Node → Heard → Answer → Type 0
  Spoken_at node heard told =
      Along (SpeaksAt script settings) entries (says_at settings script.catalog commits node heard told)
      × SpeakIs script (entries ++ says_at settings script.catalog commits node heard told) session (takes settings script.catalog node heard told)

  speaks_doing : (node : Node) (statement : Bound) (later : List Bound) (doing : Doing) (heard : Heard) (told : Answer)
      → Before R layout (setup_of script settings) settings w state entries node.number (so_far node (statement ∷ later) doing)
      → MayMean settings script.catalog (so_far node (statement ∷ later) doing) heard told
      → SpeakIs script entries session (so_far node (statement ∷ later) doing)
      → Spoken_at (so_far node (statement ∷ later) doing) heard told
  speaks_doing node statement later Outside heard told b m i =
      speaks_outside script settings commits entries session later node statement (course_outside statement) refl heard i
  speaks_doing node statement later (Noted seen) heard told b m i =
      speaks_noted script settings commits entries session later node statement seen b.node_is.statement heard i
  speaks_doing node statement later (Drawing seen) heard told b m i = speaks_drawing script settings commits entries session later node statement seen heard i
  speaks_doing node statement later (Bringing seen low) heard told b m i =
      speaks_bringing script settings commits entries session later node statement seen low heard i
  speaks_doing node statement later (Inside t) heard told b m i =
      speaks_inside script settings commits entries session later node statement t (course_in script.catalog t.stage statement) refl heard told
      (own_live R layout (setup_of script settings) settings w state entries node.number (so_far node (statement ∷ later) (Inside t)) b t [] b.node_is.phase.0) m i
  speaks_doing node statement later (Reading t reads) heard told b m i =
      speaks_reading script settings commits entries session later node statement (Reading t reads) t reads heard told i.suits i m
  speaks_doing node statement later (Trying t) heard told b m i =
      speaks_trying script settings commits entries session later node statement t heard
      (own_live R layout (setup_of script settings) settings w state entries node.number (so_far node (statement ∷ later) (Trying t)) b t [] b.node_is.phase.0) i
  speaks_doing node statement later (Stores s l) heard told b m i =
      speaks_storing script settings commits entries session later node statement s l l s.left heard i
  speaks_doing node statement later (Removes r l) heard told b m i =
      speaks_removing script settings commits entries session later node statement r l l r.left heard i
  speaks_doing node statement later (Closing t d c) heard told b m i =
      speaks_closing script settings commits entries session later node statement t d c heard
      (λ rival e.
      own_closing R layout (setup_of script settings) settings w state entries node.number (so_far node (statement ∷ later) (Closing t d c)) b t rival c
      (b.node_is.phase ∙ ap (λ x. protocol.Closing t x c) e)) i
  speaks_doing node statement later (Ending tid said_so) heard told b m i =
      speaks_ending script settings commits entries session later node statement tid said_so heard i
  speaks_doing node statement later (Recovering c) heard told b m i =
      speaks_recovering script settings commits entries session later node statement c c.left heard i
  speaks_doing node statement later (ReadingLog c o) heard told b m i = speaks_log script settings commits entries session later node statement c o heard i
  speaks_doing node statement later (Stripping c o log keys l) heard told b m i =
      speaks_stripping script settings commits entries session later node statement c o log keys keys l l heard i
  speaks_doing node statement later (Finishing c o committed x) heard told b m i =
      speaks_finishing script settings commits entries session later node statement c o committed x heard
      (orphan_lost R layout (setup_of script settings) settings w state entries node.number (so_far node (statement ∷ later) (Finishing c o committed x)) b
      b.node_is.recovery.0 (orphan_of o) committed x b.node_is.recovery.1) i
  speaks_doing node statement later (EndingLost c o) heard told b m i =
      speaks_end_lost script settings commits entries session later node statement c o heard i
  speaks_doing node statement later (Stopped nodes) heard told b m i =
      goes_quiet script settings commits entries session later node statement (Stopped nodes) i node.floors node.asked_others (Stopped nodes) tt

  speaks_todo : (node : Node) (todo : List Bound) (heard : Heard) (told : Answer)
      → Before R layout (setup_of script settings) settings w state entries node.number (record node { todo = todo })
      → MayMean settings script.catalog (record node { todo = todo }) heard told → SpeakIs script entries session (record node { todo = todo })
      → Spoken_at (record node { todo = todo }) heard told
  speaks_todo node [] heard told b m i = (tt, subst (λ x. SpeakIs script x session (record node { todo = [] })) (sym (append-nil entries)) i)
  speaks_todo node (statement ∷ later) heard told b m i = speaks_doing node statement later node.doing heard told b m i

  -- what a node says at the reply to its request speaks the script
  pub speaks_on : (n : ℕ) (node : Node) (heard : Heard) (told : Answer) → Before R layout (setup_of script settings) settings w state entries n node
      → MayMean settings script.catalog node heard told → SpeakIs script entries session node
      → Along (SpeaksAt script settings) entries (says_at settings script.catalog commits node heard told)
      × SpeakIs script (entries ++ says_at settings script.catalog commits node heard told) session (takes settings script.catalog node heard told)
  speaks_on n node heard told b m i =
      speaks_todo node node.todo heard told
      (subst (λ k. Before R layout (setup_of script settings) settings w state entries k node) (sym b.node_is.number) b) m i
