-- The one request of a statement without reads is answered.
use Rattle.std.proofs.Common.{◌≡◌, ℕ, suc, ◌+◌, Bool, true, false, inl, List, [], ◌∷◌, ◌++◌, length, map, drop, Option, Some, Result, Ok, Err, refl, sym, ap, ◌∙◌, subst, arith}
use Rattle.std.specs.Prelude.{slice_get, if◌then◌else◌}
use Rattle.std.proofs.lemmas.List.{length-map}
use Rattle.tl_base.specs.declared.memory.NoMemory.{NoMemory}
use Rattle.tl_descriptor.specs.Tids.{TidSet}
use Rattle.tl_values.specs.declared.value.Value.{Value}
use Rattle.tl_schema.specs.declared.access.Access.{Access}
use Rattle.tl_schema.specs.declared.catalog.Catalog.{Catalog}
use Rattle.tl_schema.specs.declared.catalog.Table.{Table}
use Rattle.tl_manager.specs.State.{opening_copy}
use Rattle.tl_manager.specs.declared.mark.Mark.TheVariants as mark
use Rattle.tl_manager.specs.declared.request.ManagerReply.TheVariants as manager
use Rattle.tl_manager.specs.declared.request.Reply.{Reply}
use Rattle.tl_write.specs.declared.write.Write.{Write}
use Rattle.tl_isolation.specs.declared.bound.Bound.{Bound}
use Rattle.tl_isolation.specs.declared.bound.Bound.TheVariants as bound
use Rattle.tl_isolation.specs.declared.entry.Answer.{Answer}
use Rattle.tl_isolation.specs.declared.entry.Answer.TheVariants as answer
use Rattle.tl_isolation.specs.declared.entry.Entry.{Entry}
use Rattle.tl_isolation.specs.declared.entry.Entry.TheVariants as entry
use Rattle.tl_isolation.specs.declared.entry.Said.{Said}
use Rattle.tl_isolation.specs.declared.state.Commit.{Commit}
use Rattle.tl_isolation.specs.State.{is_refusal}
use Rattle.tl_isolation.specs.Tables.{table_of}
use Rattle.tl_plan.specs.Access.{accesses_of}
use Rattle.tl_plan.specs.Plan.{numbers_of}
use Rattle.tl_algebra.specs.declared.condition.Condition.{Condition}
use Rattle.tl_protocol.specs.World.{Stage, Fresh, Opened, Answering, Txn}
use Rattle.tl_journal.specs.Ask.{Heard, Told}
use Rattle.tl_journal.specs.Asks.{Course, ToIdle, ToCommit, ToGiveUp, course_in, reading_course, statement_course}
use Rattle.tl_journal.specs.Memory.{unsaid}
use Rattle.tl_protocol.specs.Move.{is_empty}
use Rattle.tl_journal.specs.Node.{Doing, Inside, Node, Outside}
use Rattle.tl_journal.specs.Reads as law
use Rattle.tl_journal.specs.Reads.{all_reads, begin_reads, edit_reads, reads_of, tables_read}
use Rattle.tl_journal.specs.Says.{says_at, says_idle, says_inside}
use Rattle.tl_journal.specs.Strange.{is_strange_to}
use Rattle.tl_journal.specs.Takes.{MayMean, MeansInside, first_rows, tables_seen, takes, takes_inside, with_doing}
use Rattle.tl_journal.specs.Takes as law_takes
use Rattle.tl_journal.proofs.StrangeStops.{idles_runs}
use Rattle.tl_txn.specs.Doing.{txn_in}
use Rattle.tl_txn.specs.declared.phase.Open.{Open}
use Rattle.tl_txn.specs.declared.phase.Phase.{Phase}
use Rattle.tl_txn.specs.declared.phase.Phase.TheVariants as phase
use Rattle.tl_txn.specs.declared.txn.Txn.{Txn as TheTxn}
use Rattle.tl_node.specs.After.{ComesTo, Says, at_todo, statement_in}
use Rattle.tl_node.specs.Begun.{AnswersOn, SaysOn}
use Rattle.tl_node.specs.Leaves.{learns}
use Rattle.tl_node.specs.ReadOn.{Idles, IdlesNext, SaysFound}
use Rattle.tl_node.specs.Saying.{AreFound, SaysNext}
use Rattle.tl_node.specs.View.{StandsFor, stage_of, value_of}
use Rattle.tl_node.specs.Fits.{TakesStatements}
use Rattle.tl_node.specs.declared.kept.Core.{Core}
use Rattle.tl_node.specs.declared.work.Next.{Next}
use Rattle.tl_node.specs.declared.work.Next.TheVariants as next
use Rattle.tl_node.specs.declared.work.Stage.{Stage as TheStage}
use Rattle.tl_node.specs.declared.work.Stage.TheVariants as stage
use Rattle.tl_node.specs.declared.work.Work.{Work}
use Rattle.tl_node.proofs.Arrives.{Arrives, answered_at, answers_on}
use Rattle.tl_node.proofs.Found.{first_left}
use Rattle.tl_node.proofs.Saying.{entry_is}
use Rattle.tl_node.proofs.NotStrange.{not_strange_at}

-- the law says the statement, once its manager's low-water mark is known
module _ (old : Core) (statement : Bound) (later : List Bound) (t : Txn) (floor : TidSet) (e : course_in old.catalog t.stage statement ≡ ToIdle) where
  abbrev pub At : Node
  At = at_todo old (statement ∷ later) (Inside t)

  pub idle_comes : IdlesNext (learns old floor) At (Told (manager.FloorIs floor)) statement later t
  idle_comes =
      record {
        n_is = refl;
        number_is = refl;
        answers_are = refl;
        course_is = e;
        takes_is = λ told. ap (λ (c : Course). takes_inside old.layout old.catalog At statement t c (Told (manager.FloorIs floor)) told) e;
        says_is = λ commits mark told. ap (λ (c : Course). says_inside old.layout At statement t c (Told (manager.FloorIs floor)) told) e ∙ says_so statement mark told;
        means_is = λ told h. subst (λ (c : Course). MeansInside old.layout old.catalog statement t c (Told (manager.FloorIs floor)) told) (sym e) h;
        not_strange =
            not_strange_at old.layout old.catalog At (Told (manager.FloorIs floor)) _
            (ap (λ (c : Course). takes_inside old.layout old.catalog At statement t c (Told (manager.FloorIs floor)) answer.Begun) e)
            (idles_runs old.catalog (at_todo (learns old floor) (statement ∷ later) (Inside t)) statement t (begin_reads (all_reads old.catalog statement)) answer.Begun) refl;
        no_end = refl;
        suits = λ suits. suits;
      }
    where
      says_so : (s : Bound) (other : TidSet) (told : Answer) → says_inside old.layout At s t ToIdle (Told (manager.FloorIs floor)) told ≡ says_inside old.layout At s t ToIdle (Told (manager.FloorIs other)) told
      says_so bound.Begin other told = refl
      says_so (bound.Recover gone) other told = refl
      says_so s other told = refl

-- ---- BEGIN and RECOVER are answered

abbrev pub IsNested : Bound → Type 0
IsNested bound.Begin = Unit {0}
IsNested (bound.Recover gone) = Unit {0}
IsNested other = ⊥

module _ (old new : Core) (n : Node) (sound : Heard) (told : Reply) (later : List Bound) (said : TheStage) (live : Open) (so_far : Phase) (is : so_far ≡ phase.Ready live) where
  nested : (statement : Bound) (w : Work) (s : Said) → drop (length old.answers.items) old.statements ≡ statement ∷ later → SaysOn old answer.Nested so_far said new w s
      → takes old.layout old.catalog n sound answer.Nested ≡ answered_at old later answer.Nested (Inside (txn_in (stage_of said) live))
      → MayMean old.layout old.catalog n sound answer.Nested → is_strange_to old.layout old.catalog n sound ≡ false
      → ((commits : List Commit) → says_at old.layout old.catalog commits n sound answer.Nested
      ≡ [] ++ entry.Said n.number (statement_in n.todo) (record { statement = length old.answers.items + 1; answer = answer.Nested; answered = true }) ∷ [])
      → ComesTo old.layout old.catalog n sound told new mark.Quiet (Ok (next.Says w s))
  nested statement w s todo_is on takes_is means not_strange entries =
      let a : Arrives old.layout old.catalog new w (answered_at old later answer.Nested (Inside (txn_in (stage_of said) live))) =
      answers_on old new answer.Nested statement later said live so_far w todo_is on.rest on.answers is on.opens in
      subst (λ (x : Said). Says old.layout old.catalog n sound told mark.Quiet new w x) (sym on.said_is)
      (record {
        fits = a.fits;
        not_strange = not_strange;
        so = λ suits. record {
          stands = subst (λ (m : Node). StandsFor old.layout old.catalog m (value_of new w)) (sym takes_is) a.stands;
          means = means;
          entries = entries;
        };
      })

  nested_says : (statement : Bound) (w : Work) (s : Said) → IsNested statement → drop (length old.answers.items) old.statements ≡ statement ∷ later
      → IdlesNext old n sound statement later (txn_in (stage_of said) live) → SaysOn old answer.Nested so_far said new w s
      → ComesTo old.layout old.catalog n sound told new mark.Quiet (Ok (next.Says w s))
  nested_says bound.Begin w s h todo_is nexts on =
      nested bound.Begin w s todo_is on (nexts.takes_is answer.Nested) (nexts.means_is answer.Nested tt) nexts.not_strange
      (λ commits. nexts.says_is commits opening_copy answer.Nested ∙ entry_is old new n sound told bound.Begin later (record { statement = length old.answers.items + 1; answer = answer.Nested; answered = true }) nexts.n_is nexts.number_is)
  nested_says (bound.Recover gone) w s h todo_is nexts on =
      nested (bound.Recover gone) w s todo_is on (nexts.takes_is answer.Nested) (nexts.means_is answer.Nested tt) nexts.not_strange
      (λ commits. nexts.says_is commits opening_copy answer.Nested ∙ entry_is old new n sound told (bound.Recover gone) later (record { statement = length old.answers.items + 1; answer = answer.Nested; answered = true }) nexts.n_is nexts.number_is)
  nested_says other w s h todo_is nexts on = absurd h

-- ---- another statement is said

to_statement : (catalog : Catalog) (said : TheStage) (statement : Bound) → course_in catalog (stage_of said) statement ≡ ToIdle → TakesStatements (stage_of said)
to_statement catalog stage.Fresh statement e = tt
to_statement catalog stage.Opened statement e = tt
to_statement catalog (stage.Answering told) statement e = by (is_refusal told) e
  where
    by : (b : Bool) → (if b then ToGiveUp else ToCommit) ≡ ToIdle → ⊥
    by true e = cc
    by false e = cc

-- what is said doesn't depend on what its node does
pub said_alike : (catalog : Catalog) (node : Node) (d : Doing) (statement : Bound) (t : Txn) (rows : List (List (List Value))) (told : Answer)
    → law_takes.said catalog (with_doing node d) statement t rows told ≡ law_takes.said catalog node statement t rows told
said_alike catalog node d statement t rows told = by t.stage
  where
    by : (s : Stage) → law_takes.said catalog (with_doing node d) statement (record t { stage = s }) rows told ≡ law_takes.said catalog node statement (record t { stage = s }) rows told
    by Fresh = refl
    by Opened = refl
    by (Answering before) = refl

-- a SELECT or a change that reads nothing
pub record SaysIdle (catalog : Catalog) (statement : Bound) (own : List Write) : Type 0 where
  pub tables : List (List (List Value))
  pub are : AreFound catalog statement own tables []
  pub tables_are : tables ≡ tables_read (begin_reads (all_reads catalog statement))

none_seen : (catalog : Catalog) (numbers : List ℕ) (accesses : List Access) (own : List Write) → length accesses ≡ length numbers → reading_course (begin_reads (reads_of numbers accesses)) ≡ ToIdle
    → tables_seen catalog numbers own (tables_read (begin_reads (reads_of numbers accesses))) ≡ tables_seen catalog numbers own []
none_seen catalog [] accesses own f e = refl
none_seen catalog (number ∷ numbers) [] own f e = absurd (omega (arith, f))
none_seen catalog (number ∷ numbers) (access ∷ accesses) own f e = cc

one_each : (tables : List Table) (offset : ℕ) (where_ : Option Condition) → length (accesses_of tables offset where_) ≡ length tables
one_each [] offset where_ = refl
one_each (table ∷ tables) offset where_ = ap (λ (n : ℕ). suc n) (one_each tables (offset + length table.columns) where_)

none_changed : (reads : List law.Read) → reading_course (begin_reads (reads ∷ [])) ≡ ToIdle → first_rows (tables_read (begin_reads (reads ∷ []))) ≡ []
none_changed [] e = refl
none_changed (read ∷ reads) e = cc

pub idle_found : (catalog : Catalog) (said : TheStage) (statement : Bound) (own : List Write) → course_in catalog (stage_of said) statement ≡ ToIdle → (IsNested statement → ⊥)
    → TakesStatements (stage_of said) → statement_course catalog statement ≡ ToIdle → SaysIdle catalog statement own
idle_found catalog said (bound.Select query) own e other takes c =
    record {
      tables = tables_read (begin_reads (all_reads catalog (bound.Select query)));
      are =
          none_seen catalog (numbers_of query) (accesses_of (map (table_of catalog) (numbers_of query)) 0 query.filter) own
          (one_each (map (table_of catalog) (numbers_of query)) 0 query.filter ∙ length-map (numbers_of query) (table_of catalog)) c;
      tables_are = refl;
    }
idle_found catalog said (bound.Change edit) own e other takes c =
    record { tables = tables_read (begin_reads (all_reads catalog (bound.Change edit))); are = none_changed (edit_reads catalog edit) c; tables_are = refl }
idle_found catalog said bound.Begin own e other takes c = absurd (other tt)
idle_found catalog said (bound.Recover gone) own e other takes c = absurd (other tt)
idle_found catalog said bound.Commit own e other takes c = cc
idle_found catalog said bound.Rollback own e other takes c = cc

some_is : (a b : Bound) → ◌≡◌ {A = Option Bound} (Some a) (Some b) → a ≡ b
some_is a b e = cc

course_of : (catalog : Catalog) (said : TheStage) (statement : Bound) → TakesStatements (stage_of said) → course_in catalog (stage_of said) statement ≡ statement_course catalog statement
course_of catalog stage.Fresh statement takes = refl
course_of catalog stage.Opened statement takes = refl
course_of catalog (stage.Answering told) statement takes = absurd takes

module _ (old new : Core) (txn : TheTxn) (said : TheStage) where
  -- as the law says it
  idle_says : (n : Node) (sound : Heard) (statement : Bound) (later : List Bound) (live : Open) → (IsNested statement → ⊥) → statement_course old.catalog statement ≡ ToIdle
      → IdlesNext old n sound statement later (txn_in (stage_of said) live)
      → SaysNext old n sound statement later (txn_in (stage_of said) live) (tables_read (begin_reads (all_reads old.catalog statement)))
  idle_says n sound (bound.Select query) later live other c nexts =
      record {
        todo_is = nexts.n_is;
        number_is = nexts.number_is;
        answers_are = nexts.answers_are;
        takes_is = λ told. nexts.takes_is told
            ∙ said_alike old.catalog (at_todo old (bound.Select query ∷ later) Outside) (Inside (txn_in (stage_of said) live)) (bound.Select query) (txn_in (stage_of said) live)
            (tables_read (begin_reads (all_reads old.catalog (bound.Select query)))) told;
        says_is = λ commits told. nexts.says_is commits opening_copy told;
        means_is = nexts.means_is;
        not_strange = nexts.not_strange;
        no_end = nexts.no_end;
        suits = nexts.suits;
      }
  idle_says n sound (bound.Change edit) later live other c nexts =
      record {
        todo_is = nexts.n_is;
        number_is = nexts.number_is;
        answers_are = nexts.answers_are;
        takes_is = λ told. nexts.takes_is told
            ∙ said_alike old.catalog (at_todo old (bound.Change edit ∷ later) Outside) (Inside (txn_in (stage_of said) live)) (bound.Change edit) (txn_in (stage_of said) live)
            (tables_read (begin_reads (all_reads old.catalog (bound.Change edit)))) told;
        says_is = λ commits told. nexts.says_is commits opening_copy told;
        means_is = nexts.means_is;
        not_strange = nexts.not_strange;
        no_end = nexts.no_end;
        suits = nexts.suits;
      }
  idle_says n sound bound.Begin later live other c nexts = absurd (other tt)
  idle_says n sound (bound.Recover gone) later live other c nexts = absurd (other tt)
  idle_says n sound bound.Commit later live other c nexts = cc
  idle_says n sound bound.Rollback later live other c nexts = cc

  -- a SELECT or a change without reads is said by no rows
  pub idles_said : (present : Bound) → slice_get old.statements (length old.answers.items) ≡ Some present → (IsNested present → ⊥) → (result : Result Next NoMemory)
      → SaysFound old txn said [] new result → Idles old txn said new result
  idles_said present here other result found = λ n sound told statement later live is todo_is nexts.
      let same : statement ≡ present = some_is statement present (sym (first_left (length old.answers.items) old.statements statement later todo_is) ∙ here) in
      let nested : IsNested statement → ⊥ = λ h. other (subst IsNested same h) in
      let takes : TakesStatements (stage_of said) = to_statement old.catalog said statement nexts.course_is in
      let c : statement_course old.catalog statement ≡ ToIdle = sym (course_of old.catalog said statement takes) ∙ nexts.course_is in
      let idle : SaysIdle old.catalog statement live.own = idle_found old.catalog said statement live.own nexts.course_is nested takes c in
      found n sound told statement later live (tables_read (begin_reads (all_reads old.catalog statement))) is takes todo_is (idle_says n sound statement later live nested c nexts)
      (subst (λ (tables : List (List (List Value))). AreFound old.catalog statement live.own tables []) idle.tables_are idle.are)

  unsaid_nested : (statement : Bound) → IsNested statement → (later : List Bound) (live : Open) (commits : List Commit)
      → unsaid (says_idle (at_todo old (statement ∷ later) (Inside (txn_in (stage_of said) live))) statement (txn_in (stage_of said) live) (Told (manager.FloorIs opening_copy)) answer.Begun) ≡ []
  unsaid_nested bound.Begin h later live commits = refl
  unsaid_nested (bound.Recover gone) h later live commits = refl
  unsaid_nested other h later live commits = absurd h

  -- BEGIN and RECOVER are answered
  pub idles_nested : (present : Bound) → slice_get old.statements (length old.answers.items) ≡ Some present → IsNested present → (result : Result Next NoMemory)
      → AnswersOn old answer.Nested txn.phase said new result → Idles old txn said new result
  idles_nested present here nested (Ok (next.Says w s)) on = λ n sound told statement later live is todo_is nexts.
      let same : present ≡ statement = some_is present statement (sym here ∙ first_left (length old.answers.items) old.statements statement later todo_is) in
      nested_says old new n sound told later said live txn.phase is statement w s (subst IsNested same nested) todo_is nexts on
  idles_nested present here nested (Ok (next.Goes w)) on = absurd on
  idles_nested present here nested (Ok next.Strange) on = absurd on
  idles_nested present here nested (Err e) on = λ n sound told statement later live is todo_is nexts.
      let same : present ≡ statement = some_is present statement (sym here ∙ first_left (length old.answers.items) old.statements statement later todo_is) in (
        record { left = ap (λ (todo : List Bound). is_empty todo) nexts.n_is; answers = on.answers ∙ sym nexts.answers_are },
        record { no_end = nexts.no_end; entries = λ strange commits. inl (ap (λ (entries : List Entry). unsaid entries) (nexts.says_is commits opening_copy answer.Begun) ∙ unsaid_nested statement (subst IsNested same nested) later live commits) },
      )
