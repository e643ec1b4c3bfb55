-- A read is done, or the one request of a statement without reads.
use Rattle.std.specs.Prelude.{◌≡◌, ◌+◌, Bool, true, false, List, [], ◌∷◌, Some, Result, Ok, Err, drop, length, map, slice_get}
use Rattle.tl_base.specs.declared.memory.NoMemory.{NoMemory}
use Rattle.tl_descriptor.specs.Tids.{TidSet}
use Rattle.tl_manager.specs.declared.mark.Mark.TheVariants as mark
use Rattle.tl_manager.specs.declared.request.ManagerReply.TheVariants as manager
use Rattle.tl_manager.specs.declared.request.Reply.{Reply}
use Rattle.tl_values.specs.declared.value.Value.{Value}
use Rattle.tl_write.specs.Change.{number_of}
use Rattle.tl_isolation.specs.declared.bound.Bound.{Bound}
use Rattle.tl_isolation.specs.declared.bound.Bound.TheVariants as bound
use Rattle.tl_isolation.specs.declared.entry.Answer.{Answer}
use Rattle.tl_isolation.specs.declared.state.Commit.{Commit}
use Rattle.tl_plan.specs.Plan.{numbers_of}
use Rattle.tl_protocol.specs.World.{Txn}
use Rattle.tl_journal.specs.Ask.{Heard, Told}
use Rattle.tl_journal.specs.Asks.{ToIdle, course_in}
use Rattle.tl_journal.specs.Memory.{is_ending}
use Rattle.tl_journal.specs.Node.{Inside, Node}
use Rattle.tl_journal.specs.Reads.{Reads, after_read, all_reads, begin_reads, next_table, read_of, reads_of}
use Rattle.tl_journal.specs.Says.{says_at, says_idle, says_read}
use Rattle.tl_journal.specs.Strange.{is_strange_to}
use Rattle.tl_journal.specs.Takes.{MayMean, MeansIdle, MeansRead, goes_on, idles, takes}
use Rattle.tl_txn.specs.Doing.{txn_in}
use Rattle.tl_txn.specs.declared.phase.Open.{Open}
use Rattle.tl_txn.specs.declared.phase.Phase.{Phase}
use Rattle.tl_txn.specs.declared.phase.Phase.TheVariants as phase
use Rattle.tl_txn.specs.declared.txn.Txn.{Txn as TheTxn}
use Rattle.tl_node.specs.After.{ComesTo, at_todo}
use Rattle.tl_node.specs.Fits.{OwnSuitsNode, OwnSuitsStatement, TakesStatements}
use Rattle.tl_node.specs.Leaves.{IsUnanswered, learns}
use Rattle.tl_node.specs.NextRead.{IsNextRead}
use Rattle.tl_node.specs.Saying.{AreFound, SaysNext, all_rows}
use Rattle.tl_node.specs.View.{stage_of}
use Rattle.tl_node.specs.declared.kept.Core.{Core}
use Rattle.tl_node.specs.declared.work.Course.TheVariants as way
use Rattle.tl_node.specs.declared.work.Next.{Next}
use Rattle.tl_node.specs.declared.work.Next.TheVariants as next
use Rattle.tl_node.specs.declared.work.Reading.{Reading as TheReading}
use Rattle.tl_node.specs.declared.work.Stage.{Stage}
use Rattle.tl_node.specs.declared.work.Work.{Work}
use Rattle.tl_node.specs.declared.work.Work.TheVariants as work

-- what is left behind the read in hand, which found these rows
abbrev pub read_behind : Bound → TheReading → List (List Value) → Reads
read_behind (bound.Select query) reading rows =
    next_table (reads_of (drop (reading.at + 1) (numbers_of query)) (drop (reading.at + 1) reading.accesses)) rows reading.found
read_behind (bound.Change edit) reading rows =
    after_read (record { left = []; later = []; rows = all_rows reading.found; earlier = [] })
    (map (read_of (number_of edit)) (drop (reading.at + 1) reading.accesses)) rows
read_behind statement reading rows = record { left = []; later = []; rows = rows; earlier = [] }

-- by the law the read in hand is done so
pub record IsReadSo (core : Core) (n : Node) (sound : Heard) (reading : TheReading) (so_far : Phase) (said : Stage) : Type 0 where
  pub statement : Bound
  pub later : List Bound
  pub live : Open
  pub todo_is : drop (length core.answers.items) core.statements ≡ statement ∷ later
  pub phase_is : so_far ≡ phase.Ready live
  pub n_is : n ≡ at_todo core (statement ∷ later) n.doing
  pub takes_is : (told : Answer) → takes core.layout core.catalog n sound told
      ≡ goes_on core.catalog (at_todo core (statement ∷ later) n.doing) statement (txn_in (stage_of said) live) (read_behind statement reading live.rows) told
  pub says_is : (commits : List Commit) (told : Answer) → says_at core.layout core.catalog commits n sound told
      ≡ says_read (at_todo core (statement ∷ later) n.doing) statement (txn_in (stage_of said) live) (Some (read_behind statement reading live.rows)) told
  pub means_is : (told : Answer) → MeansRead core.catalog statement (txn_in (stage_of said) live) (Some (read_behind statement reading live.rows)) told
      → MayMean core.layout core.catalog n sound told
  pub not_strange : is_strange_to core.layout core.catalog n sound ≡ false
  pub no_end : is_ending n.doing ≡ false
  pub suits : OwnSuitsNode core.catalog n → OwnSuitsStatement core.catalog statement live.own

-- the next read is begun
pub record ReadsBy (statement : Bound) (txn : TheTxn) (said : Stage) (reading : TheReading) (w : Work) : Type 0 where
  pub after : TheTxn
  pub begins : IsNextRead statement reading txn after
  pub w_is : w ≡ work.Runs (record { txn = after; stage = said; course = way.Reads reading })

abbrev pub ReadsFurther : Core → TheTxn → Stage → TheReading → Result Next NoMemory → Type 0
ReadsFurther core txn said reading (Ok (next.Goes w)) =
    (statement : Bound) → slice_get core.statements (length core.answers.items) ≡ Some statement → ReadsBy statement txn said reading w
ReadsFurther core txn said reading (Ok other) = ⊥
ReadsFurther core txn said reading (Err e) = Unit {0}

-- where the law says the statement next, by tables that these rows were found of, it comes to that
abbrev pub SaysFound : Core → TheTxn → Stage → List (List (List Value)) → Core → Result Next NoMemory → Type 0
SaysFound old txn said found new result =
    (n : Node) (sound : Heard) (told : Reply) (statement : Bound) (later : List Bound) (live : Open) (tables : List (List (List Value)))
    → txn.phase ≡ phase.Ready live → TakesStatements (stage_of said) → drop (length old.answers.items) old.statements ≡ statement ∷ later
    → SaysNext old n sound statement later (txn_in (stage_of said) live) tables → AreFound old.catalog statement live.own tables found
    → ComesTo old.layout old.catalog n sound told new mark.Quiet result

-- BEGIN and RECOVER are answered in a transaction that is open
abbrev pub is_nested : Bound → Bool
is_nested bound.Begin = true
is_nested (bound.Recover gone) = true
is_nested statement = false

-- by the law a statement without reads is said next
pub record IdlesNext (core : Core) (n : Node) (sound : Heard) (statement : Bound) (later : List Bound) (t : Txn) : Type 0 where
  pub n_is : n.todo ≡ statement ∷ later
  pub number_is : n.number ≡ core.number
  pub answers_are : n.answers ≡ core.answers.items
  pub course_is : course_in core.catalog t.stage statement ≡ ToIdle
  pub takes_is : (told : Answer)
      → takes core.layout core.catalog n sound told ≡ idles core.catalog (at_todo core (statement ∷ later) (Inside t)) statement t (begin_reads (all_reads core.catalog statement)) told
  pub says_is : (commits : List Commit) (floor : TidSet) (told : Answer)
      → says_at core.layout core.catalog commits n sound told ≡ says_idle (at_todo core (statement ∷ later) (Inside t)) statement t (Told (manager.FloorIs floor)) told
  pub means_is : (told : Answer) → MeansIdle core.catalog statement t told → MayMean core.layout core.catalog n sound told
  pub not_strange : is_strange_to core.layout core.catalog n sound ≡ false
  pub no_end : is_ending n.doing ≡ false
  pub suits : OwnSuitsNode core.catalog n → OwnSuitsStatement core.catalog statement t.own

abbrev pub Idles : Core → TheTxn → Stage → Core → Result Next NoMemory → Type 0
Idles old txn said new result =
    (n : Node) (sound : Heard) (told : Reply) (statement : Bound) (later : List Bound) (live : Open) → txn.phase ≡ phase.Ready live
    → drop (length old.answers.items) old.statements ≡ statement ∷ later → IdlesNext old n sound statement later (txn_in (stage_of said) live)
    → ComesTo old.layout old.catalog n sound told new mark.Quiet result

-- its manager's low-water mark is known from then on
abbrev pub IdlesBy : Core → TidSet → TheTxn → Stage → Core → Result Next NoMemory → Type 0
IdlesBy old floor txn said new (Ok next) = Idles (learns old floor) txn said new (Ok next)
IdlesBy old floor txn said new (Err e) = IsUnanswered old new
