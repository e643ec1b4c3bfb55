-- What is always so of the parts of a node.
use Rattle.std.specs.Prelude.{◌≡◌, ◌<◌, ℕ, ◌+◌, true, false, List, [], ◌∷◌, Option, Some, None, drop, length, nat_le}
use Rattle.std.specs.Vec.{vec_capacity, vec_len}
use Rattle.tl_schema.specs.declared.catalog.Catalog.{Catalog}
use Rattle.tl_isolation.specs.declared.entry.Answer.{Answer}
use Rattle.tl_isolation.specs.declared.bound.Bound.{Bound}
use Rattle.tl_isolation.specs.declared.bound.Bound.TheVariants as bound
use Rattle.tl_protocol.specs.Move.{is_empty}
use Rattle.tl_protocol.specs.Next.{end_answer}
use Rattle.tl_protocol.specs.World as protocol
use Rattle.tl_journal.specs.Asks.{ToBegin, ToIdle, ToCommit, asks_outside, course_in, course_outside, other_manager, asks}
use Rattle.tl_journal.specs.Node.{Doing, Outside, Inside, Reading, Node}
use Rattle.tl_write.specs.declared.write.Write.{Write}
use Rattle.tl_ask.specs.Asked.{asked}
use Rattle.tl_answer.specs.Own.{OwnSuits}
use Rattle.tl_plan.specs.Plan.{accesses_in}
use Rattle.tl_txn.specs.Doing.{decided}
use Rattle.tl_txn.specs.Follows.{HasInHand, Suits}
use Rattle.tl_txn.specs.declared.phase.Open.{Open}
use Rattle.tl_txn.specs.declared.phase.Phase.{Phase}
use Rattle.tl_txn.specs.declared.phase.Phase.TheVariants as phase
use Rattle.tl_txn.specs.declared.txn.Txn.{Txn}
use Rattle.tl_recover.specs.Follows.{is_awaiting}
use Rattle.tl_node.specs.View.{asked_by, node_so, outside_asks, stage_of}
use Rattle.tl_node.specs.declared.kept.Core.{Core}
use Rattle.tl_node.specs.declared.work.Course.{Course}
use Rattle.tl_node.specs.declared.work.Course.TheVariants as course
use Rattle.tl_node.specs.declared.work.Last.{Last}
use Rattle.tl_node.specs.declared.work.Outside.{Outside as TheOutside}
use Rattle.tl_node.specs.declared.work.Outside.TheVariants as outside
use Rattle.tl_node.specs.declared.work.Reading.{Reading as TheReading}
use Rattle.tl_node.specs.declared.work.Running.{Running}
use Rattle.tl_node.specs.declared.work.Stage.{Stage}
use Rattle.tl_node.specs.declared.work.Work.{Work}
use Rattle.tl_node.specs.declared.work.Work.TheVariants as work

-- the transaction is one of this node
pub record IsOwn (core : Core) (txn : Txn) : Type 0 where
  pub layout : txn.layout ≡ core.layout
  pub node : txn.node ≡ core.number

abbrev pub IsBeginning : Phase → Type 0
IsBeginning phase.Asking = Unit {0}
IsBeginning (phase.Noted seen) = Unit {0}
IsBeginning (phase.Drawing seen) = Unit {0}
IsBeginning (phase.Bringing seen low) = Unit {0}
IsBeginning other = ⊥

abbrev pub IsReading : Phase → Type 0
IsReading (phase.Reading live read) = Unit {0}
IsReading other = ⊥

abbrev pub IsReadyWith : (Open → Type 0) → Phase → Type 0
IsReadyWith P (phase.Ready live) = P live
IsReadyWith P other = ⊥

-- the end of a transaction; with nothing to store where it has written nothing
abbrev pub IsEnding : Phase → Type 0
IsEnding (phase.TryingNothing live) = is_empty live.own ≡ true
IsEnding (phase.GivingUp live) = Unit {0}
IsEnding (phase.Trying a) = Unit {0}
IsEnding (phase.Storing s) = Unit {0}
IsEnding (phase.Removing r) = Unit {0}
IsEnding (phase.Closing tid d loaded) = Unit {0}
IsEnding (phase.Ending tid d) = Unit {0}
IsEnding other = ⊥

-- ---- outside a transaction

-- the first request of this statement
abbrev pub FitsOutside : Core → Bound → TheOutside → Type 0
FitsOutside core statement outside.Done = ⊥
FitsOutside core statement (outside.Begins txn) = (course_outside statement ≡ ToBegin) × IsOwn core txn × (txn.phase ≡ phase.Asking)
FitsOutside core statement (outside.Idles a) = course_outside statement ≡ ToIdle
FitsOutside core statement (outside.Claims gone a) = statement ≡ bound.Recover gone

-- what is left of a session begins so
abbrev pub FitsTodo : Core → List Bound → TheOutside → Type 0
FitsTodo core [] o = o ≡ outside.Done
FitsTodo core (statement ∷ later) o = FitsOutside core statement o

-- so it begins with this statement
pub record IsFirst (core : Core) (statement : Bound) (o : TheOutside) : Type 0 where
  pub fits : FitsOutside core statement o
  pub ask : outside_asks o ≡ Some (asked core.layout (asks_outside core.layout (node_so core Outside) statement (course_outside statement)))

-- it fits the statements from this place on, and asks what their node asks
pub record IsOpening (core : Core) (at : ℕ) (o : TheOutside) : Type 0 where
  pub fits : FitsTodo core (drop at core.statements) o
  pub ask : outside_asks o ≡ asked_by core.layout (asks core.layout core.catalog (record (node_so core Outside) { todo = drop at core.statements }))

-- ---- in a transaction

pub record FitsReading (core : Core) (statement : Bound) (reading : TheReading) : Type 0 where
  pub accesses : reading.accesses ≡ accesses_in core.catalog statement
  pub within : reading.at < length reading.accesses
  pub found : length reading.found ≡ reading.at

-- the last answer, ready before the end is asked for: twice, with room for it, and with what follows it
pub record FitsLast (core : Core) (answer : Answer) (last : Last) : Type 0 where
  pub kept : last.kept ≡ answer
  pub said : last.said ≡ record { statement = length core.answers.items + 1; answer = answer; answered = true }
  pub room : vec_len core.answers < vec_capacity core.answers
  pub following : IsOpening core (length core.answers.items + 1) last.following

abbrev pub MayEnd : Core → protocol.Stage → Phase → Option Last → Type 0
MayEnd core said (phase.Ending tid d) (Some last) = FitsLast core (end_answer said (decided d)) last
MayEnd core said (phase.Ending tid d) None = ⊥
MayEnd core said other last = last ≡ None

-- the transaction takes statements still
abbrev pub TakesStatements : protocol.Stage → Type 0
TakesStatements (protocol.Answering told) = ⊥
TakesStatements other = Unit {0}

abbrev pub FitsCourse : Core → Bound → Stage → Phase → Course → Type 0
FitsCourse core statement said so_far course.Begins = (course_outside statement ≡ ToBegin) × IsBeginning so_far
FitsCourse core statement said so_far (course.Reads reading) = IsReading so_far × FitsReading core statement reading × TakesStatements (stage_of said)
FitsCourse core statement said so_far (course.Idles a) =
    IsReadyWith (λ live. course_in core.catalog (stage_of said) statement ≡ ToIdle) so_far
FitsCourse core statement said so_far (course.AsksOther manager a) =
    IsReadyWith (λ live. (course_in core.catalog (stage_of said) statement ≡ ToCommit) × (is_empty live.own ≡ false)) so_far
    × (nat_le core.layout.managers 1 ≡ false) × (manager ≡ other_manager core.layout (node_so core Outside))
FitsCourse core statement said so_far (course.Ends last) =
    IsEnding so_far × Suits core.catalog (node_so core Outside) statement (stage_of said) so_far × HasInHand so_far × MayEnd core (stage_of said) so_far last

pub record FitsRunning (core : Core) (statement : Bound) (r : Running) : Type 0 where
  pub own : IsOwn core r.txn
  pub course : FitsCourse core statement r.stage r.txn.phase r.course

-- ---- all of it

abbrev pub FitsWork : Core → Bound → Work → Type 0
FitsWork core statement (work.Outside o) = FitsOutside core statement o
FitsWork core statement (work.Runs r) = FitsRunning core statement r
FitsWork core statement (work.Recovers gone recover) = (statement ≡ bound.Recover gone) × (recover.layout ≡ core.layout) × (is_awaiting recover.phase ≡ true)
FitsWork core statement (work.Stopped nodes) = Unit {0}

-- a node asks nothing where no statement is left
abbrev pub IsIdle : Work → Type 0
IsIdle (work.Outside o) = o ≡ outside.Done
IsIdle other = ⊥

abbrev pub FitsAll : Core → List Bound → Work → Type 0
FitsAll core [] w = IsIdle w
FitsAll core (statement ∷ later) w = FitsWork core statement w

abbrev pub IsFit : Core → Work → Type 0
IsFit core w = FitsAll core (drop (length core.answers.items) core.statements) w

-- a statement is present, of which this holds
pub record HasPresent (core : Core) (Holds : Bound → Type 0) : Type 0 where
  pub statement : Bound
  pub later : List Bound
  pub todo_is : drop (length core.answers.items) core.statements ≡ statement ∷ later
  pub holds : Holds statement

-- ---- what is known of the own writes where a change is answered

abbrev pub OwnSuitsStatement : Catalog → Bound → List Write → Type 0
OwnSuitsStatement catalog (bound.Change edit) own = OwnSuits catalog edit own
OwnSuitsStatement catalog statement own = Unit {0}

abbrev pub OwnSuitsDoing : Catalog → Bound → Doing → Type 0
OwnSuitsDoing catalog statement (Inside t) = OwnSuitsStatement catalog statement t.own
OwnSuitsDoing catalog statement (Reading t reads) = OwnSuitsStatement catalog statement t.own
OwnSuitsDoing catalog statement doing = Unit {0}

abbrev pub OwnSuitsNode : Catalog → Node → Type 0
OwnSuitsNode catalog node = by node.todo
  where
    by : List Bound → Type 0
    by [] = Unit {0}
    by (statement ∷ later) = OwnSuitsDoing catalog statement node.doing
