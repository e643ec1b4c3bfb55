-- The node that the parts of its code stand for, and what it asks.
use Rattle.std.specs.Prelude.{◌≡◌, ◌+◌, List, [], ◌∷◌, ◌++◌, Option, Some, None, drop, flat_map, length, map}
use Rattle.tl_base.specs.declared.place.Settings.{Settings}
use Rattle.tl_values.specs.declared.value.Value.{Value}
use Rattle.tl_schema.specs.declared.catalog.Catalog.{Catalog}
use Rattle.tl_write.specs.Change.{number_of}
use Rattle.tl_isolation.specs.declared.bound.Bound.{Bound}
use Rattle.tl_isolation.specs.declared.bound.Bound.TheVariants as bound
use Rattle.tl_plan.specs.Plan.{numbers_of}
use Rattle.tl_protocol.specs.World.{Fresh, Opened, Answering}
use Rattle.tl_protocol.specs.World as protocol
use Rattle.tl_journal.specs.Asks.{asks}
use Rattle.tl_journal.specs.Ask.{Ask}
use Rattle.tl_journal.specs.Node.{Doing, Outside, Reading, Stopped, Node}
use Rattle.tl_journal.specs.Reads as law
use Rattle.tl_journal.specs.Reads.{Reads, read_of, reads_of}
use Rattle.tl_ask.specs.Asked.{asked}
use Rattle.tl_ask.specs.declared.asked.Asked.{Asked}
use Rattle.tl_txn.specs.Doing.{doing_of, txn_in}
use Rattle.tl_txn.specs.declared.phase.Open.{Open}
use Rattle.tl_txn.specs.declared.phase.Phase.{Phase}
use Rattle.tl_txn.specs.declared.phase.Phase.TheVariants as phase
use Rattle.tl_txn.specs.declared.phase.Read.{Read}
use Rattle.tl_txn.specs.declared.phase.Read.TheVariants as read
use Rattle.tl_recover.specs.Doing as recovery
use Rattle.tl_node.specs.Seen.{seen}
use Rattle.tl_node.specs.declared.kept.Core.{Core}
use Rattle.tl_node.specs.declared.work.Course.{Course}
use Rattle.tl_node.specs.declared.work.Course.TheVariants as course
use Rattle.tl_node.specs.declared.work.Outside.{Outside as TheOutside}
use Rattle.tl_node.specs.declared.work.Outside.TheVariants as outside
use Rattle.tl_node.specs.declared.work.Reading.{Reading as TheReading}
use Rattle.tl_node.specs.declared.work.Stage.{Stage}
use Rattle.tl_node.specs.declared.work.Stage.TheVariants as stage
use Rattle.tl_node.specs.declared.work.Work.{Work}
use Rattle.tl_node.specs.declared.work.Work.TheVariants as work

abbrev pub stage_of : Stage → protocol.Stage
stage_of stage.Fresh = Fresh
stage_of stage.Opened = Opened
stage_of (stage.Answering told) = Answering told

-- the read that is asked
abbrev pub head_of : Read → law.Read
head_of (read.Point key) = law.Point key
head_of (read.Range r) = law.Range r.shard r.from r.first r.before

-- the reads of a statement, of which this one is in hand
abbrev pub reads_in : Bound → TheReading → Open → Read → Reads
reads_in (bound.Select query) reading live r =
    record {
      left = head_of r ∷ [];
      later = reads_of (drop (reading.at + 1) (numbers_of query)) (drop (reading.at + 1) reading.accesses);
      rows = live.rows;
      earlier = reading.found;
    }
reads_in (bound.Change edit) reading live r =
    record {
      left = head_of r ∷ map (read_of (number_of edit)) (drop (reading.at + 1) reading.accesses);
      later = [];
      rows = flat_map (λ (rows : List (List Value)). rows) reading.found ++ live.rows;
      earlier = [];
    }
reads_in statement reading live r = record { left = head_of r ∷ []; later = []; rows = live.rows; earlier = [] }

abbrev pub reading_so : Bound → protocol.Stage → TheReading → Phase → Doing
reading_so statement said reading (phase.Reading live r) = Reading (txn_in said live) (reads_in statement reading live r)
reading_so statement said reading so_far = doing_of said so_far

abbrev pub running_so : Bound → protocol.Stage → Phase → Course → Doing
running_so statement said so_far course.Begins = doing_of Fresh so_far
running_so statement said so_far (course.Reads reading) = reading_so statement said reading so_far
running_so statement said so_far other = doing_of said so_far

abbrev pub outside_so : TheOutside → Doing
outside_so (outside.Begins txn) = doing_of Fresh txn.phase
outside_so other = Outside

-- what the node does, whose present statement is this
abbrev pub work_so : Bound → Work → Doing
work_so statement (work.Outside o) = outside_so o
work_so statement (work.Runs r) = running_so statement (stage_of r.stage) r.txn.phase r.course
work_so statement (work.Recovers gone recover) = recovery.doing_of gone recover.all recover.phase
work_so statement (work.Stopped nodes) = Stopped nodes

-- the node that does this
abbrev pub node_so : Core → Doing → Node
node_so core doing =
    record {
      number = core.number;
      todo = drop (length core.answers.items) core.statements;
      answers = core.answers.items;
      floors = core.floors;
      asked_others = core.asked_others;
      doing = doing;
    }

abbrev pub doing_so : List Bound → Work → Doing
doing_so [] w = Outside
doing_so (statement ∷ later) w = work_so statement w

abbrev pub node_at : Core → Work → Node
node_at core w = node_so core (doing_so (drop (length core.answers.items) core.statements) w)

-- ---- what it asks

abbrev pub outside_asks : TheOutside → Option Asked
outside_asks outside.Done = None
outside_asks (outside.Begins txn) = txn.next
outside_asks (outside.Idles a) = Some a
outside_asks (outside.Claims gone a) = Some a

abbrev pub course_asks : Option Asked → Course → Option Asked
course_asks next (course.Idles a) = Some a
course_asks next (course.AsksOther manager a) = Some a
course_asks next other = next

abbrev pub work_asks : Work → Option Asked
work_asks (work.Outside o) = outside_asks o
work_asks (work.Runs r) = course_asks r.txn.next r.course
work_asks (work.Recovers gone recover) = recover.next
work_asks (work.Stopped nodes) = None

abbrev pub asked_by : Settings → Option Ask → Option Asked
asked_by settings None = None
asked_by settings (Some ask) = Some (asked settings ask)

-- what contracts see of a node: the settings and the catalog of its run, its session, the node of the law as far as the code
-- keeps it, and its request
pub record NodeValue : Type 0 where
  pub settings : Settings
  pub catalog : Catalog
  pub session : List Bound
  pub node : Node
  pub ask : Option Asked

abbrev pub value_of : Core → Work → NodeValue
value_of core w = record { settings = core.layout; catalog = core.catalog; session = core.statements; node = node_at core w; ask = work_asks w }

-- the code stands for this node of the law
pub record StandsFor (settings : Settings) (catalog : Catalog) (node : Node) (value : NodeValue) : Type 0 where
  pub settings_are : value.settings ≡ settings
  pub catalog_is : value.catalog ≡ catalog
  pub node_is : value.node ≡ seen settings catalog node
  pub ask_is : value.ask ≡ asked_by settings (asks settings catalog node)
