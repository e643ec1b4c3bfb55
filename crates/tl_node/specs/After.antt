-- What a reply leads to.
use Rattle.std.specs.Prelude.{◌≡◌, ◌⊎◌, ℕ, Bool, true, false, List, [], ◌∷◌, ◌++◌, Option, Some, None, drop, Result, Ok, Err, if◌then◌else◌}
use Rattle.tl_base.specs.declared.memory.NoMemory.{NoMemory}
use Rattle.tl_base.specs.declared.node.NodeSet.{NodeSet}
use Rattle.tl_base.specs.declared.place.Settings.{Settings}
use Rattle.tl_schema.specs.declared.catalog.Catalog.{Catalog}
use Rattle.tl_manager.specs.declared.mark.Mark.{Mark}
use Rattle.tl_manager.specs.declared.mark.Mark.TheVariants as mark
use Rattle.tl_manager.specs.declared.request.ManagerReply.TheVariants as manager
use Rattle.tl_manager.specs.declared.request.Reply.{Reply}
use Rattle.tl_manager.specs.declared.request.Reply.TheVariants as reply
use Rattle.tl_isolation.specs.declared.bound.Bound.{Bound}
use Rattle.tl_isolation.specs.declared.bound.Bound.TheVariants as bound
use Rattle.tl_isolation.specs.declared.entry.Answer.{Answer}
use Rattle.tl_isolation.specs.declared.entry.Answer.TheVariants as answer
use Rattle.tl_isolation.specs.declared.entry.Entry.{Entry}
use Rattle.tl_isolation.specs.declared.entry.Entry.TheVariants as entry
use Rattle.tl_isolation.specs.declared.entry.Said.{Said}
use Rattle.tl_isolation.specs.declared.state.Commit.{Commit}
use Rattle.tl_protocol.specs.Move.{is_empty}
use Rattle.tl_protocol.specs.Told.{count_in}
use Rattle.tl_journal.specs.Ask.{Ask, Heard, Strange}
use Rattle.tl_journal.specs.Asks.{asks}
use Rattle.tl_ask.specs.Given.{is_outcome_of, shown_heard}
use Rattle.tl_ask.specs.declared.asked.Asked.{Asked}
use Rattle.tl_journal.specs.Memory.{has_said, is_ending, unsaid}
use Rattle.tl_journal.specs.Node.{Doing, Inside, Stopped, Node, owed_by}
use Rattle.tl_journal.specs.Says.{says_at}
use Rattle.tl_journal.specs.Strange.{is_strange_to}
use Rattle.tl_journal.specs.Takes.{MayMean, takes}
use Rattle.tl_node.specs.Fits.{FitsAll, IsFit, OwnSuitsNode}
use Rattle.tl_node.specs.Seen.{seen}
use Rattle.tl_node.specs.View.{NodeValue, StandsFor, asked_by, doing_so, node_so, stage_of, value_of, work_asks}
use Rattle.tl_node.specs.declared.told.Rest.{Rest}
use Rattle.tl_node.specs.declared.told.Rest.TheVariants as rest
use Rattle.tl_node.specs.declared.kept.Core.{Core}
use Rattle.tl_node.specs.declared.work.Next.{Next}
use Rattle.tl_node.specs.declared.work.Next.TheVariants as next
use Rattle.tl_node.specs.declared.work.Stage.{Stage}
use Rattle.tl_node.specs.declared.work.Work.{Work}
use Rattle.tl_txn.specs.Doing.{txn_in}
use Rattle.tl_txn.specs.declared.phase.Open.{Open}
use Rattle.tl_txn.specs.declared.phase.Phase.{Phase}
use Rattle.tl_txn.specs.declared.phase.Phase.TheVariants as phase

-- what is heard of a reply whose stamp may be by one who asked this, or asked nothing
abbrev pub heard_by : Catalog → Option Ask → Reply → Heard
heard_by catalog None told = Strange
heard_by catalog (Some ask) told = shown_heard catalog ask told

-- by a node; a request that lacks what its code doesn't keep is of the same kind
abbrev pub hears : Settings → Catalog → Node → Reply → Heard
hears settings catalog node told = heard_by catalog (asks settings catalog node) told

-- the reply has a stamp that the request may be given
abbrev pub may_be_given : Option Asked → Reply → Bool
may_be_given None told = true
may_be_given (Some a) told = is_outcome_of a.request told

-- what a node hears that has its request in hand
abbrev pub told_heard : NodeValue → Reply → Heard
told_heard v told = if may_be_given v.ask told then hears v.settings v.catalog v.node told else Strange

-- ---- what is told

abbrev pub began : List Commit → ℕ → ℕ → Reply → List Entry
began commits node tid (reply.Manager (manager.Began number snapshot floor)) = entry.Began node tid (count_in snapshot commits) ∷ []
began commits node tid other = []

-- the entry of a mark; that of an answer stands with what is said
abbrev pub marked : List Commit → ℕ → Reply → Mark → List Entry
marked commits node told mark.Quiet = []
marked commits node told mark.Asked = entry.Asked node ∷ []
marked commits node told (mark.Began tid) = began commits node tid told
marked commits node told (mark.Tried tid) = entry.Tried tid ∷ []
marked commits node told (mark.Clashed tid rival at) = entry.Clash tid rival at ∷ []
marked commits node told (mark.Committed tid) = entry.Committed tid ∷ []
marked commits node told (mark.Undone tid) = entry.Undone tid ∷ []
marked commits node told mark.Answered = []

-- a statement that is answered at the end of its transaction was said before
abbrev pub said_so : ℕ → Bound → Mark → Said → Entry
said_so node statement mark.Answered said = entry.Answered node said.statement said.answer
said_so node statement other said = entry.Said node statement said

abbrev pub statement_in : List Bound → Bound
statement_in [] = bound.Begin
statement_in (statement ∷ later) = statement

-- what the node answers at the reply, as the law asks for it: nothing where what was said before is answered
abbrev pub answer_in : Mark → Said → Answer
answer_in mark.Answered said = answer.Begun
answer_in other said = said.answer

-- ---- what it leads to

-- the node, but with these statements left, doing this
abbrev pub at_todo : Core → List Bound → Doing → Node
at_todo core todo doing = record (node_so core doing) { todo = todo }

-- the node goes on with these statements by this: it stands for the node of the law that does so
pub record IsOpened (core : Core) (todo : List Bound) (doing : Doing) (w : Work) : Type 0 where
  pub doing_is : doing_so todo w ≡ (seen core.layout core.catalog (at_todo core todo doing)).doing
  pub ask_is : work_asks w ≡ asked_by core.layout (asks core.layout core.catalog (at_todo core todo doing))
  pub fits : FitsAll core todo w

-- a transaction that takes statements goes on with those from this place on, where this was said in it, whatever is answered
-- meanwhile
abbrev pub Opens : Core → ℕ → Phase → Stage → Work → Type 0
Opens core at so_far said w =
    (live : Open) (after : Core) → so_far ≡ phase.Ready live → after ≡ record core { answers = after.answers }
    → IsOpened after (drop at core.statements) (Inside (txn_in (stage_of said) live)) w

-- the reply is not strange, and nothing is said: the parts of the node stand for the node of the law
pub record Goes (settings : Settings) (catalog : Catalog) (n : Node) (sound : Heard) (told : Reply) (m : Mark) (core : Core) (w : Work) : Type 0 where
  pub fits : IsFit core w
  pub not_strange : is_strange_to settings catalog n sound ≡ false
  pub stands : StandsFor settings catalog (takes settings catalog n sound answer.Begun) (value_of core w)
  pub entries : (commits : List Commit) → says_at settings catalog commits n sound answer.Begun ≡ marked commits n.number told m

-- this is said
pub record SaysSo (settings : Settings) (catalog : Catalog) (n : Node) (sound : Heard) (told : Reply) (m : Mark) (said : Said) (v : NodeValue) : Type 0 where
  pub stands : StandsFor settings catalog (takes settings catalog n sound (answer_in m said)) v
  pub means : MayMean settings catalog n sound (answer_in m said)
  pub entries : (commits : List Commit) → says_at settings catalog commits n sound (answer_in m said)
      ≡ marked commits n.number told m ++ said_so n.number (statement_in n.todo) m said ∷ []

-- the reply is not strange, and it is so where the own writes suit the statement
pub record Says (settings : Settings) (catalog : Catalog) (n : Node) (sound : Heard) (told : Reply) (m : Mark) (core : Core) (w : Work) (said : Said) : Type 0 where
  pub fits : IsFit core w
  pub not_strange : is_strange_to settings catalog n sound ≡ false
  pub so : OwnSuitsNode catalog n → SaysSo settings catalog n sound told m said (value_of core w)

-- memory was wanted: what would be said isn't; it never comes to that at the end of a transaction
pub record Wants (settings : Settings) (catalog : Catalog) (n : Node) (sound : Heard) (told : Reply) (m : Mark) : Type 0 where
  pub no_end : is_ending n.doing ≡ false
  pub entries : is_strange_to settings catalog n sound ≡ false
      → (commits : List Commit) → (unsaid (says_at settings catalog commits n sound answer.Begun) ≡ marked commits n.number told m)
      ⊎ (says_at settings catalog commits n sound answer.Begun ≡ marked commits n.number told m)

-- one of its statements is left, and none was answered
pub record IsHeld (n : Node) (core : Core) : Type 0 where
  pub left : is_empty n.todo ≡ false
  pub answers : core.answers.items ≡ n.answers

-- the node n of the law hears this, which the reply says
abbrev pub ComesTo : Settings → Catalog → Node → Heard → Reply → Core → Mark → Result Next NoMemory → Type 0
ComesTo settings catalog n sound told core m (Ok next.Strange) = IsHeld n core × (is_strange_to settings catalog n sound ≡ true)
ComesTo settings catalog n sound told core m (Ok (next.Goes w)) = Goes settings catalog n sound told m core w
ComesTo settings catalog n sound told core m (Ok (next.Says w said)) = Says settings catalog n sound told m core w said
ComesTo settings catalog n sound told core m (Err e) = IsHeld n core × Wants settings catalog n sound told m

abbrev pub IsAfter : Settings → Catalog → Node → Reply → Core → Mark → Result Next NoMemory → Type 0
IsAfter settings catalog n told core m result = ComesTo settings catalog n (hears settings catalog n told) told core m result

-- the settings, the catalog, the statements and the number of the node stay
pub record Stays (old new : Core) : Type 0 where
  pub layout : new.layout ≡ old.layout
  pub catalog : new.catalog ≡ old.catalog
  pub statements : new.statements ≡ old.statements
  pub number : new.number ≡ old.number

-- whom the node leaves to be recovered where it hears this and stops
abbrev pub owed_left : Settings → Catalog → Node → Heard → NodeSet
owed_left settings catalog n sound =
    if has_said (says_at settings catalog [] n sound answer.Begun) then owed_by n.doing
    else owed_by (takes settings catalog n sound answer.Begun).doing

-- a node that asks nothing more; what it has answered, and what is left of its session, stay
pub record HasStopped (settings : Settings) (catalog : Catalog) (n : Node) (sound : Heard) (v : NodeValue) : Type 0 where
  pub number : v.node.number ≡ n.number
  pub answers : v.node.answers ≡ n.answers
  pub todo : v.node.todo ≡ n.todo
  pub doing : v.node.doing ≡ Stopped (owed_left settings catalog n sound)
  pub ask : v.ask ≡ None
  pub settings_stay : v.settings ≡ settings
  pub catalog_stays : v.catalog ≡ catalog

-- what is told of the reply where the node hears this, and the node after it
abbrev pub IsToldAt : NodeValue → Heard → Reply → NodeValue → Mark → Rest → Type 0
IsToldAt v sound told after m rest.Going =
    (is_strange_to v.settings v.catalog v.node sound ≡ false)
    × StandsFor v.settings v.catalog (takes v.settings v.catalog v.node sound answer.Begun) after
    × ((commits : List Commit) → says_at v.settings v.catalog commits v.node sound answer.Begun ≡ marked commits v.node.number told m)
IsToldAt v sound told after m (rest.Said said) =
    (is_strange_to v.settings v.catalog v.node sound ≡ false)
    × (OwnSuitsNode v.catalog v.node → SaysSo v.settings v.catalog v.node sound told m said after)
IsToldAt v sound told after m rest.Strange =
    HasStopped v.settings v.catalog v.node sound after × (is_strange_to v.settings v.catalog v.node sound ≡ true) × (m ≡ mark.Quiet)
IsToldAt v sound told after m rest.NoMemory = HasStopped v.settings v.catalog v.node sound after × Wants v.settings v.catalog v.node sound told m

-- where the reply's stamp may be
abbrev pub IsToldSo : NodeValue → Reply → NodeValue → Mark → Rest → Type 0
IsToldSo v told after m r = IsToldAt v (hears v.settings v.catalog v.node told) told after m r

abbrev pub IsTold : NodeValue → Reply → NodeValue → Mark → Rest → Type 0
IsTold v told after m r = IsToldAt v (told_heard v told) told after m r
