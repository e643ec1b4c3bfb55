-- As far as it recovers others, a node does what the code of a recovery does: reply by reply they ask and tell the same.
use Rattle.std.specs.Prelude.{◌≡◌, ◌≢◌, ℕ, ◌≤◌, Bool, true, false, ◌||◌, List, [], ◌∷◌, Some, None, is_some, slice_get}
use Rattle.tl_base.specs.NodeSet.{with_node}
use Rattle.tl_base.specs.declared.node.NodeSet.{NodeSet}
use Rattle.tl_base.specs.declared.place.Settings.{Settings}
use Rattle.tl_schema.specs.declared.catalog.Catalog.{Catalog}
use Rattle.tl_manager.specs.declared.mark.Mark.{Mark}
use Rattle.tl_manager.specs.declared.mark.Mark.TheVariants as mark
use Rattle.tl_manager.specs.declared.mark.TxnStep.{TxnStep}
use Rattle.tl_manager.specs.declared.mark.TxnStep.TheVariants as step
use Rattle.tl_manager.specs.declared.request.ManagerRequest.TheVariants as request
use Rattle.tl_isolation.specs.declared.bound.Bound.{Bound}
use Rattle.tl_isolation.specs.declared.bound.Bound.TheVariants as bound
use Rattle.tl_isolation.specs.declared.entry.Answer.{Answer}
use Rattle.tl_isolation.specs.declared.entry.Answer.TheVariants as answer
use Rattle.tl_isolation.specs.declared.entry.Entry.{Entry}
use Rattle.tl_isolation.specs.declared.entry.Entry.TheVariants as entry
use Rattle.tl_isolation.specs.declared.state.Commit.{Commit as Committed}
use Rattle.tl_protocol.specs.Told.{says}
use Rattle.tl_journal.specs.Ask.{AskManager, Heard}
use Rattle.tl_journal.specs.Asks.{asks_doing}
use Rattle.tl_journal.specs.Bytes.{home_of}
use Rattle.tl_journal.specs.Node.{Doing, Outside, Recovering, Node, nodes_in, owed_by}
use Rattle.tl_journal.specs.Says.{says_doing, statement_number}
use Rattle.tl_journal.specs.Strange.{is_odd_for, is_stopped}
use Rattle.tl_journal.specs.Takes.{answered, takes_doing, with_doing}
use Rattle.tl_ask.specs.Thin.{thin}
use Rattle.tl_recover.specs.declared.phase.Phase.{Phase}
use Rattle.tl_recover.specs.declared.phase.Phase.TheVariants as phase
use Rattle.tl_recover.specs.Doing.{doing_of}
use Rattle.tl_recover.specs.Taken.{Taken, takes}

-- a reply that is heard in this phase of a recovery, which is the present statement of this node
pub record Turn : Type 0 where
  pub settings : Settings
  pub catalog : Catalog
  pub commits : List Committed
  pub node : Node
  pub statement : Bound
  pub gone : ℕ
  pub nodes : NodeSet
  pub now : Phase
  pub heard : Heard
  pub told : Answer

-- in code
abbrev pub taken : Turn → Taken
taken t = takes t.settings t.nodes t.now t.heard

-- at the node
abbrev pub doing : Turn → Doing
doing t = doing_of t.gone t.nodes t.now

abbrev pub after : Turn → Node
after t = takes_doing t.settings t.catalog t.node t.statement (doing t) t.heard t.told

abbrev pub entries : Turn → List Entry
entries t = says_doing t.settings t.catalog t.commits t.node t.statement (doing t) t.heard t.told

abbrev pub is_odd : Turn → Bool
is_odd t = is_odd_for (doing t) t.heard

abbrev pub entries_of : Mark → List Entry
entries_of (mark.Committed tid) = entry.Committed tid ∷ []
entries_of (mark.Undone tid) = entry.Undone tid ∷ []
entries_of told = []

-- ---- where the code goes on, the node does so too, asks the same and tells the same

abbrev pub GoesOnSo : Turn → Node → List Entry → Taken → Mark → Type 0
GoesOnSo t new said outcome told =
    (next : Doing) × (new ≡ with_doing t.node next) × (thin next ≡ doing_of t.gone t.nodes outcome.phase)
    × (asks_doing t.settings t.catalog (with_doing t.node next) t.statement next ≡ outcome.ask) × (said ≡ entries_of told)

abbrev pub GoesOn : Type 0
GoesOn = (t : Turn) (told : Mark) → (taken t).step ≡ Some (step.Going told) → GoesOnSo t (after t) (entries t) (taken t) told

-- ---- where it has ended, the statement is answered

abbrev pub EndsSo : Turn → Node → List Entry → Mark → Type 0
EndsSo t new said told =
    (told ≡ mark.Quiet) × (new ≡ answered t.node (answer.Recovered t.gone) Outside)
    × (said ≡ says t.node.number (statement_number t.node) (bound.Recover t.gone) (answer.Recovered t.gone) ∷ [])

abbrev pub Ends : Type 0
Ends = (t : Turn) (told : Mark) → (taken t).step ≡ Some (step.Ended told) → EndsSo t (after t) (entries t) told

-- no other step is told
abbrev pub IsStep : TxnStep → Type 0
IsStep (step.Going told) = Unit {0}
IsStep (step.Ended told) = Unit {0}
IsStep other = ⊥

abbrev pub GoesOnOrEnds : Type 0
GoesOnOrEnds = (t : Turn) (told : TxnStep) → (taken t).step ≡ Some told → IsStep told

-- ---- what is strange to the code is so to the node

-- a reply is awaited; a record that is in hand is one that the log cell names
abbrev pub is_awaiting : Phase → Bool
is_awaiting (phase.Stripping lost log at true) = is_some (slice_get log.entry.writes at)
is_awaiting phase.Over = false
is_awaiting phase.Stopped = false
is_awaiting now = true

abbrev pub IsStrangeAlike : Type 0
IsStrangeAlike = (t : Turn) → is_awaiting t.now ≡ true → (taken t).step ≡ None → (is_stopped (after t).doing || is_odd t) ≡ true

-- and where it makes a step the reply is not odd
abbrev pub StepsNotOdd : Type 0
StepsNotOdd = (t : Turn) (told : TxnStep) → (taken t).step ≡ Some told → is_odd t ≡ false

-- as long as it goes on
abbrev pub Awaits : Type 0
Awaits = (t : Turn) (told : Mark) → (taken t).step ≡ Some (step.Going told) → is_awaiting (taken t).phase ≡ true

-- ---- from the claim on

-- a claim gives one node at least
abbrev pub HasDuty : Type 0
HasDuty = (also : NodeSet) (gone : ℕ) → 1 ≤ gone → gone ≤ 16 → (first : ℕ) × (later : List ℕ) × (nodes_in (with_node also gone) ≡ first ∷ later)

-- the transactions of the least node are asked for first
abbrev pub BeginsSo : ℕ → NodeSet → ℕ → Type 0
BeginsSo gone nodes first =
    (Recovering (record { node = gone; all = nodes; left = nodes_in nodes }) ≡ doing_of gone nodes (phase.Finding first))
    × ((settings : Settings) (catalog : Catalog) (node : Node) (statement : Bound)
    → asks_doing settings catalog node statement (doing_of gone nodes (phase.Finding first)) ≡ Some (AskManager (home_of settings first) (request.Orphans first)))

abbrev pub Begins : Type 0
Begins = (gone : ℕ) (nodes : NodeSet) (first : ℕ) (later : List ℕ) → nodes_in nodes ≡ first ∷ later → BeginsSo gone nodes first

-- a node that vanishes before it is over owes all that it was given
abbrev pub OwesAll : Type 0
OwesAll = (gone : ℕ) (nodes : NodeSet) (now : Phase) → now ≢ phase.Over → owed_by (doing_of gone nodes now) ≡ nodes
