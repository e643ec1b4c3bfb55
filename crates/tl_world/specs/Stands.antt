-- What is always so of a world: its events are those of a trace of the script, its places have served them, and its nodes
-- are where they lead; each request was made within the budget and before the count, each node ended as it had to, unless it
-- was let vanish, and none owes its death notice.
use Rattle.std.specs.Prelude.{◌≡◌, ◌<◌, ◌≤◌, ◌⊎◌, ℕ, ◌+◌, ◌^◌, ◌==◌, Bool, true, false, List, [], ◌∷◌, ◌++◌, Option, Some, None, find, flat_map, length, map, if◌then◌else◌}
use Rattle.tl_base.specs.Along.{Along}
use Rattle.tl_base.specs.declared.place.Settings.{Settings}
use Rattle.tl_base.specs.declared.place.PlaceId.TheVariants as place
use Rattle.tl_manager.specs.declared.request.ManagerRequest.{ManagerRequest}
use Rattle.tl_manager.specs.declared.request.Request.{Request}
use Rattle.tl_manager.specs.declared.request.Request.TheVariants as request_of
use Rattle.tl_manager.specs.declared.request.Reply.{Reply}
use Rattle.tl_isolation.specs.declared.entry.Ending.{Ending}
use Rattle.tl_isolation.specs.declared.entry.Ending.TheVariants as ending_of
use Rattle.tl_isolation.specs.declared.entry.Entry.{Entry}
use Rattle.tl_isolation.specs.declared.entry.Entry.TheVariants as entry
use Rattle.tl_isolation.specs.declared.script.Script.{Script}
use Rattle.tl_isolation.specs.declared.script.Session.{Session}
use Rattle.tl_isolation.specs.declared.script.Vanish.{Vanish}
use Rattle.tl_isolation.specs.declared.state.Commit.{Commit}
use Rattle.tl_isolation.specs.History.{state_after}
use Rattle.tl_isolation.specs.Script.{setup_of}
use Rattle.tl_journal.specs.declared.event.Event.{Event}
use Rattle.tl_journal.specs.Binding.{IsBound}
use Rattle.tl_journal.specs.Bytes.{home_of}
use Rattle.tl_journal.specs.Journal.{IsCall, entries_told, has_vanished, is_post, node_after, session_of}
use Rattle.tl_journal.specs.Node.{Node, owed_by}
use Rattle.tl_journal.specs.Run.{IsTrace}
use Rattle.tl_journal.specs.Schedule.{EndsSo, MayAsk, counted, counts, is_due, owes_notice, owing, requests_of, vanish_of}
use Rattle.tl_journal.specs.Strange.{is_stopped}
use Rattle.tl_places.specs.Places.{AreAt, HaveServed, PlacesState}
use Rattle.tl_ask.specs.declared.asked.Asked.{Asked}
use Rattle.tl_node.specs.View.{NodeValue, StandsFor}
use Rattle.tl_world.specs.declared.slot.Slot.{Slot}

-- a node of the run; none once it has ended
abbrev pub SlotValue : Type 0
SlotValue = Slot

pub record WorldValue : Type 0 where
  pub settings : Settings
  pub places : PlacesState
  pub slots : List SlotValue
  -- the numbers of the committed transactions, in order
  pub commits : List ℕ
  pub events : List Event

abbrev pub counted_by : Option Vanish → List Event → ℕ
counted_by None events = 0
counted_by (Some v) events = counted v events

-- a running node runs its session, stands for the node of the law that the events lead to, is to recover whom that is to
-- recover, and wanted no memory
pub record IsRunning (script : Script) (settings : Settings) (events : List Event) (session : Session) (v : NodeValue) : Type 0 where
  pub statements : v.session ≡ session.statements
  pub stands : StandsFor settings script.catalog (node_after settings script events session) v
  pub owed : owed_by v.node.doing ≡ owed_by (node_after settings script events session).doing
  pub goes_on : is_stopped (node_after settings script events session).doing ≡ false

-- a slot has its node until that vanishes, of which this holds
abbrev pub IsNode : (NodeValue → Type 0) → List Event → ℕ → Option NodeValue → Type 0
IsNode R events number None = has_vanished events number ≡ true
IsNode R events number (Some v) = (has_vanished events number ≡ false) × R v

pub record IsSlot (R : NodeValue → Type 0) (script : Script) (events : List Event) (session : Session) (slot : SlotValue) : Type 0 where
  pub node_is : IsNode R events session.node slot.node
  pub made_is : slot.made ≡ length (requests_of session.node events)
  pub counted_is : slot.counted ≡ counted_by slot.vanish events
  pub vanish_is : slot.vanish ≡ vanish_of script session.node

abbrev pub slot_of : List SlotValue → ℕ → Option SlotValue
slot_of slots node = find (λ (s : SlotValue). s.number == node) slots

-- each node of the script has its slot, and no other
abbrev pub HasSlot : (Session → NodeValue → Type 0) → Script → List Event → Option Session → Option SlotValue → Type 0
HasSlot R script events None None = Unit {0}
HasSlot R script events None (Some slot) = ⊥
HasSlot R script events (Some session) None = ⊥
HasSlot R script events (Some session) (Some slot) = IsSlot (R session) script events session slot

-- the world stands where its events lead, of whose running nodes this holds
pub record StandsAs (R : Session → NodeValue → Type 0) (script : Script) (w : WorldValue) : Type 0 where
  pub bound : IsBound script w.settings
  pub shards : 1 ≤ w.settings.shards
  pub few_shards : w.settings.shards ≤ 16
  pub managers : 1 ≤ w.settings.managers
  pub few_managers : w.settings.managers ≤ 4
  pub few_rows : length script.rows < 2 ^ 32
  pub few : length w.events < 2 ^ 32
  pub trace : IsTrace script w.settings w.events
  pub places : AreAt script w.settings w.events w.places
  pub slots : (node : ℕ) → HasSlot R script w.events (session_of script node) (slot_of w.slots node)
  pub commits : w.commits ≡ map (λ (c : Commit). c.tid) (state_after (setup_of script w.settings) (entries_told w.events)).commits

-- all its nodes run
abbrev pub StandsOn : Script → WorldValue → Type 0
StandsOn script w = StandsAs (IsRunning script w.settings w.events) script w

-- ---- how its nodes ended

-- as they had to, or as vanished where a node that owed no notice was let vanish
abbrev pub MayEnd : Script → Settings → List Event → ℕ → Ending → Type 0
MayEnd script settings past node ending_of.Vanished = (is_due script past node ≡ true) ⊎ (owes_notice script settings past node ≡ false)
MayEnd script settings past node ending = EndsSo script settings past node ending

-- a death notice has such an ending, and a request was made within the budget and before the count
abbrev pub MayStand : Script → Settings → List Event → Event → Type 0
MayStand script settings past e =
    ((is_post e.request ≡ true) × ((ending : Ending) × (e.entries ≡ entry.Vanished e.node ending ∷ []) × MayEnd script settings past e.node ending))
    ⊎ ((is_post e.request ≡ false) × MayAsk script settings past e.node)

-- a notice that is owed comes before anything else
abbrev pub IsPrompt : Script → Settings → List Event → Event → Type 0
IsPrompt script settings past e = (node : ℕ) → owing script settings past ≡ Some node → (e.node ≡ node) × (is_post e.request ≡ true)

-- so it is of each event, and after the last one no node owes its notice
pub record EndingsStand (script : Script) (settings : Settings) (events : List Event) : Type 0 where
  pub each : Along (MayStand script settings) [] events
  pub prompt : Along (IsPrompt script settings) [] events
  pub settled : (node : ℕ) → owes_notice script settings events node ≡ false

-- the world between two calls
pub record Stands (script : Script) (w : WorldValue) : Type 0 where
  pub on : StandsOn script w
  pub endings : EndingsStand script w.settings w.events

-- ---- a node that is about to vanish

-- it is to recover whom the node of the law is to recover
pub record IsLeft (number : ℕ) (v : NodeValue) (node : Node) : Type 0 where
  pub own : v.node.number ≡ number
  pub owed : owed_by v.node.doing ≡ owed_by node.doing

-- the one that is about to vanish does, another one runs
abbrev pub IsLeftIf : Bool → ℕ → Script → Settings → List Event → Session → NodeValue → Type 0
IsLeftIf true number script settings events session v = IsLeft number v (node_after settings script events session)
IsLeftIf false number script settings events session v = IsRunning script settings events session v

-- so does the node of this number, and the others run
abbrev pub IsRunningBut : ℕ → Script → Settings → List Event → Session → NodeValue → Type 0
IsRunningBut number script settings events session v = IsLeftIf (number == session.node) number script settings events session v

abbrev pub StandsBut : ℕ → Script → WorldValue → Type 0
StandsBut number script w = StandsAs (IsRunningBut number script w.settings w.events) script w

-- ---- what a request adds

-- the count of a @vanish after a request
abbrev pub counted_more : Option Vanish → Request → Reply → ℕ → ℕ
counted_more None asked answered count = count
counted_more (Some v) asked answered count = if counts v.kind asked answered then count + 1 else count

-- a slot after a request of its node
abbrev pub requested : SlotValue → NodeValue → Request → Reply → SlotValue
requested slot after asked answered =
    record slot { node = Some after; made = slot.made + 1; counted = counted_more slot.vanish asked answered slot.counted }

-- and after its death notice
abbrev pub ended : SlotValue → SlotValue
ended slot = record slot { node = None }

-- the slots with this one in the place of the one of its number
abbrev pub with_slot : SlotValue → List SlotValue → List SlotValue
with_slot slot [] = []
with_slot slot (s ∷ slots) = if s.number == slot.number then slot ∷ slots else s ∷ with_slot slot slots

-- what is committed by the event
abbrev pub committed_by : Entry → List ℕ
committed_by (entry.Committed tid) = tid ∷ []
committed_by e = []

abbrev pub committed_in : List Entry → List ℕ
committed_in entries = flat_map committed_by entries

-- the world after an event of the node of this slot
abbrev pub world_with : WorldValue → SlotValue → PlacesState → Event → WorldValue
world_with w slot q e =
    record { settings = w.settings; places = q; slots = with_slot slot w.slots; commits = w.commits ++ committed_in e.entries; events = w.events ++ e ∷ [] }

-- the request of a node, with its reply and what is told of it
abbrev pub request_event : ℕ → Asked → Reply → List Entry → Event
request_event number a told entries = record { node = number; place = a.place; request = a.request; reply = told; entries = entries }

-- and its death notice
abbrev pub notice_event : Settings → ℕ → ManagerRequest → Reply → Ending → Event
notice_event settings number notice told ending =
    record {
      node = number;
      place = place.Manager (home_of settings number);
      request = request_of.Manager notice;
      reply = told;
      entries = entry.Vanished number ending ∷ [];
    }

-- a place has served the request that the node of this slot asks
pub record HasServed (w : WorldValue) (number : ℕ) (slot : SlotValue) (v : NodeValue) (a : Asked) (told : Reply) (q : PlacesState) : Type 0 where
  pub was : slot_of w.slots number ≡ Some slot
  pub there : slot.node ≡ Some v
  pub asks_so : v.ask ≡ Some a
  pub call : IsCall a.place a.request told
  pub served : HaveServed a.place a.request told w.places q
