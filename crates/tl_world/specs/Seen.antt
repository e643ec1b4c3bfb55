-- What a world in memory stands for.
use Rattle.std.specs.Prelude.{◌≡◌, ◌<◌, ◌≤◌, ◌+◌, ◌^◌, Bool, true, false, ℕ, [], length, Some, slice_index_or, vec_capacity, vec_len}
use Rattle.tl_world.specs.declared.world.World.{World}
use Rattle.tl_base.specs.declared.place.Settings.{Settings}
use Rattle.tl_node.specs.View.{NodeValue}
use Rattle.tl_world.specs.Slot.{has_more, spot}
use Rattle.tl_isolation.specs.declared.entry.Ending.{Ending}
use Rattle.tl_isolation.specs.declared.script.Script.{Script}
use Rattle.tl_world.specs.Premises.{LogsAreServed}
use Rattle.tl_world.specs.Stands.{SlotValue, Stands, StandsBut, WorldValue, slot_of}
use Rattle.tl_world.specs.Turns.{Ends, Goes, TurnsTo, due_by}
use Rattle.tl_world.specs.declared.world.Turned.{Turned}
use Rattle.tl_world.specs.declared.world.Turned.TheVariants as turned_so

abbrev pub seen_as : World → WorldValue
seen_as w = record { settings = w.terms; places = w.places; slots = w.slots.items; commits = w.commits.items; events = w.events.items }

-- there is room for an event and a death notice behind it
pub record HasRoom (w : World) : Type 0 where
  pub events : vec_len w.events + 2 ≤ vec_capacity w.events
  pub commits : vec_len w.commits < vec_capacity w.commits
  pub spare : vec_len w.spare + 2 ≤ vec_capacity w.spare
  pub last : vec_len w.last < vec_capacity w.last
  pub spare_empty : w.spare.items ≡ []
  pub last_empty : w.last.items ≡ []
  pub few_events : length w.events.items + 2 < 2 ^ 32
  pub few_commits : length w.commits.items < 2 ^ 32

pub record HasRoomForNotice (w : World) : Type 0 where
  pub events : vec_len w.events < vec_capacity w.events
  pub last : vec_len w.last < vec_capacity w.last
  pub last_empty : w.last.items ≡ []
  pub few_events : length w.events.items + 1 < 2 ^ 32

-- the slot at this place is that of the node, which runs
pub record IsThere (w : World) (number at : ℕ) : Type 0 where
  pub spot_is : spot 0 w.slots.items number ≡ Some at
  pub node : NodeValue
  pub node_is : (d : SlotValue) → (slice_index_or w.slots.items at d).node ≡ Some node

-- the node of the slot has more to do, its count isn't reached, and it may make a request more
pub record Runs (settings : Settings) (slot : SlotValue) : Type 0 where
  pub more : has_more slot.node ≡ true
  pub due : due_by slot.vanish slot.counted ≡ false
  pub made : slot.made < settings.budget
  pub fits : settings.budget < 2 ^ 32

-- ---- what the parts of a turn do, where the places serve their logs

-- the node has ended so, and its death notice stands
unfoldable pub HasEnded : ℕ → Ending → World → Turned → World → Type 0
HasEnded number ending old turned new =
    LogsAreServed → (script : Script) → StandsBut number script (seen_as old)
    → (turned ≡ turned_so.Ended ending) × Ends script number ending (seen_as old) (seen_as new)

-- so a turn of the node ends, which has made a request in it
unfoldable pub HasGoneOn : ℕ → Bool → World → Turned → World → Type 0
HasGoneOn number wants old turned new =
    LogsAreServed → (script : Script) (w : WorldValue) → Stands script w → (slot : SlotValue) → slot_of w.slots number ≡ Some slot → Runs w.settings slot
    → Goes script number w wants (seen_as old) → Stands script (seen_as new) × TurnsTo script number w turned (seen_as new)

-- so a turn of a node ends that has more to do
unfoldable pub HasTurned : ℕ → World → Turned → World → Type 0
HasTurned number old turned new =
    LogsAreServed → (script : Script) → Stands script (seen_as old) → Stands script (seen_as new) × TurnsTo script number (seen_as old) turned (seen_as new)
