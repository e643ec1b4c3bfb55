-- The clock of the schedule, as code keeps it.
use Rattle.std.specs.Prelude.{◌≡◌, ◌<◌, ◌≤◌, ℕ, Bool, true, false, List, [], ◌++◌, Option, Some, None, if◌then◌else◌}
use Rattle.std.specs.Option.{option_to_list}
use Rattle.tl_isolation.specs.declared.script.Script.{Script}
use Rattle.tl_journal.specs.declared.event.Event.{Event}
use Rattle.tl_journal.specs.Schedule.{Clock, is_behind, ticked, unfinished}
use Rattle.tl_turns.specs.declared.clock.Clock as code

-- what is left of the item in hand, and the items behind it
abbrev pub clock_of : code.Clock → Clock
clock_of c = record { items = option_to_list c.present ++ c.later.now; last = c.last }

-- an item is in hand, where one is left
abbrev pub HasItem : code.Clock → Type 0
HasItem c = c.present ≡ None → c.later.now ≡ []

-- the clock, where the finished items are passed
abbrev pub passed : Script → List Event → Clock → Clock
passed script events clock = record clock { items = unfinished script events clock.items }

-- the clock after the turn of a node, of which this is the first event
abbrev pub after_turn : List Event → Event → ℕ → Clock → Clock
after_turn past e node clock = if is_behind past e then clock else ticked node clock.items clock

-- the node of this number, which isn't over; none where it is, or where no node has the number
abbrev pub IsRunning : (ℕ → Bool) → ℕ → Option ℕ → Type 0
IsRunning over number None = 1 ≤ number → number ≤ 16 → over number ≡ true
IsRunning over number (Some node) = (node ≡ number) × (1 ≤ number) × (number ≤ 16) × (over number ≡ false)

-- the lowest node above the one number and up to the other that isn't over
abbrev pub IsFirst : (ℕ → Bool) → ℕ → ℕ → Option ℕ → Type 0
IsFirst over above up_to None = (k : ℕ) → above < k → k ≤ up_to → k ≤ 16 → over k ≡ true
IsFirst over above up_to (Some n) =
    (above < n) × (n ≤ up_to) × (n ≤ 16) × (over n ≡ false) × ((k : ℕ) → above < k → k < n → over k ≡ true)
