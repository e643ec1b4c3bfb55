use Rattle.std.proofs.Common.{◌≡◌, ◌≤◌, ◌-◌, length}
use Rattle.std.specs.Prelude.{drop}
use Rattle.tl_world.specs.Slot.{spot}
use Rattle.tl_world.proofs.slot.spot.Given as goal

abbrev pub invariant-loop-at : goal.invariant-loop-at
invariant-loop-at l = (l.at ≤ length l.slots) × (spot 0 l.slots l.number ≡ spot l.at (drop l.at l.slots) l.number)

-- proposed from the loop's first test
abbrev pub decreases-loop-at : goal.decreases-loop-at
decreases-loop-at l = length l.slots - l.at
