use Rattle.std.proofs.Common.{◌≡◌, map, take}
use Rattle.tl_values.specs.Value.{value_at}
use Rattle.tl_values.proofs.row.values_at.Given as goal

abbrev pub invariant-loop-place : goal.invariant-loop-place
invariant-loop-place l = l.values ≡ map (value_at l.row) (take l.place-index l.places)
