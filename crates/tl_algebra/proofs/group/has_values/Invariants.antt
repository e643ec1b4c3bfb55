use Rattle.std.proofs.Common.{◌≡◌, drop}
use Rattle.tl_values.specs.Value.{values_at}
use Rattle.tl_algebra.specs.Group.{same_row}
use Rattle.tl_algebra.proofs.group.has_values.Given as goal

-- the values so far are the same
abbrev pub invariant-loop-place : goal.invariant-loop-place
invariant-loop-place l = same_row l.rest (values_at (drop l.place-index l.place-items) l.row) ≡ same_row l.values (values_at l.places l.row)
