use Rattle.std.proofs.Common.{◌≡◌, ◌+◌, drop, length}
use Rattle.tl_bind.specs.Place.{columns_in}
use Rattle.tl_bind.proofs.place.width.Given as goal

-- the columns so far and those that are left
abbrev pub invariant-loop-source : goal.invariant-loop-source
invariant-loop-source l = l.width + length (columns_in (drop l.source-index l.source-items)) ≡ length (columns_in l.scope)
