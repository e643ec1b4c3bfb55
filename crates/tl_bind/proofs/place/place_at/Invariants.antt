use Rattle.std.proofs.Common.{◌≡◌, drop}
use Rattle.tl_bind.specs.Place.{place_at}
use Rattle.tl_bind.proofs.place.place_at.Given as goal

-- the columns so far, and the place in the items that are left
abbrev pub invariant-loop-source : goal.invariant-loop-source
invariant-loop-source l = place_at l.place (drop l.source-index l.sources) l.before ≡ place_at l.fn.spot.column l.sources l.fn.spot.item
