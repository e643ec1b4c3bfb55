use Rattle.std.proofs.Common.{◌≡◌, ◌++◌, drop, map}
use Rattle.tl_bind.specs.Place.{place_of}
use Rattle.tl_bind.proofs.select.group_of.Given as goal

-- those so far and those that are left
abbrev pub invariant-loop-name : goal.invariant-loop-name
invariant-loop-name l = l.places ++ map (place_of l.scope) (drop l.name-index l.group) ≡ map (place_of l.scope) l.group
