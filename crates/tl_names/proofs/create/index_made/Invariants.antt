use Rattle.std.proofs.Common.{◌≡◌, ◌++◌, drop, map}
use Rattle.tl_names.specs.Define.{place_in}
use Rattle.tl_names.proofs.create.index_made.Given as goal

-- those so far and those that are left
abbrev pub invariant-loop-name : goal.invariant-loop-name
invariant-loop-name l = l.places ++ map (place_in l.columns) (drop l.name-index l.names) ≡ map (place_in l.columns) l.names
