use Rattle.std.proofs.Common.{◌≡◌, ◌++◌, drop}
use Rattle.tl_names.specs.Define.{primary_from}
use Rattle.tl_names.proofs.create.primary_places.Given as goal

-- those so far and those that are left
abbrev pub invariant-loop-at : goal.invariant-loop-at
invariant-loop-at l = l.places ++ primary_from l.at (drop l.at l.columns) ≡ primary_from 0 l.columns
