use Rattle.std.proofs.Common.{◌≡◌, ◌++◌, drop, map, take}
use Rattle.std.specs.List.{AllByRecursion}
use Rattle.tl_bind.specs.Change.{set_of}
use Rattle.tl_bind.specs.Values.{SetHasValues}
use Rattle.tl_bind.proofs.change.sets_of.Given as goal

-- those so far and those that are left, and the literals so far
abbrev pub invariant-loop-set : goal.invariant-loop-set
invariant-loop-set l = record {
  same : l.bound ++ map (set_of l.table) (drop l.set-index l.sets) ≡ map (set_of l.table) l.sets;
  values : AllByRecursion SetHasValues (take l.set-index l.sets);
}
