use Rattle.std.proofs.Common.{◌≡◌, drop}
use Rattle.std.specs.List.{flat_map}
use Rattle.tl_scope.specs.Change.{set_faults}
use Rattle.tl_scope.specs.Fault.{earliest, least}
use Rattle.tl_scope.proofs.change.sets_fault.Given as goal

-- the first so far and of those that are left
abbrev pub invariant-loop-set : goal.invariant-loop-set
invariant-loop-set l = earliest l.fault (least (flat_map (set_faults l.table) (drop l.set-index l.sets))) ≡ least (flat_map (set_faults l.table) l.sets)
