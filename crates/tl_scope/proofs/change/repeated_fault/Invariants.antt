use Rattle.std.proofs.Common.{◌≡◌, drop, map}
use Rattle.tl_scope.specs.Change.{set_name}
use Rattle.tl_scope.specs.Fault.{earliest, least}
use Rattle.tl_scope.specs.Named.{repeated_after, repeated_faults}
use Rattle.tl_scope.proofs.change.repeated_fault.Given as goal

-- the first so far and of those that are left
abbrev pub invariant-loop-set : goal.invariant-loop-set
invariant-loop-set l = earliest l.repeats.fault (least (repeated_after l.repeats.seen (map set_name (drop l.set-index l.sets)))) ≡ least (repeated_faults (map set_name l.sets))
