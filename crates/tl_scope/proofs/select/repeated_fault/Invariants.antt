use Rattle.std.proofs.Common.{◌≡◌, drop, map}
use Rattle.tl_scope.specs.Fault.{earliest, least}
use Rattle.tl_scope.specs.Named.{repeated_after, repeated_faults}
use Rattle.tl_scope.specs.Scope.{called}
use Rattle.tl_scope.proofs.select.repeated_fault.Given as goal

-- the first so far and of those that are left
abbrev pub invariant-loop-item : goal.invariant-loop-item
invariant-loop-item l = earliest l.repeats.fault (least (repeated_after l.repeats.seen (map called (drop l.item-index l.from)))) ≡ least (repeated_faults (map called l.from))
