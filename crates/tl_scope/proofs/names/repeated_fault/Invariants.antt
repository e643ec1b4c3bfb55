use Rattle.std.proofs.Common.{◌≡◌, drop}
use Rattle.tl_scope.specs.Fault.{earliest, least}
use Rattle.tl_scope.specs.Named.{repeated_after, repeated_faults}
use Rattle.tl_scope.proofs.names.repeated_fault.Given as goal

-- the first so far and of those that are left
abbrev pub invariant-loop-name : goal.invariant-loop-name
invariant-loop-name l = earliest l.repeats.fault (least (repeated_after l.repeats.seen (drop l.name-index l.names))) ≡ least (repeated_faults l.names)
