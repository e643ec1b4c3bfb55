use Rattle.std.proofs.Common.{◌≡◌, drop}
use Rattle.tl_scope.specs.Fault.{each_from, earliest, least}
use Rattle.tl_scope.specs.Change.{literal_faults}
use Rattle.tl_scope.proofs.change.literals_fault.Given as goal

-- the first so far and of those that are left
abbrev pub invariant-loop-at : goal.invariant-loop-at
invariant-loop-at l =
    earliest l.fault (least (each_from (literal_faults l.columns l.named) l.at (drop l.at l.values))) ≡ least (each_from (literal_faults l.columns l.named) 0 l.values)
