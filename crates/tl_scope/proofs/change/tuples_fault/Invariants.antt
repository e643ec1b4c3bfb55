use Rattle.std.proofs.Common.{◌≡◌, drop}
use Rattle.std.specs.List.{flat_map}
use Rattle.tl_scope.specs.Fault.{earliest, least}
use Rattle.tl_scope.specs.Change.{tuple_faults}
use Rattle.tl_scope.proofs.change.tuples_fault.Given as goal

-- the first so far and of those that are left
abbrev pub invariant-loop-tuple : goal.invariant-loop-tuple
invariant-loop-tuple l =
    earliest l.fault (least (flat_map (tuple_faults l.columns l.named) (drop l.tuple-index l.tuple-items))) ≡ least (flat_map (tuple_faults l.columns l.named) l.tuples)
