use Rattle.std.proofs.Common.{◌≡◌, drop}
use Rattle.std.specs.List.{flat_map}
use Rattle.tl_scope.specs.Fault.{earliest, least}
use Rattle.tl_scope.specs.Scope.{column_faults}
use Rattle.tl_scope.proofs.select.columns_fault.Given as goal

-- the first so far and of those that are left
abbrev pub invariant-loop-name : goal.invariant-loop-name
invariant-loop-name l =
    earliest l.fault (least (flat_map (column_faults l.scope) (drop l.name-index l.group))) ≡ least (flat_map (column_faults l.scope) l.group)
