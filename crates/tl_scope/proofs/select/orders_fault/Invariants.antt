use Rattle.std.proofs.Common.{◌≡◌, drop}
use Rattle.std.specs.List.{flat_map}
use Rattle.tl_scope.specs.Fault.{earliest, least}
use Rattle.tl_scope.specs.Select.{order_faults}
use Rattle.tl_scope.proofs.select.orders_fault.Given as goal

-- the first so far and of those that are left
abbrev pub invariant-loop-item : goal.invariant-loop-item
invariant-loop-item l =
    earliest l.fault (least (flat_map (order_faults l.scope l.columns l.grouped l.printed) (drop l.item-index l.order))) ≡ least (flat_map (order_faults l.scope l.columns l.grouped l.printed) l.order)
