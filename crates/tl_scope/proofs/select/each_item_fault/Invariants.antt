use Rattle.std.proofs.Common.{◌≡◌, drop}
use Rattle.std.specs.List.{flat_map}
use Rattle.tl_scope.specs.Fault.{earliest, least}
use Rattle.tl_scope.specs.Select.{item_faults}
use Rattle.tl_scope.proofs.select.each_item_fault.Given as goal

-- the first so far and of those that are left
abbrev pub invariant-loop-item : goal.invariant-loop-item
invariant-loop-item l =
    earliest l.fault (least (flat_map (item_faults l.scope l.columns l.grouped) (drop l.item-index l.items))) ≡ least (flat_map (item_faults l.scope l.columns l.grouped) l.items)
