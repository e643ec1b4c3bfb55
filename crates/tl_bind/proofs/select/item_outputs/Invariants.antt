use Rattle.std.proofs.Common.{◌≡◌, ◌++◌, drop, map, take}
use Rattle.std.specs.List.{AllByRecursion}
use Rattle.tl_bind.specs.Select.{item_output}
use Rattle.tl_bind.specs.Values.{ItemHasValues}
use Rattle.tl_bind.proofs.select.item_outputs.Given as goal

-- those so far and those that are left, and the literals so far
abbrev pub invariant-loop-item : goal.invariant-loop-item
invariant-loop-item l = record {
  same : l.outputs ++ map (item_output l.scope) (drop l.item-index l.item-items) ≡ map (item_output l.scope) l.items;
  values : AllByRecursion ItemHasValues (take l.item-index l.item-items);
}
