use Rattle.std.proofs.Common.{◌≡◌, ◌++◌, drop, map}
use Rattle.tl_bind.specs.Select.{sort_of}
use Rattle.tl_bind.proofs.select.sorts_of.Given as goal

-- those so far and those that are left
abbrev pub invariant-loop-item : goal.invariant-loop-item
invariant-loop-item l = l.sorts ++ map (sort_of l.scope) (drop l.item-index l.order) ≡ map (sort_of l.scope) l.order
