use Rattle.std.proofs.Common.{◌≡◌, ◌++◌, drop, length, take}
use Rattle.std.specs.List.{AllByRecursion}
use Rattle.tl_scope.specs.Scope.{scope_of}
use Rattle.tl_bind.specs.Select.{joins_from}
use Rattle.tl_bind.specs.Values.{JoinHasValues}
use Rattle.tl_bind.proofs.select.joins_of.Given as goal

-- the scope so far, the joins so far and those that are left, and the literals so far
abbrev pub invariant-loop-item : goal.invariant-loop-item
invariant-loop-item l = record {
  scope : l.scope ++ scope_of l.catalog (drop l.item-index l.from) ≡ scope_of l.catalog l.from;
  length : length l.scope ≡ l.item-index;
  joins : l.joins ++ joins_from l.catalog (scope_of l.catalog l.from) l.item-index (drop l.item-index l.from) ≡ joins_from l.catalog (scope_of l.catalog l.from) 0 l.from;
  values : AllByRecursion JoinHasValues (take l.item-index l.from);
}
