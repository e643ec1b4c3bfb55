use Rattle.std.proofs.Common.{◌≡◌, ◌++◌, drop}
use Rattle.tl_scope.specs.Scope.{scope_of}
use Rattle.tl_scope.proofs.scope.scope_of.Given as goal

-- those so far and those that are left
abbrev pub invariant-loop-item : goal.invariant-loop-item
invariant-loop-item l = l.scope ++ scope_of l.catalog (drop l.item-index l.from) ≡ scope_of l.catalog l.from
