use Rattle.std.proofs.Common.{◌≡◌, ◌++◌, drop}
use Rattle.tl_scope.specs.Select.{grouping}
use Rattle.tl_scope.proofs.select.grouping.Given as goal

-- those so far and those that are left
abbrev pub invariant-loop-name : goal.invariant-loop-name
invariant-loop-name l = l.columns ++ grouping l.scope (drop l.name-index l.group) ≡ grouping l.scope l.group
