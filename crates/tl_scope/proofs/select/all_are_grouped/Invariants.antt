use Rattle.std.proofs.Common.{◌≡◌, drop}
use Rattle.tl_scope.specs.Select.{all_are_grouped}
use Rattle.tl_scope.proofs.select.all_are_grouped.Given as goal

-- it is so exactly where it is of those that are left
abbrev pub invariant-loop-i : goal.invariant-loop-i
invariant-loop-i l = all_are_grouped l.columns l.i (drop l.i l.scope) ≡ all_are_grouped l.columns 0 l.scope
