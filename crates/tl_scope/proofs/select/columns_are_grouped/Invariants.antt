use Rattle.std.proofs.Common.{◌≡◌, drop}
use Rattle.tl_scope.specs.Select.{columns_are_grouped}
use Rattle.tl_scope.proofs.select.columns_are_grouped.Given as goal

-- it is so exactly where it is of those that are left
abbrev pub invariant-loop-column : goal.invariant-loop-column
invariant-loop-column l = columns_are_grouped l.columns l.item l.column (drop l.column l.fn.shown) ≡ columns_are_grouped l.columns l.item 0 l.fn.shown
