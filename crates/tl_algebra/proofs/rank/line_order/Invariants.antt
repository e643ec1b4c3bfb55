use Rattle.std.proofs.Common.{◌≡◌, drop}
use Rattle.std.specs.Ordering.{ordering_then}
use Rattle.tl_values.specs.Value.{row_cmp}
use Rattle.tl_algebra.specs.Sorting.{keys_cmp, line_cmp}
use Rattle.tl_algebra.proofs.rank.line_order.Given as goal

-- the keys so far are the same
abbrev pub invariant-loop-at : goal.invariant-loop-at
invariant-loop-at l =
    ordering_then (keys_cmp (drop l.at l.sort-items) (drop l.at l.a.keys) (drop l.at l.b.keys)) (row_cmp l.a.printed l.b.printed) ≡ line_cmp l.sorts l.a l.b
