use Rattle.std.proofs.Common.{◌≡◌, drop}
use Rattle.tl_values.specs.Value.{row_cmp}
use Rattle.tl_algebra.proofs.rank.row_order.Given as goal

-- the values so far are the same
abbrev pub invariant-loop-x : goal.invariant-loop-x
invariant-loop-x l = row_cmp (drop l.x-index l.x-items) l.rest ≡ row_cmp l.a l.b
