use Rattle.std.proofs.Common.{◌≡◌, ◌≤◌, drop, length}
use Rattle.tl_algebra.specs.Select.{product}
use Rattle.tl_algebra.proofs.product.product.Given as goal

-- the product of the tables from here on
abbrev pub invariant-loop-left : goal.invariant-loop-left
invariant-loop-left l = record {
  inside : l.left ≤ length l.tables;
  made : l.rows ≡ product (drop l.left l.tables);
}

abbrev pub decreases-loop-left : goal.decreases-loop-left
decreases-loop-left l = l.left
