use Rattle.std.proofs.Common.{◌≡◌, ◌*◌, ◌^◌, pos, neg_ℤ, ◌+ℤ◌, ◌≤ℤ◌, drop}
use Rattle.tl_algebra.specs.Aggregate.{known_at, numbers, total}
use Rattle.tl_algebra.proofs.aggregate.total.Given as goal

-- each number is 2^63 at most
abbrev pub invariant-loop-row : goal.invariant-loop-row
invariant-loop-row l = record {
  rest : l.sum +ℤ total (numbers (known_at l.place (drop l.row-index l.rows))) ≡ total (numbers (known_at l.place l.rows));
  low : neg_ℤ (pos (l.row-index * 2 ^ 63)) ≤ℤ l.sum;
  high : l.sum ≤ℤ pos (l.row-index * 2 ^ 63);
}
