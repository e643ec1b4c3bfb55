use Rattle.std.proofs.Common.{◌≡◌, drop}
use Rattle.tl_algebra.specs.Aggregate.{known_at, numbers}
use Rattle.tl_algebra.proofs.aggregate.has_number.Given as goal

-- there is none so far
abbrev pub invariant-loop-row : goal.invariant-loop-row
invariant-loop-row l = numbers (known_at l.place (drop l.row-index l.rows)) ≡ numbers (known_at l.place l.rows)
