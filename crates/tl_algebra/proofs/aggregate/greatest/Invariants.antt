use Rattle.std.proofs.Common.{◌≡◌, drop}
use Rattle.std.specs.Option.{option_copied}
use Rattle.tl_algebra.specs.Aggregate.{greatest_of, greater_value, known_at}
use Rattle.tl_algebra.proofs.Aggregates.{chosen_from}
use Rattle.tl_algebra.proofs.aggregate.greatest.Given as goal

abbrev pub invariant-loop-row : goal.invariant-loop-row
invariant-loop-row l = chosen_from greater_value (option_copied l.greatest) (known_at l.place (drop l.row-index l.rows)) ≡ greatest_of (known_at l.place l.rows)
