use Rattle.std.proofs.Common.{◌≡◌, ◌≤◌, drop, length}
use Rattle.tl_isolation.specs.Tables.{no_table, opening_writes}
use Rattle.tl_si.proofs.state.opening_writes.Given as goal

-- the writes of the rows from here on
abbrev pub invariant-loop-at : goal.invariant-loop-at
invariant-loop-at l = record {
  within : l.at ≤ length l.rows;
  none : l.none ≡ no_table;
  written : l.writes ≡ opening_writes l.catalog (drop l.at l.rows);
}

abbrev pub decreases-loop-at : goal.decreases-loop-at
decreases-loop-at l = l.at
