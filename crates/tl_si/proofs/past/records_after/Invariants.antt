use Rattle.std.proofs.Common.{◌≡◌}
use Rattle.std.specs.FinMap as finmap
use Rattle.tl_si.specs.Places.{with_records}
use Rattle.tl_si.proofs.past.records_after.Given as goal

-- the records so far and those that are left are all
abbrev pub invariant-loop-key : goal.invariant-loop-key
invariant-loop-key l =
    with_records l.number l.commits l.first l.table l.key-iterator ≡ with_records l.number l.commits l.first finmap.empty l.initial.key-iterator
