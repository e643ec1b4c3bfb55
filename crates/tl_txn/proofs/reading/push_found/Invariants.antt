use Rattle.std.proofs.Common.{◌≡◌, ◌++◌, take}
use Rattle.tl_journal.specs.Reads.{rows_found}
use Rattle.tl_txn.proofs.reading.push_found.Given as goal

-- the rows of the cells so far were put to the others
abbrev pub invariant-loop-cell : goal.invariant-loop-cell
invariant-loop-cell l = l.rows ≡ l.initial.rows ++ rows_found l.snapshot (take l.cell-index l.found)
