use Rattle.std.proofs.Common.{◌≡◌, ◌++◌, drop}
use Rattle.tl_bind.specs.Change.{row_from}
use Rattle.tl_bind.proofs.change.row_of.Given as goal

-- those so far and those that are left
abbrev pub invariant-loop-at : goal.invariant-loop-at
invariant-loop-at l = l.row ++ row_from l.columns l.named l.tuple.values l.at (drop l.at l.columns) ≡ row_from l.columns l.named l.tuple.values 0 l.columns
