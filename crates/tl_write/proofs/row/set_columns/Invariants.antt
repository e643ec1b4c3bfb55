use Rattle.std.proofs.Common.{◌≡◌, drop}
use Rattle.tl_write.specs.Change.{set_columns}
use Rattle.tl_write.proofs.row.set_columns.Given as goal

-- the rest over the row so far are all
abbrev pub invariant-loop-set : goal.invariant-loop-set
invariant-loop-set l = set_columns (drop l.set-index l.sets) l.old l.row ≡ set_columns l.sets l.old l.old
