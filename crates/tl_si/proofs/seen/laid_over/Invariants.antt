use Rattle.std.proofs.Common.{◌≡◌, drop}
use Rattle.tl_write.specs.Tables.{laid_over, writes_in}
use Rattle.tl_si.proofs.seen.laid_over.Given as goal

abbrev pub invariant-loop-write : goal.invariant-loop-write
invariant-loop-write l = laid_over l.records (writes_in l.number (drop l.write-index l.writes)) ≡ laid_over l.fn.records (writes_in l.number l.writes)
