use Rattle.std.proofs.Common.{◌≡◌}
use Rattle.std.specs.Vec.Iter.{into_iter_items}
use Rattle.tl_write.specs.Tables.{laid_over}
use Rattle.tl_opening.proofs.opening.lay_over.Given as goal

-- the rest over what is there
abbrev pub invariant-loop-write : goal.invariant-loop-write
invariant-loop-write l = laid_over l.opening (into_iter_items l.write-iterator) ≡ laid_over l.fn.opening l.fn.writes
