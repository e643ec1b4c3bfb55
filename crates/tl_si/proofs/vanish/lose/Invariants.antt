use Rattle.std.proofs.Common.{◌≡◌, ◌++◌, map}
use Rattle.std.specs.Vec.Iter.{into_iter_items}
use Rattle.tl_isolation.specs.Step.{lose}
use Rattle.tl_si.proofs.vanish.lose.Given as goal

abbrev pub invariant-loop-t : goal.invariant-loop-t
invariant-loop-t l = l.lost.items ++ map (lose l.node) (into_iter_items l.t-iterator) ≡ map (lose l.node) l.fn.held.items
