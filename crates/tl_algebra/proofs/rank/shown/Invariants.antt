use Rattle.std.proofs.Common.{◌≡◌, ◌++◌, map}
use Rattle.std.specs.Vec.Iter.{into_iter_items}
use Rattle.tl_algebra.specs.declared.line.Line.{Line}
use Rattle.tl_algebra.proofs.rank.shown.Given as goal

abbrev pub invariant-loop-line : goal.invariant-loop-line
invariant-loop-line l =
    l.rows ++ map (λ (line : Line). line.printed) (into_iter_items l.line-iterator) ≡ map (λ (line : Line). line.printed) l.fn.lines.items
