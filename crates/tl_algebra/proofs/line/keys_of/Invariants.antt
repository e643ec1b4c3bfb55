use Rattle.std.proofs.Common.{◌≡◌, map, take}
use Rattle.tl_algebra.specs.declared.query.Sort.{Sort}
use Rattle.tl_algebra.specs.Sorting.{key_of}
use Rattle.tl_algebra.proofs.line.keys_of.Given as goal

abbrev pub invariant-loop-sort : goal.invariant-loop-sort
invariant-loop-sort l = l.keys ≡ map (λ (sort : Sort). key_of l.first l.printed sort.by) (take l.sort-index l.sort-items)
