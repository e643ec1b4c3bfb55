use Rattle.std.proofs.Common.{◌≡◌, map}
use Rattle.std.specs.Vec.Iter.{into_iter_items}
use Rattle.tl_algebra.specs.declared.group.Group.{Group}
use Rattle.tl_algebra.specs.Group.{grouped}
use Rattle.tl_algebra.proofs.Growing.{added_all}
use Rattle.tl_algebra.proofs.group.grouped.Given as goal

-- with the rows that are left added, these are the groups
abbrev pub invariant-loop-row : goal.invariant-loop-row
invariant-loop-row l = map (λ (group : Group). group.rows) (added_all l.places (into_iter_items l.row-iterator) l.groups.items) ≡ grouped l.places l.fn.rows
