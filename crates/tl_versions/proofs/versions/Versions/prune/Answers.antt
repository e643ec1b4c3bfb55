use Rattle.std.proofs.Common.{arith}
use Rattle.tl_versions.proofs.Lists.{prune_cell, prune_found, prune_nothing}
use Rattle.tl_versions.proofs.versions.Versions.prune.Goals as goal

pub invariant_of-self : goal.invariant_of-self
invariant_of-self c =
    let place = rw c.as_slice.ensures at c.count_outside-place.ensures in
    rw (prune_found c.args.floor.now c.self.inside.versions c.truncate.new.self c.count_outside-place.result place c.truncate.ensures) (prune_cell c.args.floor.now c.self.inside.versions c.self.invariant)

pub returns-then-place-len : goal.returns-then-place-len
returns-then-place-len c =
    let place = rw c.as_slice.ensures at c.count_outside-place.ensures in
    rw (← c.self.view_is) (prune_found c.args.floor.now c.self.inside.versions c.truncate.new.self c.count_outside-place.result place c.truncate.ensures)

pub returns-else-place-len : goal.returns-else-place-len
returns-else-place-len c =
    let place = rw c.as_slice.ensures at c.count_outside-place.ensures in
    rw (← c.self.view_is) (prune_nothing c.args.floor.now c.self.inside.versions c.count_outside-place.result place (omega (arith, c.len.ensures)))
