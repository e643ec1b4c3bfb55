use Rattle.std.proofs.Common.{arith}
use Rattle.tl_versions.proofs.Lists.{strip_cell, strip_found, strip_nothing}
use Rattle.tl_versions.proofs.versions.Versions.strip.Goals as goal

pub invariant_of-self : goal.invariant_of-self
invariant_of-self c =
    let place = rw c.as_slice.ensures at c.count_others-place.ensures in
    rw (strip_found c.args.tid c.self.inside.versions c.remove.new.self c.count_others-place.result place c.remove.ensures.rest) (strip_cell c.args.tid c.self.inside.versions c.self.invariant)

pub returns-then-place-len : goal.returns-then-place-len
returns-then-place-len c =
    let place = rw c.as_slice.ensures at c.count_others-place.ensures in
    rw (← c.self.view_is) (strip_found c.args.tid c.self.inside.versions c.remove.new.self c.count_others-place.result place c.remove.ensures.rest)

pub returns-else-place-len : goal.returns-else-place-len
returns-else-place-len c =
    let place = rw c.as_slice.ensures at c.count_others-place.ensures in
    rw (← c.self.view_is) (strip_nothing c.args.tid c.self.inside.versions c.count_others-place.result place (omega (arith, c.len.ensures)))
