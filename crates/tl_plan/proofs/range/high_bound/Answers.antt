use Rattle.std.proofs.Common.{◌+◌, ap, sym, ◌∙◌}
use Rattle.std.proofs.lemmas.List.{drop_all}
use Rattle.tl_plan.specs.Steps.{high_from}
use Rattle.tl_plan.proofs.Parts.{high_bound_is}
use Rattle.tl_plan.proofs.range.high_bound.Goals as goal

pub returns : goal.returns
returns c =
    let place = c.args.offset + c.args.column in
    ap (high_from place c.loop-part.high) (sym (drop_all c.loop-part.part-index c.args.parts.now c.loop-part-test.false))
    ∙ c.loop-part.invariant ∙ high_bound_is place c.args.parts.now
