use Rattle.std.proofs.Common.{◌+◌, ap, sym, ◌∙◌}
use Rattle.std.proofs.lemmas.List.{drop_all}
use Rattle.tl_plan.specs.Steps.{low_from}
use Rattle.tl_plan.proofs.Parts.{low_bound_is}
use Rattle.tl_plan.proofs.range.low_bound.Goals as goal

pub returns : goal.returns
returns c =
    let place = c.args.offset + c.args.column in
    ap (low_from place c.loop-part.low) (sym (drop_all c.loop-part.part-index c.args.parts.now c.loop-part-test.false))
    ∙ c.loop-part.invariant ∙ low_bound_is place c.args.parts.now
