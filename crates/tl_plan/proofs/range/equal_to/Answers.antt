use Rattle.std.proofs.Common.{◌+◌, ap, sym, ◌∙◌}
use Rattle.std.proofs.lemmas.List.{drop_all}
use Rattle.tl_plan.specs.Steps.{first_equal}
use Rattle.tl_plan.proofs.Parts.{equal_at, first_equal_is}
use Rattle.tl_plan.proofs.range.equal_to.Goals as goal

pub returns-in-Some : goal.returns-in-Some
returns-in-Some c =
    equal_at (c.args.offset + c.args.column) c.args.parts.now c.loop-part.part-index c.part-item.result c.in-Some.value.now
    c.loop-part-test.true c.part-item.is c.in-Some.ensures c.loop-part.invariant

pub returns : goal.returns
returns c =
    let place = c.args.offset + c.args.column in
    ap (first_equal place) (sym (drop_all c.loop-part.part-index c.args.parts.now c.loop-part-test.false))
    ∙ c.loop-part.invariant ∙ first_equal_is place c.args.parts.now
