use Rattle.std.proofs.Common.{◌∙◌}
use Rattle.tl_bind.proofs.Lists.{columns_next}
use Rattle.tl_bind.proofs.select.all_columns.Goals as goal

pub loop-place-preserved : goal.loop-place-preserved
loop-place-preserved c =
    let l = c.loop-place in
    columns_next l.place c.args.count l.outputs c.push.new.self c.loop-place-test.true c.in_ok-push.ensures.ok ∙ l.invariant
