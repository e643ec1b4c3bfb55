use Rattle.std.proofs.Common.{arith}
use Rattle.std.proofs.lemmas.Int.{ints}
use Rattle.tl_algebra.proofs.Aggregates.{total_next}
use Rattle.tl_algebra.proofs.aggregate.total.Goals as goal

pub loop-row-preserved : goal.loop-row-preserved
loop-row-preserved c =
    let next = total_next c.args.place c.args.rows.now c.loop-row.row-index c.row-item.result c.loop-row-test.true c.row-item.is in
    record { rest = omega (arith, ints, next); low = omega (arith, ints); high = omega (arith, ints) }
