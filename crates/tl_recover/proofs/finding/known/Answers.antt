use Rattle.std.proofs.Common.{◌^◌, refl, arith}
use Rattle.tl_recover.proofs.Known.{one_more}
use Rattle.tl_recover.proofs.finding.known.Goals as goal

pub loop-tid-preserved : goal.loop-tid-preserved
loop-tid-preserved c =
    one_more (2 ^ 62) c.loop-tid.ids c.push.new.self c.args.tids.now c.loop-tid.tid-index c.in-Some.id (omega arith) c.in_ok-push.ensures.ok c.in-Some.ensures.value (omega (arith, c.in-Some.ensures.within.0 refl, c.in-Some.ensures.value)) c.loop-tid.invariant
