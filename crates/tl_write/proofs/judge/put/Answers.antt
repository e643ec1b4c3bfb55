use Rattle.tl_write.proofs.Judged.{again, anew}
use Rattle.tl_write.proofs.judge.put.Goals as goal

pub returns-then-not-is_fresh : goal.returns-then-not-is_fresh
returns-then-not-is_fresh c =
    again c.args.own.now c.args.progress c.in_ok-with_write.field-0 c.args.write c.is_fresh.result c.is_fresh.ensures.rising c.requires c.is_fresh.ensures.fresh c.if-not-is_fresh.true c.in_ok-with_write.ensures

pub returns : goal.returns
returns c =
    anew c.args.own.now c.args.progress c.in_ok-with_write-2.field-0 c.args.write c.is_fresh.result c.is_full.result c.requires c.is_fresh.ensures.fresh c.if-not-is_fresh.false c.is_full.ensures c.if-is_full.false c.in_ok-with_write-2.ensures
