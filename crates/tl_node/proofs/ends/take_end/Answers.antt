use Rattle.std.proofs.Common.{Some, None}
use Rattle.tl_node.proofs.LastReplies.{after_same, fits_same}
use Rattle.tl_node.proofs.ends.take_end.Goals as goal

pub take_last-requires : goal.take_last-requires
take_last-requires c = fits_same c.args.core.now c.args.txn c.args.stage c.args.last (Some c.in-Some.last) c.in-Some.is c.requires

pub end_on-requires : goal.end_on-requires
end_on-requires c = fits_same c.args.core.now c.args.txn c.args.stage c.args.last None c.in-None.is c.requires

pub returns-in-Some-clause-after : goal.returns-in-Some-clause-after
returns-in-Some-clause-after c =
    after_same c.args.core.now c.take_last.new.core c.args.txn c.args.stage c.args.last (Some c.in-Some.last) c.args.reply.now c.take_last.result.0 c.take_last.result.1
    c.in-Some.is c.take_last.ensures.after

pub returns-in-None-clause-after : goal.returns-in-None-clause-after
returns-in-None-clause-after c =
    after_same c.args.core.now c.end_on.new.core c.args.txn c.args.stage c.args.last None c.args.reply.now c.end_on.result.0 c.end_on.result.1
    c.in-None.is c.end_on.ensures.after
