use Rattle.std.proofs.Common.{sym, ◌∙◌}
use Rattle.tl_node.proofs.LastReplies.{ends_stay, last_after, last_stays, room}
use Rattle.tl_node.proofs.ends.take_last.Goals as goal

pub end-requires : goal.end-requires
end-requires c = room c.args.core.now c.args.txn c.args.stage c.args.last c.args.reply.now c.requires

pub returns-then-is_ended-clause-after : goal.returns-then-is_ended-clause-after
returns-then-is_ended-clause-after c =
    last_after c.args.core.now c.args.txn c.args.stage c.args.last c.args.reply.now c.requires c.end.new.core c.end.result (sym c.is_ended.ensures ∙ c.if-is_ended.true) c.end.ensures

pub returns-then-is_ended-clause-stays : goal.returns-then-is_ended-clause-stays
returns-then-is_ended-clause-stays c = ends_stay c.args.core.now c.end.new.core c.args.last c.end.result c.end.ensures

pub returns-clause-after : goal.returns-clause-after
returns-clause-after c =
    last_stays c.args.core.now c.args.txn c.args.stage c.args.last c.args.reply.now c.requires (sym c.is_ended.ensures ∙ c.if-is_ended.false)
