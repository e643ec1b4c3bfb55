use Rattle.std.proofs.Common.{ap}
use Rattle.tl_node.specs.declared.work.Next.TheVariants as next
use Rattle.tl_node.proofs.Readied.{commit_readied, undo_readied, way_readied, way_so}
use Rattle.tl_node.proofs.ends.go_to_end.Goals as goal

pub returns-in-Committed : goal.returns-in-Committed
returns-in-Committed c =
    commit_readied c.args.core.now c.ready_commit.new.core c.args.txn c.args.stage c.in-Committed.tid c.args.mark c.ready_commit.result c.in-Committed.is c.ready_commit.ensures

pub returns-in-Undone : goal.returns-in-Undone
returns-in-Undone c =
    undo_readied c.args.core.now c.ready_undo.new.core c.args.txn c.args.stage c.in-Undone.tid c.args.mark c.ready_undo.result c.in-Undone.is c.ready_undo.ensures

pub returns-in-Quiet : goal.returns-in-Quiet
returns-in-Quiet c =
    way_readied c.args.core.now c.args.txn c.args.stage c.args.mark (next.Goes c.running.result) (way_so c.args.mark c.in-Quiet.is) (ap next.Goes c.running.ensures)
