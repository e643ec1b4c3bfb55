use Rattle.tl_protocol.specs.Next.{end_answer}
use Rattle.tl_protocol.specs.World.{Commit}
use Rattle.tl_node.specs.View.{stage_of}
use Rattle.tl_node.proofs.Ending.{readied_same}
use Rattle.tl_node.proofs.ends.ready_commit.Goals as goal

pub returns-in-Ok : goal.returns-in-Ok
returns-in-Ok c =
    readied_same c.args.core.now c.ready_answer.new.core c.args.txn c.args.stage c.in-Ok.answer (end_answer (stage_of c.args.stage) Commit) c.ready_answer.result
    c.in-Ok.ensures c.ready_answer.ensures
