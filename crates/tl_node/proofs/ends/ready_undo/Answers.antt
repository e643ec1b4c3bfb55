use Rattle.std.proofs.Common.{ℕ, Option, ap, ◌∙◌}
use Rattle.tl_protocol.specs.Next.{end_answer}
use Rattle.tl_protocol.specs.World.{Undo}
use Rattle.tl_txn.specs.Calls.{conflict_in}
use Rattle.tl_node.specs.View.{stage_of}
use Rattle.tl_node.proofs.Ending.{readied_same}
use Rattle.tl_node.proofs.ends.ready_undo.Goals as goal

pub returns-in-Ok : goal.returns-in-Ok
returns-in-Ok c =
    readied_same c.args.core.now c.ready_answer.new.core c.args.txn c.args.stage c.in-Ok.answer (end_answer (stage_of c.args.stage) (Undo (conflict_in c.args.txn.phase)))
    c.ready_answer.result (c.in-Ok.ensures ∙ ap (λ (rival : Option ℕ). end_answer (stage_of c.args.stage) (Undo rival)) c.conflict.ensures) c.ready_answer.ensures
