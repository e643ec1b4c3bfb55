use Rattle.std.proofs.Common.{sym, subst}
use Rattle.tl_node.proofs.Begins.{begun_comes, not_strange}
use Rattle.tl_node.proofs.Found.{first_left}
use Rattle.std.specs.Prelude.{length}
use Rattle.tl_txn.specs.Calls.{IsReady}
use Rattle.tl_node.proofs.running.begun.Goals as goal

pub learn_and_enter-requires-clause-ready : goal.learn_and_enter-requires-clause-ready
learn_and_enter-requires-clause-ready c = subst IsReady (sym c.requires.begun.phase_is) tt

pub returns-in-Some-clause-after : goal.returns-in-Some-clause-after
returns-in-Some-clause-after c = λ seen.
    let p = c.requires.present in
    begun_comes c.args.core.now c.learn_and_enter.new.core c.args.txn c.args.reply.now seen c.learn_and_enter.result p c.requires.begun c.in-Some.floor.now (sym c.in-Some.ensures)
    (c.learn_and_enter.ensures.after p.statement (first_left (length c.args.core.now.answers.items) c.args.core.now.statements p.statement p.later p.todo_is))

pub returns-in-None-clause-after : goal.returns-in-None-clause-after
returns-in-None-clause-after c = λ seen. absurd (not_strange c.args.txn c.args.reply.now c.requires.begun (sym c.in-None.ensures))
