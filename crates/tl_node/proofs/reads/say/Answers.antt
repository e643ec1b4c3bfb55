use Rattle.std.proofs.Common.{refl}
use Rattle.std.proofs.lemmas.Result.{err_from_is_err_and}
use Rattle.tl_node.proofs.Answered.{own_kept, ready_kept, said_kept}
use Rattle.tl_node.proofs.Found.{say_found, say_wants}
use Rattle.tl_node.proofs.reads.say.Goals as goal

pub said-requires-clause-ready : goal.said-requires-clause-ready
said-requires-clause-ready c = ready_kept c.args.txn c.answer_present.new.txn c.requires.ready c.in_ok-answer.ensures.rest

pub said-requires-clause-own : goal.said-requires-clause-own
said-requires-clause-own c = own_kept c.args.core.now c.args.txn c.answer_present.new.txn _ c.requires.own c.in_ok-answer.ensures.rest

pub returns-clause-after : goal.returns-clause-after
returns-clause-after c =
    say_found c.args.core.now c.said.new.core c.args.txn c.answer_present.new.txn c.args.stage c.args.found c.in_ok-answer.answer c.said.result
    c.in_ok-answer.ensures.told c.said.ensures.after

pub returns-clause-kept : goal.returns-clause-kept
returns-clause-kept c = said_kept c.args.stage c.args.core.now c.in_ok-answer.answer c.answer_present.new.txn.phase c.said.new.core c.said.result c.said.ensures.after

pub returns-in_err-answer-clause-after : goal.returns-in_err-answer-clause-after
returns-in_err-answer-clause-after c =
    let p = err_from_is_err_and c.from_residual.result c.from_residual.ensures.1 in
    rw p.1 (say_wants c.args.core.now c.args.core.now c.args.txn c.args.stage c.args.found (record {}) refl)
