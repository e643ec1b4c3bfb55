use Rattle.std.proofs.Common.{sym}
use Rattle.std.specs.Prelude.{IfOk, length, slice_get}
use Rattle.tl_isolation.specs.declared.bound.Bound.{Bound}
use Rattle.tl_node.specs.Present.{IsSaid}
use Rattle.tl_node.specs.Saying.{IsAnswered}
use Rattle.tl_node.proofs.Answered.{present_so}
use Rattle.tl_node.proofs.Presents.{holds_of, is_there, named_at}
use Rattle.tl_node.proofs.reads.answer_present.Goals as goal

pub current-statement-requires : goal.current-statement-requires
current-statement-requires c = is_there c.args.core.now IsSaid c.requires.present

pub answer_statement-requires-clause-said : goal.answer_statement-requires-clause-said
answer_statement-requires-clause-said c = holds_of c.args.core.now IsSaid c.requires.present c.current-statement.result.now c.current-statement.ensures

pub answer_statement-requires-clause-named : goal.answer_statement-requires-clause-named
answer_statement-requires-clause-named c =
    let core = c.args.core.now in
    named_at core.catalog core.statements (length core.answers.items) c.current-statement.result.now core.named c.current-statement.ensures

pub returns-clause-told : goal.returns-clause-told
returns-clause-told c =
    let core = c.args.core.now in
    present_so
    (λ (s : Bound). IfOk c.answer_statement.result (λ told. IsAnswered core.catalog s c.args.found c.args.txn.now c.answer_statement.new.txn told))
    (slice_get core.statements (length core.answers.items)) c.current-statement.result.now (sym c.current-statement.ensures) c.answer_statement.ensures.told
