use Rattle.std.proofs.Common.{sym, subst}
use Rattle.std.specs.Prelude.{IfOk}
use Rattle.tl_isolation.specs.declared.bound.Bound.{Bound}
use Rattle.tl_node.specs.Saying.{IsAnswered}
use Rattle.tl_node.proofs.Answered.{told_query}
use Rattle.tl_node.proofs.reads.answer_statement.Goals as goal

pub returns-in-Select-clause-told : goal.returns-in-Select-clause-told
returns-in-Select-clause-told c =
    let catalog = c.args.core.now.catalog in
    subst (λ (s : Bound). IfOk c.answer_query.result (λ told. IsAnswered catalog s c.args.found c.args.txn.now c.args.txn.now told)) (sym c.in-Select.is)
    (told_query catalog c.in-Select.query c.args.found c.args.txn.now c.answer_query.result c.own.result.now c.requires.ready c.own.ensures c.answer_query.ensures)
