use Rattle.std.proofs.Common.{subst}
use Rattle.tl_write.specs.Fault.{Tells}
use Rattle.tl_answer.proofs.Changes.{same_change}
use Rattle.tl_answer.proofs.change.answer_change.Goals as goal

pub returns-clause-told : goal.returns-clause-told
returns-clause-told c = λ suits.
    c.keep.ensures.told _
    (subst (λ meant. Tells c.change-changed.result meant)
    (same_change c.args.catalog.now c.args.edit.now c.args.own.now c.args.rows c.in_ok-view.view c.number_of-number.result c.table_of-table.result.now suits
    c.number_of-number.ensures c.table_of-table.ensures c.in_ok-view.ensures)
    c.change-changed.ensures.told)

pub returns-clause-own : goal.returns-clause-own
returns-clause-own c = λ suits.
    c.keep.ensures.own _
    (subst (λ meant. Tells c.change-changed.result meant)
    (same_change c.args.catalog.now c.args.edit.now c.args.own.now c.args.rows c.in_ok-view.view c.number_of-number.result c.table_of-table.result.now suits
    c.number_of-number.ensures c.table_of-table.ensures c.in_ok-view.ensures)
    c.change-changed.ensures.told)
