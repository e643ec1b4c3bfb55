use Rattle.tl_txn.specs.Calls.{own_in}
use Rattle.tl_node.proofs.Answered.{lent_own, lent_stays, lent_told}
use Rattle.tl_node.proofs.reads.answer_edit.Goals as goal

pub returns : goal.returns
returns c = record {
  told =
      lent_told c.args.core.now.catalog c.args.edit.now c.answer_change.result (own_in c.args.txn.now.phase) c.args.rows c.buffer.result.now c.buffer.ensures.own
      c.answer_change.ensures.told;
  own =
      lent_own c.args.core.now.catalog c.args.edit.now c.answer_change.result c.args.txn.now.phase c.args.rows c.buffer.result.now c.answer_change.new.own c.requires.ready
      c.buffer.ensures.own c.answer_change.ensures.own;
  rest = lent_stays c.args.txn.now c.answer_change.new.own c.requires.ready;
}
