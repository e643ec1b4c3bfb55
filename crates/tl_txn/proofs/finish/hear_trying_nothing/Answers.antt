use Rattle.tl_manager.specs.declared.mark.Mark.TheVariants as mark
use Rattle.tl_txn.proofs.Hearing.{stopped}
use Rattle.tl_txn.proofs.Told.{nothing_told}
use Rattle.tl_ask.specs.Hears.{hears_commits}
use Rattle.tl_txn.specs.Taken.{takes_trying_nothing}
use Rattle.tl_txn.proofs.finish.hear_trying_nothing.Goals as goal

pub returns-in-Err : goal.returns-in-Err
returns-in-Err c =
    let a = c.args in
    let h = hears_commits a.reply.now in
    let is = rw c.get.ensures.value at c.out.ensures in
    stopped a.layout (takes_trying_nothing a.live h) c.out.result (mark.Tried a.live.tid) is (nothing_told a.live h)
