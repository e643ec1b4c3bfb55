use Rattle.tl_manager.specs.declared.mark.Mark.TheVariants as mark
use Rattle.tl_txn.proofs.Hearing.{stopped}
use Rattle.tl_txn.proofs.Told.{giving_up_told}
use Rattle.tl_ask.specs.Hears.{hears_commits}
use Rattle.tl_txn.specs.Taken.{takes_giving_up}
use Rattle.tl_txn.proofs.finish.hear_giving_up.Goals as goal

pub returns-in-Err : goal.returns-in-Err
returns-in-Err c =
    let a = c.args in
    let h = hears_commits a.reply.now in
    stopped a.layout (takes_giving_up a.live h) c.out.result mark.Quiet c.out.ensures (giving_up_told a.live h)
