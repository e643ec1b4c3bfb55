use Rattle.std.proofs.Common.{false, refl}
use Rattle.tl_manager.specs.declared.mark.Mark.TheVariants as mark
use Rattle.tl_txn.proofs.Hearing.{stopped, taken_so}
use Rattle.tl_txn.proofs.Told.{closing_told}
use Rattle.tl_ask.specs.Hears.{hears_commits}
use Rattle.tl_txn.specs.Hears.{hears_closing}
use Rattle.tl_txn.specs.Taken.{takes_closing}
use Rattle.tl_txn.proofs.finish.hear_closing.Goals as goal

pub returns-in-Err : goal.returns-in-Err
returns-in-Err c =
    let a = c.args in
    let h = hears_commits a.reply.now in
    taken_so a.layout (takes_closing a.layout a.node a.tid a.decision a.loaded (hears_closing a.loaded a.reply.now))
    (takes_closing a.layout a.node a.tid a.decision false h) c.out.result (rw c.if-loaded.false refl)
    (stopped a.layout (takes_closing a.layout a.node a.tid a.decision false h) c.out.result mark.Quiet c.out.ensures
    (closing_told a.layout a.node a.tid a.decision h))
