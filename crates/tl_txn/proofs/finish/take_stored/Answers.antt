use Rattle.std.proofs.Common.{true}
use Rattle.tl_ask.specs.Hears.{store_or_strange}
use Rattle.tl_manager.specs.declared.request.ManagerRequest.TheVariants as request
use Rattle.tl_journal.specs.Ask.{Ask, AskManager}
use Rattle.tl_journal.specs.Bytes.{home_of}
use Rattle.tl_txn.proofs.Cases.{is_finished}
use Rattle.tl_txn.proofs.Hearing.{taken_so}
use Rattle.tl_txn.specs.Taken.{going, takes_closing}
use Rattle.tl_txn.specs.declared.phase.Phase.TheVariants as phase
use Rattle.tl_txn.proofs.finish.take_stored.Goals as goal

pub returns-in-Some-Stored : goal.returns-in-Some-Stored
returns-in-Some-Stored c =
    let a = c.args in
    let ends : Ask = AskManager (home_of a.layout a.node) (request.End a.tid) in
    let asks = rw (c.home_of.ensures.value, c.get.ensures.value) at c.ask_manager-ask.ensures in
    let is = c.in-Some-Stored in
    taken_so a.layout (takes_closing a.layout a.node a.tid a.decision true (store_or_strange a.outcome))
    (going (phase.Ending a.tid a.decision) ends c.finished_as.result) c.going.result
    (is_finished a.layout a.node a.tid a.decision a.outcome is.field-0 is.field-0-0 c.finished_as.result is.is (rw is.is at is.field-0-is) c.finished_as.ensures)
    (c.going.ensures a.layout ends asks)
