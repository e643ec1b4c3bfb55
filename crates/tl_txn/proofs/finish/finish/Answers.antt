use Rattle.std.proofs.Common.{◌≡◌, true, false}
use Rattle.tl_descriptor.specs.Tids.{has, inserted}
use Rattle.tl_journal.specs.Ask.{Ask, StoreCommits}
use Rattle.tl_txn.proofs.Hearing.{not_odd, taken_so}
use Rattle.tl_txn.specs.Taken.{closing, finishes, going}
use Rattle.tl_txn.proofs.finish.finish.Goals as goal

pub returns : goal.returns
returns c =
    let a = c.args in
    let stores : Ask = StoreCommits a.cell.stamp (inserted a.cell.finished a.tid) in
    let new : has a.cell.finished a.tid ≡ false = rw (← c.cell.view_is) cc in
    taken_so a.layout (finishes a.tid a.decision a.cell a.mark) (going (closing a.tid a.decision true) stores a.mark) c.going.result
    (not_odd (has a.cell.finished a.tid) (going (closing a.tid a.decision true) stores a.mark) new) (c.going.ensures a.layout stores c.ask_finish-ask.ensures)
