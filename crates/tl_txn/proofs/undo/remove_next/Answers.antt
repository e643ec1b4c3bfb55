use Rattle.std.proofs.Common.{sym}
use Rattle.tl_journal.specs.Ask.{Ask, LoadRecord}
use Rattle.tl_txn.proofs.Cases.{loads_removal}
use Rattle.tl_txn.proofs.Hearing.{taken_so}
use Rattle.tl_txn.specs.Taken.{going, removing}
use Rattle.tl_txn.proofs.undo.remove_next.Goals as goal

pub returns-in-Some : goal.returns-in-Some
returns-in-Some c =
    let r = c.args.removing in
    let own = c.in-Some.write.now in
    let p = c.record_in_hand.result in
    let wanted : Ask = LoadRecord own.key in
    taken_so c.args.layout (removing r c.args.mark) (going p wanted c.args.mark) c.going.result
    (loads_removal r p own c.args.mark c.record_in_hand.ensures (sym c.in-Some.ensures)) (c.going.ensures c.args.layout wanted c.load_own-ask.ensures)
