use Rattle.std.proofs.Common.{sym}
use Rattle.tl_journal.specs.Ask.{Ask, LoadRecord}
use Rattle.tl_txn.proofs.Cases.{loads_next}
use Rattle.tl_txn.proofs.Hearing.{taken_so}
use Rattle.tl_txn.specs.Taken.{going, storing}
use Rattle.tl_txn.proofs.commit.store_next.Goals as goal

pub returns-in-Some : goal.returns-in-Some
returns-in-Some c =
    let s = c.args.storing in
    let own = c.in-Some.write.now in
    let p = c.record_in_hand.result in
    let wanted : Ask = LoadRecord own.key in
    taken_so c.args.layout (storing s c.args.mark) (going p wanted c.args.mark) c.going.result
    (loads_next s p own c.args.mark c.record_in_hand.ensures (sym c.in-Some.ensures.value)) (c.going.ensures c.args.layout wanted c.load_own-ask.ensures)
