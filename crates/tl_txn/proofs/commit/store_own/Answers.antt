use Rattle.std.proofs.Common.{subst}
use Rattle.tl_journal.specs.Ask.{Ask, StoreRecord}
use Rattle.tl_manager.specs.declared.mark.Mark.TheVariants as mark
use Rattle.tl_txn.specs.After.{IsTaken}
use Rattle.tl_txn.specs.Taken.{going, next_versions}
use Rattle.tl_txn.specs.declared.phase.Phase.{Phase}
use Rattle.tl_txn.proofs.commit.store_own.Goals as goal

pub returns : goal.returns
returns c =
    let s = c.args.storing in
    let cell = c.args.cell in
    λ own e.
    let stores : Ask = StoreRecord own.key cell.stamp (next_versions s.attempt own.key cell.versions) in
    subst (λ (p : Phase). IsTaken c.args.layout (going p stores mark.Quiet) c.going.result) c.record_in_hand.ensures
    (c.going.ensures c.args.layout stores (c.ask_own-ask.ensures own e))
