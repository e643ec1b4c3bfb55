use Rattle.std.proofs.Common.{true, false, subst}
use Rattle.tl_ask.specs.Hears.{record_or_strange}
use Rattle.tl_manager.specs.declared.mark.Mark.TheVariants as mark
use Rattle.tl_journal.specs.Ask.{Ask, StoreRecord}
use Rattle.tl_versions.specs.Versions.{strip}
use Rattle.tl_txn.proofs.Cases.{is_loaded}
use Rattle.tl_txn.proofs.Hearing.{taken_so}
use Rattle.tl_txn.specs.After.{IsTaken}
use Rattle.tl_txn.specs.Taken.{going, removal_at, takes_removing}
use Rattle.tl_txn.specs.declared.phase.Phase.{Phase}
use Rattle.tl_txn.specs.declared.phase.Phase.TheVariants as phase
use Rattle.tl_txn.proofs.undo.take_loaded.Goals as goal

pub returns : goal.returns
returns c =
    let r = c.args.removing in
    let cell = c.in-Some.cell in
    λ own e.
    let stores : Ask = StoreRecord own.key cell.stamp (strip r.attempt.tid cell.versions) in
    taken_so c.args.layout (takes_removing r false (removal_at r) (record_or_strange c.args.cell))
    (going (phase.Removing (record r { loaded = true })) stores mark.Quiet) c.going.result
    (rw c.in-Some.is (is_loaded r (removal_at r) own cell e))
    (subst (λ (p : Phase). IsTaken c.args.layout (going p stores mark.Quiet) c.going.result) c.record_in_hand.ensures
    (c.going.ensures c.args.layout stores (c.ask_strip-ask.ensures own e)))
