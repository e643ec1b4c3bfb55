use Rattle.std.proofs.Common.{false, ◌∙◌}
use Rattle.tl_logrec.specs.declared.entry.Flag.TheVariants as flag
use Rattle.tl_journal.specs.Ask.{Ask, StoreLog}
use Rattle.tl_txn.proofs.Cases.{is_undone}
use Rattle.tl_txn.proofs.Hearing.{taken_so}
use Rattle.tl_txn.specs.Attempt.{entry_of}
use Rattle.tl_txn.specs.Taken.{going, removing}
use Rattle.tl_txn.specs.declared.phase.Phase.TheVariants as phase
use Rattle.tl_txn.proofs.undo.store_undone.Goals as goal

pub returns : goal.returns
returns c =
    let r = c.args.removing in
    let a = c.undo-attempt.result.0 in
    let wanted : Ask = StoreLog r.log (entry_of r.attempt flag.Undone) in
    taken_so c.args.layout (removing r c.args.mark)
    (going (phase.Removing (record { attempt = a; log = r.log; rival = r.rival; stored = r.stored; removed = r.removed; loaded = false })) wanted c.args.mark)
    c.going.result (is_undone r a c.args.mark c.requires.waits c.requires.none c.undo-attempt.ensures.same)
    (c.going.ensures c.args.layout wanted
    (c.store_log-ask.ensures (entry_of r.attempt flag.Undone) c.undo-attempt.ensures.value (c.get-tid.ensures.value ∙ c.tid.ensures)))
