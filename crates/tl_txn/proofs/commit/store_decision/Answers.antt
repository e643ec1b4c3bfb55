use Rattle.std.proofs.Common.{false, ◌∙◌}
use Rattle.tl_logrec.specs.declared.entry.Flag.TheVariants as flag
use Rattle.tl_journal.specs.Ask.{Ask, StoreLog}
use Rattle.tl_txn.proofs.Cases.{decides}
use Rattle.tl_txn.proofs.Hearing.{taken_so}
use Rattle.tl_txn.specs.Attempt.{entry_of}
use Rattle.tl_txn.specs.Taken.{going, storing}
use Rattle.tl_txn.specs.declared.phase.Phase.TheVariants as phase
use Rattle.tl_txn.proofs.commit.store_decision.Goals as goal

pub returns : goal.returns
returns c =
    let s = c.args.storing in
    let a = c.decide-attempt.result.0 in
    let wanted : Ask = StoreLog s.log (entry_of s.attempt flag.Decided) in
    taken_so c.args.layout (storing s c.args.mark)
    (going (phase.Storing (record { attempt = a; log = s.log; stored = s.stored; loaded = false })) wanted c.args.mark) c.going.result
    (decides s a c.args.mark c.requires.waits c.requires.none c.decide-attempt.ensures.same)
    (c.going.ensures c.args.layout wanted
    (c.store_log-ask.ensures (entry_of s.attempt flag.Decided) c.decide-attempt.ensures.value (c.get-tid.ensures.value ∙ c.tid.ensures)))
