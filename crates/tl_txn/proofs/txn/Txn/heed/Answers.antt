use Rattle.std.proofs.Common.{subst}
use Rattle.tl_txn.specs.After.{IsTaken}
use Rattle.tl_txn.specs.Hears.{hears}
use Rattle.tl_txn.specs.Taken.{takes}
use Rattle.tl_txn.specs.declared.phase.Phase.{Phase}
use Rattle.tl_txn.proofs.txn.Txn.heed.Goals as goal

pub returns-clause-taken : goal.returns-clause-taken
returns-clause-taken c =
    let t = c.args.self.now in
    subst (λ (p : Phase). IsTaken t.layout (takes t.layout t.node p (hears c.args.catalog.now p c.args.reply.now)) c.hear-phase.result) c.replace-phase.ensures.value
    c.hear-phase.ensures
