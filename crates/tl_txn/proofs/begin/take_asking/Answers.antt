use Rattle.std.proofs.Common.{refl}
use Rattle.tl_ask.specs.Hears.{commits_or_strange}
use Rattle.tl_manager.specs.declared.mark.Mark.TheVariants as mark
use Rattle.tl_txn.proofs.Hearing.{taken_so}
use Rattle.tl_txn.specs.Taken.{ask_begin, going, takes_asking}
use Rattle.tl_txn.specs.declared.phase.Phase.TheVariants as phase
use Rattle.tl_txn.proofs.begin.take_asking.Goals as goal

pub returns : goal.returns
returns c =
    let a = c.args in
    let seen = c.cell.inside.finished in
    taken_so a.layout (takes_asking a.layout a.node (commits_or_strange a.cell)) (going (phase.Noted seen) (ask_begin a.layout a.node seen) mark.Asked)
    c.going.result (rw (c.in-Some.is, ← c.cell.view_is) refl) (c.going.ensures a.layout (ask_begin a.layout a.node seen) c.ask_begin-ask.ensures)
