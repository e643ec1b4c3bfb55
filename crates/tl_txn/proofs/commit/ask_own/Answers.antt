use Rattle.std.proofs.Common.{◌≡◌, IfOk, subst}
use Rattle.tl_ask.specs.Asked.{asked}
use Rattle.tl_journal.specs.Ask.{Ask}
use Rattle.tl_txn.proofs.Own.{asks_next}
use Rattle.tl_txn.proofs.commit.ask_own.Goals as goal

pub returns : goal.returns
returns c =
    let a = c.args in
    λ own e.
    subst (λ (wanted : Ask). IfOk c.ask_write.result (λ ask. ask ≡ asked a.layout wanted))
    (asks_next a.attempt.now a.at c.own_within.result.now own a.cell.stamp a.cell.versions c.own_within.ensures.rising c.own_within.ensures.value e) c.ask_write.ensures
