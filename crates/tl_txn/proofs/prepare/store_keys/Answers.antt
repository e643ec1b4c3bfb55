use Rattle.std.proofs.Common.{◌≡◌, ℕ, true, All, List, sym, subst, arith}
use Rattle.tl_logrec.specs.Entry.{are_rising}
use Rattle.tl_logrec.specs.Keys.{IsKey}
use Rattle.tl_txn.proofs.prepare.store_keys.Goals as goal
use Rattle.tl_journal.proofs.Sizes.{keys_rise}

pub returns-clause-fit : goal.returns-clause-fit
returns-clause-fit c =
    record {
      count = omega (arith, c.len.ensures);
      short = subst (λ (keys : List (List ℕ)). All IsKey keys) c.as_slice.ensures (c.are_short.ensures.0 c.if-not-are_short.false);
      rising = subst (λ (keys : List (List ℕ)). are_rising keys ≡ true) (sym c.in_ok-keys.ensures) (keys_rise c.args.own.now c.writes-rising.ensures.rising);
    }
