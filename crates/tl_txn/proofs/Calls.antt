-- A transaction that tries to commit.
use Rattle.std.proofs.Common.{◌≡◌, Some, refl, sym, subst}
use Rattle.tl_descriptor.specs.Tids.{TidSet}
use Rattle.tl_logrec.specs.declared.entry.Flag.TheVariants as flag
use Rattle.tl_ask.specs.Asked.{asked}
use Rattle.tl_ask.specs.declared.asked.Asked.{Asked}
use Rattle.tl_journal.specs.Ask.{StoreLog}
use Rattle.tl_txn.specs.Attempt.{Attempt, entry_of}
use Rattle.tl_txn.specs.Calls.{ask_writes, attempt_of, tries_writes}
use Rattle.tl_txn.specs.declared.phase.Open.{Open}
use Rattle.tl_txn.specs.declared.phase.Phase.TheVariants as phase
use Rattle.tl_txn.specs.declared.txn.Txn.{Txn}

pub tried : (t left : Txn) (floor : TidSet) (live : Open) (a : Attempt) (ask : Asked) → t.phase ≡ phase.Ready live
    → left ≡ record t { phase = phase.Stopped } → a ≡ attempt_of t.node floor live
    → ask ≡ asked t.layout (StoreLog 0 (entry_of (attempt_of t.node floor live) flag.Trying))
    → ◌≡◌ {A = Txn} (record { alloc = left.alloc; layout = left.layout; node = left.node; phase = phase.Trying a; next = Some ask })
    (record t { phase = tries_writes t.node floor t.phase; next = Some (asked t.layout (ask_writes t.node floor t.phase)) })
tried t left floor live a ask e l f g =
    subst (λ (x : Txn). ◌≡◌ {A = Txn} (record { alloc = x.alloc; layout = x.layout; node = x.node; phase = phase.Trying a; next = Some ask })
    (record t { phase = tries_writes t.node floor t.phase; next = Some (asked t.layout (ask_writes t.node floor t.phase)) }))
    (sym l) (rw (e, f, g) refl)
