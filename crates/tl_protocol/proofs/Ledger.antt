-- The state of snapshot isolation as the proofs see it: by node, with the newest commit first.
use Rattle.std.proofs.Common.{◌≡◌, ℕ, ◌<◌, ◌≤◌, Bool, true, false, ◌⊎◌, List, [], ◌∷◌, length, Option, Some, None}
use Rattle.std.specs.Prelude.{if◌then◌else◌, nat_lt}
use Rattle.tl_values.specs.declared.value.Value.{Value}
use Rattle.tl_write.specs.Own.{is_written}
use Rattle.tl_isolation.specs.declared.entry.Answer.{Answer}
use Rattle.tl_isolation.specs.declared.state.Commit.{Commit}
use Rattle.tl_isolation.specs.declared.state.Transaction.{Transaction}
use Rattle.tl_isolation.specs.declared.state.TxnPhase.TheVariants as phase
use Rattle.tl_isolation.specs.State.{is_lost}
use Rattle.tl_isolation.specs.Tables.{opening_writes}
use Rattle.tl_schema.specs.declared.catalog.Setup.{Setup}
use Rattle.tl_protocol.specs.Store.{Key, put, over, written}

-- what a node has in hand
pub record Seat : Type 0 where
  pub noted : Option ℕ
  pub held : Option Transaction
  pub outcome : Option Answer
  pub vanished : Bool

pub record Ledger : Type 0 where
  -- the newest first
  pub commits : List Commit
  pub begun : ℕ → Bool
  pub seats : ℕ → Seat

-- the row of the record after the first n commits
abbrev pub view : ℕ → Key → List Commit → Option (List Value)
view n k [] = None
view n k (c ∷ cs) = if nat_lt (length cs) n then over (written k c.writes) (view n k cs) else view n k cs

-- no commit after the first n writes the record
abbrev pub Clear : ℕ → Key → List Commit → Type 0
Clear n k [] = Unit {0}
Clear n k (c ∷ cs) = (is_written k c.writes ≡ true → length cs < n) × Clear n k cs

-- a commit of this tid after the first n writes the record
abbrev pub CommittedLater : ℕ → ℕ → Key → List Commit → Type 0
CommittedLater n tid k [] = ⊥
CommittedLater n tid k (c ∷ cs) = ((c.tid ≡ tid) × (is_written k c.writes ≡ true) × (n ≤ length cs)) ⊎ CommittedLater n tid k cs

-- the ledger with another seat at the node
abbrev pub seated : Ledger → ℕ → Seat → Ledger
seated a n seat = record a { seats = put n seat a.seats }

-- with another transaction held there
abbrev pub holding : Ledger → ℕ → Transaction → Ledger
holding a n t = seated a n (record (a.seats n) { held = Some t })

-- once its transaction has ended
abbrev pub ended : Seat → Transaction → Answer → Seat
ended seat t told =
    record { noted = seat.noted; held = None; outcome = if is_lost t.phase then seat.outcome else Some told; vanished = seat.vanished }

abbrev pub lost : Option Transaction → Option Transaction
lost None = None
lost (Some t) = Some (record t { phase = phase.Lost })

-- once its node has vanished
abbrev pub left : Seat → Seat
left seat = record { noted = None; held = lost seat.held; outcome = None; vanished = true }

abbrev pub opening_ledger : Setup → Ledger
opening_ledger setup =
    record {
      commits = record { tid = 0; writes = opening_writes setup.catalog setup.rows } ∷ [];
      begun = λ tid. false;
      seats = λ n. record { noted = None; held = None; outcome = None; vanished = false };
    }
