-- What a transaction that is ready does where its node has it read, commit or give up.
use Rattle.std.specs.Prelude.{ℕ, List, [], Option, Some, None, if◌then◌else◌}
use Rattle.tl_values.specs.declared.value.Value.{Value}
use Rattle.tl_descriptor.specs.Tids.{TidSet}
use Rattle.tl_logrec.specs.declared.entry.Flag.TheVariants as flag
use Rattle.tl_manager.specs.State.{opening_copy}
use Rattle.tl_write.specs.declared.write.Write.{Write}
use Rattle.tl_protocol.specs.Move.{is_empty}
use Rattle.tl_journal.specs.Ask.{Ask, LoadCommits, StoreLog, LoadRecord, ReadPage}
use Rattle.tl_journal.specs.Reads as law
use Rattle.tl_txn.specs.Attempt.{Attempt, entry_of}
use Rattle.tl_txn.specs.declared.phase.Decision.{Decision}
use Rattle.tl_txn.specs.declared.phase.Decision.TheVariants as decision
use Rattle.tl_txn.specs.declared.phase.Open.{Open}
use Rattle.tl_txn.specs.declared.phase.Phase.{Phase}
use Rattle.tl_txn.specs.declared.phase.Phase.TheVariants as phase
use Rattle.tl_txn.specs.declared.phase.Read.{Read}
use Rattle.tl_txn.specs.declared.phase.Read.TheVariants as read

abbrev pub IsReady : Phase → Type 0
IsReady (phase.Ready live) = Unit {0}
IsReady other = ⊥

-- ---- read

abbrev pub awaited : law.Read → Read
awaited (law.Point key) = read.Point key
awaited (law.Range shard from first before) = read.Range (record { shard = shard; from = from; first = first; before = before })

abbrev pub ask_read : law.Read → Ask
ask_read (law.Point key) = LoadRecord key
ask_read (law.Range shard from first before) = ReadPage shard from before

abbrev pub without_rows : Open → Open
without_rows live = record live { rows = [] }

abbrev pub reads : law.Read → Phase → Phase
reads wanted (phase.Ready live) = phase.Reading (without_rows live) (awaited wanted)
reads wanted other = other

-- ---- what was read, and the own writes

abbrev pub rows_in : Phase → List (List Value)
rows_in (phase.Ready live) = live.rows
rows_in other = []

abbrev pub rows_taken : Phase → Phase
rows_taken (phase.Ready live) = phase.Ready (without_rows live)
rows_taken other = other

abbrev pub snapshot_in : Phase → TidSet
snapshot_in (phase.Ready live) = live.snapshot
snapshot_in other = opening_copy

abbrev pub own_in : Phase → List Write
own_in (phase.Ready live) = live.own
own_in other = []

abbrev pub with_own : Phase → List Write → Phase
with_own (phase.Ready live) own = phase.Ready (record live { own = own })
with_own other own = other

-- ---- commit and give up

abbrev pub attempt_of : ℕ → TidSet → Open → Attempt
attempt_of node floor live = record { node = node; tid = live.tid; snapshot = live.snapshot; own = live.own; floor = floor }

abbrev pub tries_nothing : Phase → Phase
tries_nothing (phase.Ready live) = phase.TryingNothing live
tries_nothing other = other

abbrev pub tries_writes : ℕ → TidSet → Phase → Phase
tries_writes node floor (phase.Ready live) = phase.Trying (attempt_of node floor live)
tries_writes node floor other = other

abbrev pub ask_writes : ℕ → TidSet → Phase → Ask
ask_writes node floor (phase.Ready live) = StoreLog 0 (entry_of (attempt_of node floor live) flag.Trying)
ask_writes node floor other = LoadCommits

-- by whether there is nothing to store
abbrev pub commits : ℕ → TidSet → Phase → Phase
commits node floor phase = if is_empty (own_in phase) then tries_nothing phase else tries_writes node floor phase

abbrev pub ask_commit : ℕ → TidSet → Phase → Ask
ask_commit node floor phase = if is_empty (own_in phase) then LoadCommits else ask_writes node floor phase

abbrev pub gives_up : Phase → Phase
gives_up (phase.Ready live) = phase.GivingUp live
gives_up other = other

-- ---- the version outside the snapshot that it met

abbrev pub rival_of : Decision → Option ℕ
rival_of decision.Commit = None
rival_of (decision.Undo rival) = rival

abbrev pub conflict_in : Phase → Option ℕ
conflict_in (phase.Removing r) = Some r.rival
conflict_in (phase.Closing tid decision loaded) = rival_of decision
conflict_in (phase.Ending tid decision) = rival_of decision
conflict_in other = None
