-- What a transaction does with a reply: how far it is then, what it asks next, and what it tells.
use Rattle.std.specs.Prelude.{ℕ, ◌+◌, ◌^◌, Bool, true, false, not, ◌&&◌, nat_le, List, [], ◌∷◌, ◌++◌, Option, Some, None, slice_get, if◌then◌else◌}
use Rattle.std.specs.Option.{option_to_list}
use Rattle.tl_base.specs.declared.place.Settings.{Settings}
use Rattle.tl_values.specs.declared.value.Value.{Value}
use Rattle.tl_descriptor.specs.Tids.{TidSet, has, inserted}
use Rattle.tl_logrec.specs.declared.entry.Flag.TheVariants as flag
use Rattle.tl_manager.specs.declared.mark.Mark.{Mark}
use Rattle.tl_manager.specs.declared.mark.Mark.TheVariants as mark
use Rattle.tl_manager.specs.declared.mark.TxnStep.{TxnStep}
use Rattle.tl_manager.specs.declared.mark.TxnStep.TheVariants as step
use Rattle.tl_manager.specs.declared.request.ManagerReply.TheVariants as manager
use Rattle.tl_manager.specs.declared.request.ManagerRequest.TheVariants as request
use Rattle.tl_versions.specs.declared.version.Version.{Version}
use Rattle.tl_versions.specs.Versions.{is_written, prune, stranger, strip}
use Rattle.tl_write.specs.declared.write.Write.{Write}
use Rattle.tl_protocol.specs.Next.{own_version}
use Rattle.tl_protocol.specs.Store.{Cell, CommitsCell, row_shown}
use Rattle.tl_protocol.specs.World.{Fresh}
use Rattle.tl_journal.specs.Ask.{Ask, LoadCommits, StoreCommits, StoreLog, LoadRecord, StoreRecord, ReadPage, DrawNumbers, AskManager, Heard, Commits, Record, Page, Stored, Moved, Numbers, Told}
use Rattle.tl_journal.specs.Bytes.{home_of}
use Rattle.tl_journal.specs.Reads as law
use Rattle.tl_journal.specs.Reads.{range_left, rows_found}
use Rattle.tl_txn.specs.Attempt.{Attempt, entry_of, txn_of}
use Rattle.tl_txn.specs.declared.phase.Decision.{Decision}
use Rattle.tl_txn.specs.declared.phase.Decision.TheVariants as decision
use Rattle.tl_txn.specs.declared.phase.Open.{Open}
use Rattle.tl_txn.specs.declared.phase.Phase.{Phase}
use Rattle.tl_txn.specs.declared.phase.Phase.TheVariants as phase
use Rattle.tl_txn.specs.declared.phase.Read.{Read}
use Rattle.tl_txn.specs.declared.phase.Read.TheVariants as read
use Rattle.tl_txn.specs.declared.phase.Removing.{Removing}
use Rattle.tl_txn.specs.declared.phase.Storing.{Storing}

-- no step stands for a reply that no place of a run gives
pub record Taken : Type 0 where
  pub phase : Phase
  pub ask : Option Ask
  pub step : Option TxnStep

abbrev pub strange : Taken
strange = record { phase = phase.Stopped; ask = None; step = None }

abbrev pub going : Phase → Ask → Mark → Taken
going phase ask mark = record { phase = phase; ask = Some ask; step = Some (step.Going mark) }

abbrev pub ready : Open → Mark → Taken
ready live mark = record { phase = phase.Ready live; ask = None; step = Some (step.Ready mark) }

abbrev pub unless_odd : Bool → Taken → Taken
unless_odd true taken = strange
unless_odd false taken = taken

-- ---- it begins

abbrev pub ask_begin : Settings → ℕ → TidSet → Ask
ask_begin settings node seen = AskManager (home_of settings node) (request.Begin node seen)

abbrev pub takes_asking : Settings → ℕ → Heard → Taken
takes_asking settings node (Commits c) = going (phase.Noted c.finished) (ask_begin settings node c.finished) mark.Asked
takes_asking settings node heard = strange

abbrev pub opened : ℕ → TidSet → Open
opened tid snapshot = record { tid = tid; snapshot = snapshot; own = []; rows = [] }

abbrev pub takes_noted : Settings → ℕ → TidSet → Heard → Taken
takes_noted settings node seen (Told (manager.Began tid snapshot floor)) =
    unless_odd (not (nat_le tid (2 ^ 62) && not (has snapshot tid))) (ready (opened tid snapshot) (mark.Began tid))
takes_noted settings node seen (Told manager.NeedRange) = going (phase.Drawing seen) DrawNumbers mark.Quiet
takes_noted settings node seen heard = strange

abbrev pub takes_drawing : Settings → ℕ → TidSet → Heard → Taken
takes_drawing settings node seen (Numbers old) =
    unless_odd (not (nat_le (old + 16) (2 ^ 62)))
    (going (phase.Bringing seen old) (AskManager (home_of settings node) (request.Range (old + 1) (old + 16))) mark.Quiet)
takes_drawing settings node seen heard = strange

abbrev pub takes_bringing : Settings → ℕ → TidSet → Heard → Taken
takes_bringing settings node seen (Told manager.Ranged) = going (phase.Noted seen) (ask_begin settings node seen) mark.Quiet
takes_bringing settings node seen heard = strange

-- ---- it reads

abbrev pub with_rows : Open → List (List Value) → Open
with_rows live rows = record live { rows = live.rows ++ rows }

-- the range goes on with this page, or is read
abbrev pub next_page : Open → List law.Read → Taken
next_page live [] = ready live mark.Quiet
next_page live (law.Point key ∷ left) = strange
next_page live (law.Range shard from first before ∷ left) =
    going (phase.Reading live (read.Range (record { shard = shard; from = from; first = first; before = before }))) (ReadPage shard from before) mark.Quiet

abbrev pub takes_reading : Settings → Open → Read → Heard → Taken
takes_reading settings live (read.Point key) (Record cell) =
    ready (with_rows live (option_to_list (row_shown live.snapshot cell.versions))) mark.Quiet
takes_reading settings live (read.Range r) (Page found more) =
    next_page (with_rows live (rows_found live.snapshot found)) (range_left settings.shards r.shard r.from r.first r.before more found)
takes_reading settings live r heard = strange

-- ---- it ends

abbrev pub closing : ℕ → Decision → Bool → Phase
closing tid decision loaded = phase.Closing tid decision loaded

-- the finished transactions are loaded
abbrev pub finishes : ℕ → Decision → CommitsCell → Mark → Taken
finishes tid decision c mark =
    unless_odd (has c.finished tid) (going (closing tid decision true) (StoreCommits c.stamp (inserted c.finished tid)) mark)

abbrev pub takes_trying_nothing : Open → Heard → Taken
takes_trying_nothing live (Commits c) = finishes live.tid decision.Commit c (mark.Tried live.tid)
takes_trying_nothing live heard = strange

abbrev pub takes_giving_up : Open → Heard → Taken
takes_giving_up live (Commits c) = finishes live.tid (decision.Undo None) c mark.Quiet
takes_giving_up live heard = strange

abbrev pub finished_as : Decision → ℕ → Mark
finished_as decision.Commit tid = mark.Committed tid
finished_as (decision.Undo rival) tid = mark.Undone tid

abbrev pub takes_closing : Settings → ℕ → ℕ → Decision → Bool → Heard → Taken
takes_closing settings node tid decision false (Commits c) = finishes tid decision c mark.Quiet
takes_closing settings node tid decision true (Stored stamp) =
    going (phase.Ending tid decision) (AskManager (home_of settings node) (request.End tid)) (finished_as decision tid)
takes_closing settings node tid decision true Moved = going (closing tid decision false) LoadCommits mark.Quiet
takes_closing settings node tid decision loaded heard = strange

abbrev pub takes_ending : Heard → Taken
takes_ending (Told manager.Ended) = record { phase = phase.Over; ask = None; step = Some (step.Ended mark.Answered) }
takes_ending heard = strange

-- ---- it stores its writes

-- the next own record is loaded, or the decision is stored where there is none
abbrev pub ask_store : Storing → Option Write → Ask
ask_store s None = StoreLog s.log (entry_of s.attempt flag.Decided)
ask_store s (Some o) = LoadRecord o.key

abbrev pub storing : Storing → Mark → Taken
storing s mark = going (phase.Storing s) (ask_store s (slice_get s.attempt.own s.stored)) mark

abbrev pub takes_trying : Attempt → Heard → Taken
takes_trying a (Stored stamp) = storing (record { attempt = a; log = stamp; stored = 0; loaded = false }) (mark.Tried a.tid)
takes_trying a heard = strange

abbrev pub ask_removal : Removing → Option Write → Ask
ask_removal r None = StoreLog r.log (entry_of r.attempt flag.Undone)
ask_removal r (Some o) = LoadRecord o.key

-- the own record in hand, of those whose versions are to be removed
abbrev pub removal_at : Removing → Option Write
removal_at r = if nat_le r.stored r.removed then None else slice_get r.attempt.own r.removed

abbrev pub removing : Removing → Mark → Taken
removing r mark = going (phase.Removing r) (ask_removal r (removal_at r)) mark

-- the cell with the own version in front, without what no transaction will see
abbrev pub next_versions : Attempt → List ℕ → List Version → List Version
next_versions a key versions = prune a.floor (own_version key (txn_of Fresh a) ∷ versions)

-- an own record is loaded
abbrev pub finds : Storing → List ℕ → Cell → Option ℕ → Taken
finds s key cell None =
    going (phase.Storing (record s { loaded = true })) (StoreRecord key cell.stamp (next_versions s.attempt key cell.versions)) mark.Quiet
finds s key cell (Some rival) =
    removing (record { attempt = s.attempt; log = s.log; rival = rival; stored = s.stored; removed = 0; loaded = false })
    (mark.Clashed s.attempt.tid rival s.stored)

abbrev pub takes_storing : Storing → Bool → Option Write → Heard → Taken
takes_storing s false None (Stored stamp) = going (closing s.attempt.tid decision.Commit false) LoadCommits mark.Quiet
takes_storing s false (Some o) (Record cell) =
    unless_odd (is_written s.attempt.tid cell.versions) (finds s o.key cell (stranger s.attempt.snapshot cell.versions))
takes_storing s true (Some o) (Stored stamp) = storing (record s { stored = s.stored + 1; loaded = false }) mark.Quiet
takes_storing s true (Some o) Moved = storing (record s { loaded = false }) mark.Quiet
takes_storing s loaded o heard = strange

abbrev pub takes_removing : Removing → Bool → Option Write → Heard → Taken
takes_removing r false None (Stored stamp) = going (closing r.attempt.tid (decision.Undo (Some r.rival)) false) LoadCommits mark.Quiet
takes_removing r false (Some o) (Record cell) =
    going (phase.Removing (record r { loaded = true })) (StoreRecord o.key cell.stamp (strip r.attempt.tid cell.versions)) mark.Quiet
takes_removing r true (Some o) (Stored stamp) = removing (record r { removed = r.removed + 1; loaded = false }) mark.Quiet
takes_removing r true (Some o) Moved = removing (record r { loaded = false }) mark.Quiet
takes_removing r loaded o heard = strange

-- ---- all of it

-- the reply, heard; the node runs the transaction
abbrev pub takes : Settings → ℕ → Phase → Heard → Taken
takes settings node phase.Asking heard = takes_asking settings node heard
takes settings node (phase.Noted seen) heard = takes_noted settings node seen heard
takes settings node (phase.Drawing seen) heard = takes_drawing settings node seen heard
takes settings node (phase.Bringing seen low) heard = takes_bringing settings node seen heard
takes settings node (phase.Ready live) heard = strange
takes settings node (phase.Reading live r) heard = takes_reading settings live r heard
takes settings node (phase.TryingNothing live) heard = takes_trying_nothing live heard
takes settings node (phase.Trying a) heard = takes_trying a heard
takes settings node (phase.Storing s) heard = takes_storing s s.loaded (slice_get s.attempt.own s.stored) heard
takes settings node (phase.Removing r) heard = takes_removing r r.loaded (removal_at r) heard
takes settings node (phase.GivingUp live) heard = takes_giving_up live heard
takes settings node (phase.Closing tid decision loaded) heard = takes_closing settings node tid decision loaded heard
takes settings node (phase.Ending tid decision) heard = takes_ending heard
takes settings node phase.Over heard = strange
takes settings node phase.Stopped heard = strange
