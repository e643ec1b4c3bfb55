-- What a transaction hears, and which steps it makes: no scan of an index, and no want of memory.
use Rattle.std.proofs.Common.{ℕ, ◌+◌, ◌^◌, Bool, true, false, List, [], ◌∷◌, Option, Some, None}
use Rattle.std.specs.Prelude.{not, ◌&&◌, nat_le, slice_get, if◌then◌else◌}
use Rattle.tl_schema.specs.declared.catalog.Catalog.{Catalog}
use Rattle.tl_base.specs.declared.place.Settings.{Settings}
use Rattle.tl_base.specs.declared.store.StoreReply.TheVariants as answered
use Rattle.tl_descriptor.specs.Reading.{read_set}
use Rattle.tl_descriptor.specs.Tids.{TidSet, has, inserted}
use Rattle.tl_manager.specs.declared.mark.Mark.{Mark}
use Rattle.tl_manager.specs.declared.mark.Mark.TheVariants as mark
use Rattle.tl_manager.specs.declared.mark.TxnStep.{TxnStep}
use Rattle.tl_manager.specs.declared.mark.TxnStep.TheVariants as step
use Rattle.tl_manager.specs.declared.request.ManagerReply.TheVariants as manager
use Rattle.tl_manager.specs.declared.request.ManagerRequest.TheVariants as request
use Rattle.tl_manager.specs.declared.request.Reply.{Reply}
use Rattle.tl_manager.specs.declared.request.Reply.TheVariants as reply
use Rattle.tl_versions.specs.Versions.{is_written, stranger}
use Rattle.tl_write.specs.declared.write.Write.{Write}
use Rattle.tl_protocol.specs.Store.{Cell, CommitsCell}
use Rattle.tl_journal.specs.Ask.{StoreCommits, AskManager, Heard, Commits, Record, Page, Stored, Moved, Numbers, Told, Strange}
use Rattle.tl_journal.specs.Bytes.{commits_in, heard, home_of}
use Rattle.tl_journal.specs.Reads as law
use Rattle.tl_journal.specs.Reads.{range_left, rows_found}
use Rattle.tl_txn.specs.Attempt.{Attempt}
use Rattle.tl_txn.specs.Follows.{IsOfCommits, MayHear}
use Rattle.tl_ask.specs.Hears.{hears_commits}
use Rattle.tl_txn.specs.Hears.{hears}
use Rattle.tl_txn.specs.Taken as code
use Rattle.tl_txn.specs.Taken.{Taken, takes, unless_odd}
use Rattle.tl_txn.specs.declared.phase.Decision.{Decision}
use Rattle.tl_txn.specs.declared.phase.Decision.TheVariants as decision
use Rattle.tl_txn.specs.declared.phase.Open.{Open}
use Rattle.tl_txn.specs.declared.phase.Phase.{Phase}
use Rattle.tl_txn.specs.declared.phase.Phase.TheVariants as phase
use Rattle.tl_txn.specs.declared.phase.Read.{Read}
use Rattle.tl_txn.specs.declared.phase.Read.TheVariants as read
use Rattle.tl_txn.specs.declared.phase.Removing.{Removing}
use Rattle.tl_txn.specs.declared.phase.Storing.{Storing}

abbrev pub IsOwnStep : Option TxnStep → Type 0
IsOwnStep (Some (step.Leaf mark)) = ⊥
IsOwnStep (Some (step.NoMemory mark)) = ⊥
IsOwnStep made = Unit {0}

unless : (b : Bool) (taken : Taken) → IsOwnStep taken.step → IsOwnStep (unless_odd b taken).step
unless true taken h = tt
unless false taken h = h

noted : (settings : Settings) (number : ℕ) (seen : TidSet) (heard : Heard) → IsOwnStep (code.takes_noted settings number seen heard).step
noted settings number seen (Told (manager.Began tid snapshot floor)) =
    unless (not (nat_le tid (2 ^ 62) && not (has snapshot tid))) (code.ready (code.opened tid snapshot) (mark.Began tid)) tt
noted settings number seen (Told manager.NeedRange) = tt
noted settings number seen heard = tt

drawing : (settings : Settings) (number : ℕ) (seen : TidSet) (heard : Heard) → IsOwnStep (code.takes_drawing settings number seen heard).step
drawing settings number seen (Numbers old) =
    unless (not (nat_le (old + 16) (2 ^ 62)))
    (code.going (phase.Bringing seen old) (AskManager (home_of settings number) (request.Range (old + 1) (old + 16))) mark.Quiet) tt
drawing settings number seen heard = tt

page : (live : Open) (more : List law.Read) → IsOwnStep (code.next_page live more).step
page live [] = tt
page live (law.Point key ∷ more) = tt
page live (law.Range shard from first before ∷ more) = tt

reading : (settings : Settings) (live : Open) (r : Read) (heard : Heard) → IsOwnStep (code.takes_reading settings live r heard).step
reading settings live (read.Point key) (Record cell) = tt
reading settings live (read.Range r) (Page found more) = page (code.with_rows live (rows_found live.snapshot found)) (range_left settings.shards r.shard r.from r.first r.before more found)
reading settings live r heard = tt

finishes : (tid : ℕ) (d : Decision) (c : CommitsCell) (told : Mark) → IsOwnStep (code.finishes tid d c told).step
finishes tid d c told = unless (has c.finished tid) (code.going (code.closing tid d true) (StoreCommits c.stamp (inserted c.finished tid)) told) tt

trying_nothing : (live : Open) (heard : Heard) → IsOwnStep (code.takes_trying_nothing live heard).step
trying_nothing live (Commits c) = finishes live.tid decision.Commit c (mark.Tried live.tid)
trying_nothing live heard = tt

giving_up : (live : Open) (heard : Heard) → IsOwnStep (code.takes_giving_up live heard).step
giving_up live (Commits c) = finishes live.tid (decision.Undo None) c mark.Quiet
giving_up live heard = tt

closing : (settings : Settings) (number tid : ℕ) (d : Decision) (loaded : Bool) (heard : Heard) → IsOwnStep (code.takes_closing settings number tid d loaded heard).step
closing settings number tid d false (Commits c) = finishes tid d c mark.Quiet
closing settings number tid d true (Stored stamp) = tt
closing settings number tid d true Moved = tt
closing settings number tid d loaded heard = tt

finds : (s : Storing) (key : List ℕ) (cell : Cell) (r : Option ℕ) → IsOwnStep (code.finds s key cell r).step
finds s key cell None = tt
finds s key cell (Some rival) = tt

storing : (s : Storing) (loaded : Bool) (own : Option Write) (heard : Heard) → IsOwnStep (code.takes_storing s loaded own heard).step
storing s false (Some o) (Record cell) =
    unless (is_written s.attempt.tid cell.versions) (code.finds s o.key cell (stranger s.attempt.snapshot cell.versions)) (finds s o.key cell (stranger s.attempt.snapshot cell.versions))
storing s false None (Stored stamp) = tt
storing s true (Some o) (Stored stamp) = tt
storing s true (Some o) Moved = tt
storing s loaded own heard = tt

removing : (r : Removing) (loaded : Bool) (own : Option Write) (heard : Heard) → IsOwnStep (code.takes_removing r loaded own heard).step
removing r false None (Stored stamp) = tt
removing r false (Some o) (Record cell) = tt
removing r true (Some o) (Stored stamp) = tt
removing r true (Some o) Moved = tt
removing r loaded own heard = tt

asking : (settings : Settings) (number : ℕ) (heard : Heard) → IsOwnStep (code.takes_asking settings number heard).step
asking settings number (Commits c) = tt
asking settings number heard = tt

bringing : (settings : Settings) (number : ℕ) (seen : TidSet) (heard : Heard) → IsOwnStep (code.takes_bringing settings number seen heard).step
bringing settings number seen (Told manager.Ranged) = tt
bringing settings number seen heard = tt

trying : (a : Attempt) (heard : Heard) → IsOwnStep (code.takes_trying a heard).step
trying a (Stored stamp) = tt
trying a heard = tt

ending : (heard : Heard) → IsOwnStep (code.takes_ending heard).step
ending (Told manager.Ended) = tt
ending heard = tt

pub own_step : (settings : Settings) (number : ℕ) (before : Phase) (heard : Heard) → IsOwnStep (takes settings number before heard).step
own_step settings number phase.Asking heard = asking settings number heard
own_step settings number (phase.Noted seen) heard = noted settings number seen heard
own_step settings number (phase.Drawing seen) heard = drawing settings number seen heard
own_step settings number (phase.Bringing seen low) heard = bringing settings number seen heard
own_step settings number (phase.Ready live) heard = tt
own_step settings number (phase.Reading live r) heard = reading settings live r heard
own_step settings number (phase.TryingNothing live) heard = trying_nothing live heard
own_step settings number (phase.Trying a) heard = trying a heard
own_step settings number (phase.Storing s) heard = storing s s.loaded (slice_get s.attempt.own s.stored) heard
own_step settings number (phase.Removing r) heard = removing r r.loaded (code.removal_at r) heard
own_step settings number (phase.GivingUp live) heard = giving_up live heard
own_step settings number (phase.Closing tid d loaded) heard = closing settings number tid d loaded heard
own_step settings number (phase.Ending tid d) heard = ending heard
own_step settings number phase.Over heard = tt
own_step settings number phase.Stopped heard = tt

-- ---- what is heard

set_heard : (stamp : ℕ) (set : Option TidSet) → IsOfCommits (commits_in stamp set)
set_heard stamp None = tt
set_heard stamp (Some set) = tt

where_so : (b : Bool) (h : Heard) → IsOfCommits h → IsOfCommits (if b then h else Strange)
where_so true h is = is
where_so false h is = tt

pub commits_heard : (reply : Reply) → IsOfCommits (hears_commits reply)
commits_heard (reply.Store (answered.Cell stamp value)) = where_so _ _ (set_heard stamp (read_set value))
commits_heard (reply.Store told) = tt
commits_heard (reply.Manager told) = tt

pub may_hear : (catalog : Catalog) (kept : Phase) (reply : Reply) → MayHear kept (hears catalog kept reply)
may_hear catalog (phase.TryingNothing live) reply = commits_heard reply
may_hear catalog kept reply = tt
