-- How a transaction goes on towards its end, and what it marks.
use Rattle.std.proofs.Common.{◌≡◌, ℕ, Bool, true, false, List, Option, Some, None}
use Rattle.std.specs.Prelude.{slice_get}
use Rattle.tl_base.specs.declared.place.Settings.{Settings}
use Rattle.tl_descriptor.specs.Tids.{has, inserted}
use Rattle.tl_manager.specs.declared.mark.Mark.{Mark}
use Rattle.tl_manager.specs.declared.mark.Mark.TheVariants as mark
use Rattle.tl_manager.specs.declared.mark.TxnStep.{TxnStep}
use Rattle.tl_manager.specs.declared.mark.TxnStep.TheVariants as step
use Rattle.tl_versions.specs.Versions.{is_written, stranger}
use Rattle.tl_write.specs.declared.write.Write.{Write}
use Rattle.tl_protocol.specs.Store.{Cell, CommitsCell}
use Rattle.tl_journal.specs.Ask.{StoreCommits, Heard, Commits, Record, Stored, Moved}
use Rattle.tl_txn.specs.Attempt.{Attempt}
use Rattle.tl_txn.specs.Taken as code
use Rattle.tl_txn.specs.Taken.{Taken, takes, unless_odd}
use Rattle.tl_txn.specs.declared.phase.Decision.{Decision}
use Rattle.tl_txn.specs.declared.phase.Decision.TheVariants as decision
use Rattle.tl_txn.specs.declared.phase.Open.{Open}
use Rattle.tl_txn.specs.declared.phase.Phase.{Phase}
use Rattle.tl_txn.specs.declared.phase.Phase.TheVariants as phase
use Rattle.tl_txn.specs.declared.phase.Removing.{Removing}
use Rattle.tl_txn.specs.declared.phase.Storing.{Storing}
use Rattle.tl_node.specs.Fits.{IsEnding}

-- a finished transaction waits for its manager
abbrev pub is_finished : Phase → Bool
is_finished (phase.Ending tid d) = true
is_finished other = false

-- the phases behind the beginning of the end
abbrev pub IsBehind : Phase → Type 0
IsBehind (phase.Storing s) = Unit {0}
IsBehind (phase.Removing r) = Unit {0}
IsBehind (phase.Closing tid d loaded) = Unit {0}
IsBehind other = ⊥

-- a mark of the end goes with the end
abbrev pub GoesTo : Mark → Phase → Type 0
GoesTo (mark.Committed tid) (phase.Ending t decision.Commit) = Unit {0}
GoesTo (mark.Committed tid) other = ⊥
GoesTo (mark.Undone tid) (phase.Ending t (decision.Undo rival)) = Unit {0}
GoesTo (mark.Undone tid) other = ⊥
GoesTo mark.Quiet now = IsBehind now
GoesTo (mark.Tried tid) now = IsBehind now
GoesTo (mark.Clashed tid rival at) now = IsBehind now
GoesTo other now = ⊥

abbrev pub StepsTo : Option TxnStep → Phase → Type 0
StepsTo (Some (step.Going m)) now = GoesTo m now
StepsTo None now = Unit {0}
StepsTo (Some other) now = ⊥

abbrev pub FitsEnd : Taken → Type 0
FitsEnd taken = StepsTo taken.step taken.phase

unless : (b : Bool) (taken : Taken) → FitsEnd taken → FitsEnd (unless_odd b taken)
unless true taken h = tt
unless false taken h = h

finishes_fit : (tid : ℕ) (d : Decision) (c : CommitsCell) (told : Mark) → GoesTo told (code.closing tid d true) → FitsEnd (code.finishes tid d c told)
finishes_fit tid d c told h = unless (has c.finished tid) (code.going (code.closing tid d true) (StoreCommits c.stamp (inserted c.finished tid)) told) h

trying_nothing : (live : Open) (sound : Heard) → FitsEnd (code.takes_trying_nothing live sound)
trying_nothing live (Commits c) = finishes_fit live.tid decision.Commit c (mark.Tried live.tid) tt
trying_nothing live sound = tt

giving_up : (live : Open) (sound : Heard) → FitsEnd (code.takes_giving_up live sound)
giving_up live (Commits c) = finishes_fit live.tid (decision.Undo None) c mark.Quiet tt
giving_up live sound = tt

closing_fits : (settings : Settings) (number tid : ℕ) (d : Decision) (loaded : Bool) (sound : Heard) → FitsEnd (code.takes_closing settings number tid d loaded sound)
closing_fits settings number tid d false (Commits c) = finishes_fit tid d c mark.Quiet tt
closing_fits settings number tid decision.Commit true (Stored stamp) = tt
closing_fits settings number tid (decision.Undo rival) true (Stored stamp) = tt
closing_fits settings number tid d true Moved = tt
closing_fits settings number tid d loaded sound = tt

finds : (s : Storing) (key : List ℕ) (cell : Cell) (r : Option ℕ) → FitsEnd (code.finds s key cell r)
finds s key cell None = tt
finds s key cell (Some rival) = tt

storing : (s : Storing) (loaded : Bool) (own : Option Write) (sound : Heard) → FitsEnd (code.takes_storing s loaded own sound)
storing s false (Some o) (Record cell) =
    unless (is_written s.attempt.tid cell.versions) (code.finds s o.key cell (stranger s.attempt.snapshot cell.versions)) (finds s o.key cell (stranger s.attempt.snapshot cell.versions))
storing s false None (Stored stamp) = tt
storing s true (Some o) (Stored stamp) = tt
storing s true (Some o) Moved = tt
storing s loaded own sound = tt

removing : (r : Removing) (loaded : Bool) (own : Option Write) (sound : Heard) → FitsEnd (code.takes_removing r loaded own sound)
removing r false None (Stored stamp) = tt
removing r false (Some o) (Record cell) = tt
removing r true (Some o) (Stored stamp) = tt
removing r true (Some o) Moved = tt
removing r loaded own sound = tt

trying : (a : Attempt) (sound : Heard) → FitsEnd (code.takes_trying a sound)
trying a (Stored stamp) = tt
trying a sound = tt

pub takes_fit : (settings : Settings) (number : ℕ) (now : Phase) (sound : Heard) → IsEnding now → is_finished now ≡ false → FitsEnd (takes settings number now sound)
takes_fit settings number (phase.TryingNothing live) sound h e = trying_nothing live sound
takes_fit settings number (phase.GivingUp live) sound h e = giving_up live sound
takes_fit settings number (phase.Trying a) sound h e = trying a sound
takes_fit settings number (phase.Storing s) sound h e = storing s s.loaded (slice_get s.attempt.own s.stored) sound
takes_fit settings number (phase.Removing r) sound h e = removing r r.loaded (code.removal_at r) sound
takes_fit settings number (phase.Closing tid d loaded) sound h e = closing_fits settings number tid d loaded sound
takes_fit settings number (phase.Ending tid d) sound h e = absurd cc
takes_fit settings number other sound h e = absurd h
