-- What a recovery marks: that a transaction is finished, or nothing.
use Rattle.std.proofs.Common.{◌≡◌, ℕ, ◌+◌, Bool, true, false, List, [], ◌∷◌, Option, Some, None, refl}
use Rattle.std.specs.Prelude.{◌^◌, nat_lt, if◌then◌else◌, slice_get}
use Rattle.std.specs.List.{list_any}
use Rattle.tl_base.specs.declared.node.NodeSet.{NodeSet}
use Rattle.tl_base.specs.declared.place.Settings.{Settings}
use Rattle.tl_descriptor.specs.Tids.{has, inserted}
use Rattle.tl_logrec.specs.declared.entry.Flag.{Flag}
use Rattle.tl_logrec.specs.declared.entry.Flag.TheVariants as flag
use Rattle.tl_manager.specs.declared.mark.Mark.{Mark}
use Rattle.tl_manager.specs.declared.mark.Mark.TheVariants as mark
use Rattle.tl_manager.specs.declared.mark.TxnStep.{TxnStep}
use Rattle.tl_manager.specs.declared.mark.TxnStep.TheVariants as step
use Rattle.tl_manager.specs.declared.request.ManagerReply.TheVariants as manager
use Rattle.tl_versions.specs.Versions.{is_written, strip}
use Rattle.tl_protocol.specs.Store.{LogCell}
use Rattle.tl_journal.specs.Ask.{StoreCommits, StoreRecord, Heard, Commits, Log, Record, Stored, Moved, Told}
use Rattle.tl_recover.specs.declared.phase.Lost.{Lost}
use Rattle.tl_recover.specs.declared.phase.Phase.{Phase}
use Rattle.tl_recover.specs.declared.phase.Phase.TheVariants as phase
use Rattle.tl_recover.specs.Taken.{Taken, by_flag, duties_after, ending, going, is_odd_log, next_duty, next_lost, stripping, takes, takes_ending, takes_finding, takes_finishing, takes_log, takes_stripping, unless_odd}

-- the marks that a recovery makes
abbrev pub is_finished : Mark → Bool
is_finished mark.Quiet = true
is_finished (mark.Committed tid) = true
is_finished (mark.Undone tid) = true
is_finished other = false

abbrev pub marks_so : Option TxnStep → Bool
marks_so (Some (step.Going told)) = is_finished told
marks_so other = true

abbrev IsStep : Taken → Type 0
IsStep taken = marks_so taken.step ≡ true

either : (b : Bool) (here there : Taken) → IsStep here → IsStep there → IsStep (if b then here else there)
either true here there h g = h
either false here there h g = g

unless : (b : Bool) (taken : Taken) → IsStep taken → IsStep (unless_odd b taken)
unless true taken h = refl
unless false taken h = h

duty_step : (settings : Settings) (nodes : List ℕ) → IsStep (next_duty settings nodes)
duty_step settings [] = refl
duty_step settings (node ∷ left) = refl

lost_step : (settings : Settings) (all : NodeSet) (node : ℕ) (tids : List ℕ) → IsStep (next_lost settings all node tids)
lost_step settings all node [] = duty_step settings (duties_after node all)
lost_step settings all node (tid ∷ others) = refl

finding_step : (settings : Settings) (all : NodeSet) (node : ℕ) (heard : Heard) → IsStep (takes_finding settings all node heard)
finding_step settings all node (Told (manager.Orphaned tids)) =
    unless (list_any (nat_lt (2 ^ 62)) tids) (next_lost settings all node tids) (lost_step settings all node tids)
finding_step settings all node heard = refl

flag_step : (lost : Lost) (log : LogCell) (f : Flag) → IsStep (by_flag lost log f)
flag_step lost log flag.Trying = refl
flag_step lost log flag.Decided = refl
flag_step lost log flag.Undone = refl

log_step : (lost : Lost) (heard : Heard) → IsStep (takes_log lost heard)
log_step lost (Log None) = refl
log_step lost (Log (Some log)) = unless (is_odd_log lost.tid log) (by_flag lost log log.entry.flag) (flag_step lost log log.entry.flag)
log_step lost heard = refl

strip_step : (lost : Lost) (log : LogCell) (at : ℕ) (loaded : Bool) (key : Option (List ℕ)) (heard : Heard) → IsStep (takes_stripping lost log at loaded key heard)
strip_step lost log at false None (Stored stamp) = refl
strip_step lost log at false None heard = refl
strip_step lost log at false (Some key) (Record cell) =
    either (is_written lost.tid cell.versions) (going (phase.Stripping lost log at true) (StoreRecord key cell.stamp (strip lost.tid cell.versions)) mark.Quiet)
    (stripping lost log (at + 1)) refl refl
strip_step lost log at false (Some key) heard = refl
strip_step lost log at true (Some key) (Stored stamp) = refl
strip_step lost log at true (Some key) Moved = refl
strip_step lost log at true (Some key) heard = refl
strip_step lost log at true None heard = refl

finish_step : (settings : Settings) (lost : Lost) (committed loaded : Bool) (heard : Heard) → IsStep (takes_finishing settings lost committed loaded heard)
finish_step settings lost committed false (Commits c) =
    either (has c.finished lost.tid) (ending settings lost mark.Quiet)
    (going (phase.Finishing lost committed true) (StoreCommits c.stamp (inserted c.finished lost.tid)) mark.Quiet) refl refl
finish_step settings lost committed false heard = refl
finish_step settings lost true true (Stored stamp) = refl
finish_step settings lost false true (Stored stamp) = refl
finish_step settings lost committed true Moved = refl
finish_step settings lost committed true heard = refl

ending_step : (settings : Settings) (all : NodeSet) (lost : Lost) (heard : Heard) → IsStep (takes_ending settings all lost heard)
ending_step settings all lost (Told manager.Ended) = lost_step settings all lost.node lost.others
ending_step settings all lost heard = refl

pub takes_step : (settings : Settings) (all : NodeSet) (now : Phase) (heard : Heard) → IsStep (takes settings all now heard)
takes_step settings all (phase.Finding node) heard = finding_step settings all node heard
takes_step settings all (phase.ReadingLog lost) heard = log_step lost heard
takes_step settings all (phase.Stripping lost log at loaded) heard = strip_step lost log at loaded (slice_get log.entry.writes at) heard
takes_step settings all (phase.Finishing lost committed loaded) heard = finish_step settings lost committed loaded heard
takes_step settings all (phase.EndingLost lost) heard = ending_step settings all lost heard
takes_step settings all phase.Over heard = refl
takes_step settings all phase.Stopped heard = refl
