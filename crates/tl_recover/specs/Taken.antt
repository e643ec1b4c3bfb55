-- What a recovery does with a reply: how far it is then, what it asks next, and what it tells.
use Rattle.std.specs.Prelude.{ℕ, ◌+◌, ◌^◌, ◌==◌, Bool, true, false, not, nat_lt, List, [], ◌∷◌, Option, Some, None, filter, slice_get, if◌then◌else◌}
use Rattle.std.specs.List.{list_any}
use Rattle.tl_base.specs.declared.node.NodeSet.{NodeSet}
use Rattle.tl_base.specs.declared.place.Settings.{Settings}
use Rattle.tl_descriptor.specs.Tids.{has, inserted}
use Rattle.tl_logrec.specs.declared.entry.Flag.{Flag}
use Rattle.tl_logrec.specs.declared.entry.Flag.TheVariants as flag
use Rattle.tl_manager.specs.declared.mark.Mark.{Mark}
use Rattle.tl_manager.specs.declared.mark.Mark.TheVariants as mark
use Rattle.tl_manager.specs.declared.mark.TxnStep.{TxnStep}
use Rattle.tl_manager.specs.declared.mark.TxnStep.TheVariants as step
use Rattle.tl_manager.specs.declared.request.ManagerReply.TheVariants as manager
use Rattle.tl_manager.specs.declared.request.ManagerRequest.TheVariants as request
use Rattle.tl_versions.specs.Versions.{is_written, strip}
use Rattle.tl_protocol.specs.Next.{marked}
use Rattle.tl_protocol.specs.Store.{LogCell}
use Rattle.tl_journal.specs.Ask.{Ask, LoadCommits, StoreCommits, LoadLog, StoreLog, LoadRecord, StoreRecord, AskManager, Heard, Commits, Log, Record, Stored, Moved, Told}
use Rattle.tl_journal.specs.Bytes.{home_of}
use Rattle.tl_journal.specs.Node.{nodes_in}
use Rattle.tl_recover.specs.declared.phase.Lost.{Lost}
use Rattle.tl_recover.specs.declared.phase.Phase.{Phase}
use Rattle.tl_recover.specs.declared.phase.Phase.TheVariants as phase

-- no step stands for a reply that no place of a run gives
pub record Taken : Type 0 where
  pub phase : Phase
  pub ask : Option Ask
  pub step : Option TxnStep

abbrev pub strange : Taken
strange = record { phase = phase.Stopped; ask = None; step = None }

abbrev pub going : Phase → Ask → Mark → Taken
going phase ask mark = record { phase = phase; ask = Some ask; step = Some (step.Going mark) }

abbrev pub unless_odd : Bool → Taken → Taken
unless_odd true taken = strange
unless_odd false taken = taken

-- ---- the duties, in rising order of nodes

-- those after this node
unfoldable pub duties_after : ℕ → NodeSet → List ℕ
duties_after node all = filter (λ n. nat_lt node n) (nodes_in all)

abbrev pub finding : Settings → ℕ → Taken
finding settings node = going (phase.Finding node) (AskManager (home_of settings node) (request.Orphans node)) mark.Quiet

-- the next duty, or the end where none is left
abbrev pub next_duty : Settings → List ℕ → Taken
next_duty settings [] = record { phase = phase.Over; ask = None; step = Some (step.Ended mark.Quiet) }
next_duty settings (node ∷ left) = finding settings node

-- the next transaction of the node, or the next duty
abbrev pub next_lost : Settings → NodeSet → ℕ → List ℕ → Taken
next_lost settings all node [] = next_duty settings (duties_after node all)
next_lost settings all node (tid ∷ others) =
    going (phase.ReadingLog (record { node = node; tid = tid; others = others })) (LoadLog tid) mark.Quiet

abbrev pub takes_finding : Settings → NodeSet → ℕ → Heard → Taken
takes_finding settings all node (Told (manager.Orphaned tids)) =
    unless_odd (list_any (nat_lt (2 ^ 62)) tids) (next_lost settings all node tids)
takes_finding settings all node heard = strange

-- ---- one transaction

abbrev pub finishing : Lost → Bool → Mark → Taken
finishing lost committed mark = going (phase.Finishing lost committed false) LoadCommits mark

-- the next record that the log cell names is loaded, or the cell is marked where there is none
abbrev pub ask_strip : LogCell → Option (List ℕ) → Ask
ask_strip log None = StoreLog log.stamp (marked 0 flag.Undone log).entry
ask_strip log (Some key) = LoadRecord key

abbrev pub stripping : Lost → LogCell → ℕ → Taken
stripping lost log at = going (phase.Stripping lost log at false) (ask_strip log (slice_get log.entry.writes at)) mark.Quiet

abbrev pub by_flag : Lost → LogCell → Flag → Taken
by_flag lost log flag.Trying = stripping lost log 0
by_flag lost log flag.Decided = finishing lost true mark.Quiet
by_flag lost log flag.Undone = finishing lost false mark.Quiet

-- the log cell of another transaction
abbrev pub is_odd_log : ℕ → LogCell → Bool
is_odd_log tid log = not (log.entry.tid == tid)

abbrev pub takes_log : Lost → Heard → Taken
takes_log lost (Log None) = finishing lost false mark.Quiet
takes_log lost (Log (Some log)) = unless_odd (is_odd_log lost.tid log) (by_flag lost log log.entry.flag)
takes_log lost heard = strange

abbrev pub takes_stripping : Lost → LogCell → ℕ → Bool → Option (List ℕ) → Heard → Taken
takes_stripping lost log at false None (Stored stamp) = finishing lost false mark.Quiet
takes_stripping lost log at false (Some key) (Record cell) =
    if is_written lost.tid cell.versions
    then going (phase.Stripping lost log at true) (StoreRecord key cell.stamp (strip lost.tid cell.versions)) mark.Quiet
    else stripping lost log (at + 1)
takes_stripping lost log at true (Some key) (Stored stamp) = stripping lost log (at + 1)
takes_stripping lost log at true (Some key) Moved = stripping lost log at
takes_stripping lost log at loaded key heard = strange

abbrev pub ending : Settings → Lost → Mark → Taken
ending settings lost mark = going (phase.EndingLost lost) (AskManager (home_of settings lost.node) (request.End lost.tid)) mark

abbrev pub finished_so : Bool → ℕ → Mark
finished_so committed tid = if committed then mark.Committed tid else mark.Undone tid

-- nothing is left but the end where the transaction is among the finished ones
abbrev pub takes_finishing : Settings → Lost → Bool → Bool → Heard → Taken
takes_finishing settings lost committed false (Commits c) =
    if has c.finished lost.tid then ending settings lost mark.Quiet
    else going (phase.Finishing lost committed true) (StoreCommits c.stamp (inserted c.finished lost.tid)) mark.Quiet
takes_finishing settings lost committed true (Stored stamp) = ending settings lost (finished_so committed lost.tid)
takes_finishing settings lost committed true Moved = finishing lost committed mark.Quiet
takes_finishing settings lost committed loaded heard = strange

abbrev pub takes_ending : Settings → NodeSet → Lost → Heard → Taken
takes_ending settings all lost (Told manager.Ended) = next_lost settings all lost.node lost.others
takes_ending settings all lost heard = strange

-- ---- all of it

-- the reply, heard, where these nodes are to be recovered
abbrev pub takes : Settings → NodeSet → Phase → Heard → Taken
takes settings all (phase.Finding node) heard = takes_finding settings all node heard
takes settings all (phase.ReadingLog lost) heard = takes_log lost heard
takes settings all (phase.Stripping lost log at loaded) heard = takes_stripping lost log at loaded (slice_get log.entry.writes at) heard
takes settings all (phase.Finishing lost committed loaded) heard = takes_finishing settings lost committed loaded heard
takes settings all (phase.EndingLost lost) heard = takes_ending settings all lost heard
takes settings all phase.Over heard = strange
takes settings all phase.Stopped heard = strange
