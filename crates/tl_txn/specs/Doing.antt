-- What a node does while it runs a transaction that is so far.
use Rattle.std.specs.Prelude.{ℕ, [], drop, take}
use Rattle.tl_base.specs.NodeSet.{no_nodes}
use Rattle.tl_manager.specs.State.{opening_copy}
use Rattle.tl_protocol.specs.Next.{end_answer}
use Rattle.tl_protocol.specs.World.{Stage, Txn, Decision, Commit, Undo}
use Rattle.tl_journal.specs.Node.{Storing, Removing, Doing, Outside, Noted, Drawing, Bringing, Inside, Trying, Stores, Removes, Closing, Ending, Stopped}
use Rattle.tl_ask.specs.Thin.{commits_if, loaded_if}
use Rattle.tl_txn.specs.Attempt.{txn_of}
use Rattle.tl_txn.specs.declared.phase.Decision.{Decision as TheDecision}
use Rattle.tl_txn.specs.declared.phase.Decision.TheVariants as decision
use Rattle.tl_txn.specs.declared.phase.Open.{Open}
use Rattle.tl_txn.specs.declared.phase.Phase.{Phase}
use Rattle.tl_txn.specs.declared.phase.Phase.TheVariants as phase
use Rattle.tl_txn.specs.declared.phase.Removing.{Removing as TheRemoving}
use Rattle.tl_txn.specs.declared.phase.Storing.{Storing as TheStoring}

abbrev pub txn_in : Stage → Open → Txn
txn_in stage live = record { tid = live.tid; snapshot = live.snapshot; own = live.own; stage = stage }

abbrev pub decided : TheDecision → Decision
decided decision.Commit = Commit
decided (decision.Undo rival) = Undo rival

abbrev pub storing_of : Stage → TheStoring → Storing
storing_of stage s =
    record {
      txn = txn_of stage s.attempt;
      log = s.log;
      stored = take s.stored s.attempt.own;
      left = drop s.stored s.attempt.own;
    }

abbrev pub removing_of : Stage → TheRemoving → Removing
removing_of stage r =
    record {
      txn = txn_of stage r.attempt;
      log = r.log;
      rival = r.rival;
      left = drop r.removed (take r.stored r.attempt.own);
    }

-- a transaction that is to be finished
abbrev pub closed : Stage → ℕ → Txn
closed stage tid = record { tid = tid; snapshot = opening_copy; own = []; stage = stage }

-- the end of a transaction in which this was said; a transaction that reads has more to it
abbrev pub doing_of : Stage → Phase → Doing
doing_of stage phase.Asking = Outside
doing_of stage (phase.Noted set) = Noted set
doing_of stage (phase.Drawing set) = Drawing set
doing_of stage (phase.Bringing set low) = Bringing set low
doing_of stage (phase.Ready live) = Inside (txn_in stage live)
doing_of stage (phase.Reading live read) = Inside (txn_in stage live)
doing_of stage (phase.TryingNothing live) = Inside (txn_in stage live)
doing_of stage (phase.Trying a) = Trying (txn_of stage a)
doing_of stage (phase.Storing s) = Stores (storing_of stage s) (loaded_if s.loaded)
doing_of stage (phase.Removing r) = Removes (removing_of stage r) (loaded_if r.loaded)
doing_of stage (phase.GivingUp live) = Inside (txn_in stage live)
doing_of stage (phase.Closing tid d loaded) = Closing (closed stage tid) (decided d) (commits_if loaded)
doing_of stage (phase.Ending tid d) = Ending tid (end_answer stage (decided d))
doing_of stage phase.Over = Outside
doing_of stage phase.Stopped = Stopped no_nodes
