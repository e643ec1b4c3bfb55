-- What a node does while it recovers others, so far.
use Rattle.std.specs.Prelude.{ℕ, ◌∷◌, drop}
use Rattle.tl_base.specs.declared.node.NodeSet.{NodeSet}
use Rattle.tl_journal.specs.Node.{Claimed, Lost, Doing, Outside, Recovering, ReadingLog, Stripping, Finishing, EndingLost, Stopped}
use Rattle.tl_ask.specs.Thin.{commits_if, loaded_if}
use Rattle.tl_recover.specs.declared.phase.Lost.{Lost as TheLost}
use Rattle.tl_recover.specs.declared.phase.Phase.{Phase}
use Rattle.tl_recover.specs.declared.phase.Phase.TheVariants as phase
use Rattle.tl_recover.specs.Taken.{duties_after}

-- the duties behind this one
abbrev pub claimed : ℕ → NodeSet → ℕ → Claimed
claimed gone all node = record { node = gone; all = all; left = duties_after node all }

abbrev pub lost_of : TheLost → Lost
lost_of lost = record { node = lost.node; tid = lost.tid; others = lost.others }

-- a recovery of this node and of all of these
abbrev pub doing_of : ℕ → NodeSet → Phase → Doing
doing_of gone all (phase.Finding node) = Recovering (record { node = gone; all = all; left = node ∷ duties_after node all })
doing_of gone all (phase.ReadingLog lost) = ReadingLog (claimed gone all lost.node) (lost_of lost)
doing_of gone all (phase.Stripping lost log at loaded) =
    Stripping (claimed gone all lost.node) (lost_of lost) log (drop at log.entry.writes) (loaded_if loaded)
doing_of gone all (phase.Finishing lost committed loaded) =
    Finishing (claimed gone all lost.node) (lost_of lost) committed (commits_if loaded)
doing_of gone all (phase.EndingLost lost) = EndingLost (claimed gone all lost.node) (lost_of lost)
doing_of gone all phase.Over = Outside
doing_of gone all phase.Stopped = Stopped all
