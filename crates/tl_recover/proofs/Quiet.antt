-- What is told where memory is wanting: nothing.
use Rattle.std.proofs.Common.{Bool, true, false, refl}
use Rattle.std.specs.Prelude.{if◌then◌else◌}
use Rattle.tl_base.specs.declared.place.Settings.{Settings}
use Rattle.tl_descriptor.specs.Tids.{has, inserted}
use Rattle.tl_manager.specs.declared.mark.Mark.TheVariants as mark
use Rattle.tl_journal.specs.Ask.{Heard, Commits, StoreCommits}
use Rattle.tl_recover.specs.declared.phase.Lost.{Lost}
use Rattle.tl_recover.specs.declared.phase.Phase.TheVariants as phase
use Rattle.tl_recover.specs.Heeds.{HasMark}
use Rattle.tl_recover.specs.Taken.{Taken, ending, going, takes_finishing}

either_quiet : (b : Bool) (here there : Taken) → HasMark mark.Quiet here.step → HasMark mark.Quiet there.step → HasMark mark.Quiet (if b then here else there).step
either_quiet true here there h g = h
either_quiet false here there h g = g

pub commits_quiet : (settings : Settings) (lost : Lost) (committed : Bool) (heard : Heard) → HasMark mark.Quiet (takes_finishing settings lost committed false heard).step
commits_quiet settings lost committed (Commits c) =
    either_quiet (has c.finished lost.tid) (ending settings lost mark.Quiet)
    (going (phase.Finishing lost committed true) (StoreCommits c.stamp (inserted c.finished lost.tid)) mark.Quiet) refl refl
commits_quiet settings lost committed heard = tt
