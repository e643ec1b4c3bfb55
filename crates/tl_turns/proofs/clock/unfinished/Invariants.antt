use Rattle.std.proofs.Common.{◌≡◌, length}
use Rattle.tl_isolation.specs.declared.script.Script.{Script}
use Rattle.tl_journal.specs.Schedule.{unfinished}
use Rattle.tl_world.specs.Seen.{seen_as}
use Rattle.tl_world.specs.Stands.{Stands}
use Rattle.tl_turns.proofs.clock.unfinished.Given as goal

-- those that were passed are finished
abbrev pub invariant-loop-item : goal.invariant-loop-item
invariant-loop-item l =
    (script : Script) → Stands script (seen_as l.world) → unfinished script (seen_as l.world).events l.left ≡ unfinished script (seen_as l.world).events l.items

abbrev pub decreases-loop-item : goal.decreases-loop-item
decreases-loop-item l = length l.left
