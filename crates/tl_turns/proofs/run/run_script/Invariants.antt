use Rattle.std.proofs.Common.{◌-◌, ◌^◌, length}
use Rattle.tl_world.specs.Seen.{seen_as}
use Rattle.tl_turns.proofs.SoFar.{Holds}
use Rattle.tl_turns.proofs.run.run_script.Given as goal

abbrev pub invariant-loop-node : goal.invariant-loop-node
invariant-loop-node l = Holds l.script l.settings (seen_as l.world) l.clock

-- each turn adds an event
abbrev pub decreases-loop-node : goal.decreases-loop-node
decreases-loop-node l = 2 ^ 32 - length (seen_as l.world).events
