use Rattle.std.proofs.Common.{◌≡◌, ◌<◌, ◌≤◌, ℕ, true}
use Rattle.tl_isolation.specs.declared.script.Script.{Script}
use Rattle.tl_journal.specs.Schedule.{is_over}
use Rattle.tl_world.specs.Seen.{seen_as}
use Rattle.tl_world.specs.Stands.{Stands}
use Rattle.tl_turns.proofs.clock.first_between.Given as goal

-- the nodes so far have nothing more to do
abbrev pub invariant-loop-number : goal.invariant-loop-number
invariant-loop-number l =
    (script : Script) → Stands script (seen_as l.world) → (k : ℕ) → l.above < k → k ≤ l.number → k ≤ 16 → is_over script (seen_as l.world).events k ≡ true
