use Rattle.std.proofs.Common.{◌≡◌, ◌≤◌, length}
use Rattle.std.specs.Prelude.{take}
use Rattle.tl_world.specs.Told.{first_in}
use Rattle.tl_world.proofs.firsts.count_in.Given as goal

abbrev pub invariant-loop-count : goal.invariant-loop-count
invariant-loop-count l = (l.count ≤ length l.commits) × (first_in l.snapshot l.commits ≡ first_in l.snapshot (take l.count l.commits))

-- proposed from the loop's first test
abbrev pub decreases-loop-count : goal.decreases-loop-count
decreases-loop-count l = l.count
