use Rattle.std.proofs.Common.{◌≡◌, length}
use Rattle.tl_versions.specs.Versions.{are_distinct}
use Rattle.tl_versions.proofs.reading.are_distinct.Given as goal

abbrev pub invariant-loop-version : goal.invariant-loop-version
invariant-loop-version l = are_distinct l.rest ≡ are_distinct l.versions

abbrev pub decreases-loop-version : goal.decreases-loop-version
decreases-loop-version l = length l.rest
