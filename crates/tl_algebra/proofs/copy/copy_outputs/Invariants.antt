use Rattle.std.proofs.Common.{◌≡◌, take}
use Rattle.tl_algebra.proofs.copy.copy_outputs.Given as goal

abbrev pub invariant-loop-output : goal.invariant-loop-output
invariant-loop-output l = l.copies ≡ take l.output-index l.output-items
