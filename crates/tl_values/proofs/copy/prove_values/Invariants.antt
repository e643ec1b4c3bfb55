use Rattle.std.proofs.Common.{take}
use Rattle.tl_values.specs.Key.{AreValues}
use Rattle.tl_values.proofs.copy.prove_values.Given as goal

abbrev pub invariant-loop-value : goal.invariant-loop-value
invariant-loop-value l = AreValues (take l.value-index l.values)
