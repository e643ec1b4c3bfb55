use Rattle.std.proofs.Common.{take}
use Rattle.std.specs.List.{AllByRecursion}
use Rattle.tl_bind.specs.Values.{LiteralHasValue}
use Rattle.tl_bind.proofs.change.prove_literals.Given as goal

abbrev pub invariant-loop-literal : goal.invariant-loop-literal
invariant-loop-literal l = AllByRecursion LiteralHasValue (take l.literal-index l.literals)
