use Rattle.std.proofs.Common.{length}
use Rattle.tl_values.proofs.KeyReading.{ReadSoFar}
use Rattle.tl_values.proofs.reading.values_of.Given as goal

abbrev pub invariant-loop-rest : goal.invariant-loop-rest
invariant-loop-rest l = ReadSoFar l.bytes l.row l.rest

abbrev pub decreases-loop-rest : goal.decreases-loop-rest
decreases-loop-rest l = length l.rest
