use Rattle.tl_si.proofs.Found.{IsPlaced}
use Rattle.tl_si.proofs.past.with_places.Given as goal

abbrev pub invariant-loop-at : goal.invariant-loop-at
invariant-loop-at l = IsPlaced l.commit l.writes l.fn.records l.at l.records
