use Rattle.tl_si.proofs.Entries.{Stands}
use Rattle.tl_si.proofs.history.check.Given as goal

abbrev pub invariant-loop-at : goal.invariant-loop-at
invariant-loop-at l = Stands l.setup l.entries l.at l.state
