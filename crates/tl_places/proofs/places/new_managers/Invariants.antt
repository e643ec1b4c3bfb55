use Rattle.tl_places.specs.Opening.{AreNew}
use Rattle.tl_places.proofs.places.new_managers.Given as goal

abbrev pub invariant-loop : goal.invariant-loop
invariant-loop l = AreNew l.counter l.managers.items
