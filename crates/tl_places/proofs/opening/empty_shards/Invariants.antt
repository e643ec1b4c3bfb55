use Rattle.std.proofs.Common.{[]}
use Rattle.tl_places.specs.Opening.{HaveStored}
use Rattle.tl_places.proofs.opening.empty_shards.Given as goal

abbrev pub invariant-loop : goal.invariant-loop
invariant-loop l = HaveStored l.counter [] l.shards.items
