use Rattle.std.proofs.Common.{◌≡◌, replicate}
use Rattle.tl_manager.specs.State.{opening_copy}
use Rattle.tl_collect.proofs.floors.Floors.new.Given as goal

abbrev pub invariant-loop : goal.invariant-loop
invariant-loop l = l.marks ≡ replicate l.counter opening_copy
