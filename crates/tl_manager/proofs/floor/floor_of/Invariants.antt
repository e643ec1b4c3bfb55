use Rattle.std.proofs.Common.{◌≡◌, drop}
use Rattle.tl_manager.specs.Floor.{floor_of}
use Rattle.tl_manager.proofs.floor.floor_of.Given as goal

-- the floor of what is left, from here on, is that of all
abbrev pub invariant-loop-transaction : goal.invariant-loop-transaction
invariant-loop-transaction l = floor_of l.floor (drop l.transaction-index l.active) ≡ floor_of l.copy l.active
