use Rattle.std.proofs.Common.{◌≡◌, drop, fold}
use Rattle.tl_collect.specs.Floors.{lower}
use Rattle.tl_collect.proofs.floors.least_of.Given as goal

-- the least of what is left, from here on, is that of all
abbrev pub invariant-loop-mark : goal.invariant-loop-mark
invariant-loop-mark l = fold lower l.least (drop l.mark-index l.others) ≡ fold lower l.first l.others
