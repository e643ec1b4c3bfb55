use Rattle.std.proofs.Common.{◌≡◌}
use Rattle.tl_recover.specs.Duties.{first_of}
use Rattle.tl_recover.specs.Taken.{duties_after}
use Rattle.tl_recover.proofs.Numbers.{picked}
use Rattle.tl_recover.proofs.duties.duty_after.Given as goal

-- the first of those from this number on is that of all
abbrev pub invariant-loop-number : goal.invariant-loop-number
invariant-loop-number l = first_of (picked l.node l.all l.number) ≡ first_of (duties_after l.node l.all)
