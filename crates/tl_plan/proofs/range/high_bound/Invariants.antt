use Rattle.std.proofs.Common.{◌≡◌, ◌+◌, [], ◌∷◌, drop}
use Rattle.tl_plan.specs.Steps.{high_from}
use Rattle.tl_plan.proofs.range.high_bound.Given as goal

-- the parts that are left lower the bound so far to that of all
abbrev pub invariant-loop-part : goal.invariant-loop-part
invariant-loop-part l = high_from (l.offset + l.column) l.high (drop l.part-index l.parts) ≡ high_from (l.offset + l.column) (4 ∷ []) l.parts
