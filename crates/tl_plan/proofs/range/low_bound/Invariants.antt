use Rattle.std.proofs.Common.{◌≡◌, ◌+◌, [], ◌∷◌, drop}
use Rattle.tl_plan.specs.Steps.{low_from}
use Rattle.tl_plan.proofs.range.low_bound.Given as goal

-- the parts that are left raise the bound so far to that of all
abbrev pub invariant-loop-part : goal.invariant-loop-part
invariant-loop-part l = low_from (l.offset + l.column) l.low (drop l.part-index l.parts) ≡ low_from (l.offset + l.column) (1 ∷ []) l.parts
