use Rattle.std.proofs.Common.{◌≡◌, drop}
use Rattle.tl_schema.specs.Limits.{breaks_not_null}
use Rattle.tl_schema.proofs.limits.breaks_not_null.Given as goal

-- what is left decides
abbrev pub invariant-loop-column : goal.invariant-loop-column
invariant-loop-column l = breaks_not_null (drop l.column-index l.columns) l.left ≡ breaks_not_null l.columns l.row
