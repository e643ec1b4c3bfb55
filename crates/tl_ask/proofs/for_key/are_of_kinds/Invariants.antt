use Rattle.std.proofs.Common.{◌≡◌, drop}
use Rattle.tl_isolation.specs.Kinds.{are_of_kinds}
use Rattle.tl_ask.proofs.for_key.are_of_kinds.Given as goal

-- what is left decides
abbrev pub invariant-loop-column : goal.invariant-loop-column
invariant-loop-column l = are_of_kinds (drop l.column-index l.columns) l.left ≡ are_of_kinds l.columns l.row
