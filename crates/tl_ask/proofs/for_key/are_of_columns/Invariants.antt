use Rattle.std.proofs.Common.{◌≡◌, drop}
use Rattle.tl_ask.specs.Columns.{are_of_columns}
use Rattle.tl_ask.proofs.for_key.are_of_columns.Given as goal

-- what is left decides
abbrev pub invariant-loop-place : goal.invariant-loop-place
invariant-loop-place l = are_of_columns l.columns (drop l.place-index l.places) l.left ≡ are_of_columns l.columns l.places l.values
