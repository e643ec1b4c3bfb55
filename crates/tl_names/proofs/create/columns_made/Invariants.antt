use Rattle.std.proofs.Common.{◌≡◌, ◌++◌, drop}
use Rattle.tl_names.specs.Define.{columns_made}
use Rattle.tl_names.proofs.create.columns_made.Given as goal

-- those so far and those that are left
abbrev pub invariant-loop-at : goal.invariant-loop-at
invariant-loop-at l = l.made ++ columns_made l.key l.at (drop l.at l.columns) ≡ columns_made l.key 0 l.columns
