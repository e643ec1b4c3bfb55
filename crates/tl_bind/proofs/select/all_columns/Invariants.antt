use Rattle.std.proofs.Common.{◌≡◌, ◌++◌}
use Rattle.std.proofs.Common.{◌-◌}
use Rattle.tl_bind.specs.Select.{columns_from}
use Rattle.tl_bind.proofs.select.all_columns.Given as goal

-- those so far and those that are left
abbrev pub invariant-loop-place : goal.invariant-loop-place
invariant-loop-place l = l.outputs ++ columns_from l.place (l.count - l.place) ≡ columns_from 0 l.count
