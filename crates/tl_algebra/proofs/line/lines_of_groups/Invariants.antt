use Rattle.std.proofs.Common.{◌≡◌, drop, map}
use Rattle.tl_algebra.specs.declared.group.Group.{Group}
use Rattle.tl_algebra.specs.Group.{grouped}
use Rattle.tl_algebra.specs.Select.{each, line_of}
use Rattle.tl_algebra.proofs.Each.{following}
use Rattle.tl_algebra.proofs.line.lines_of_groups.Given as goal

-- the lines so far and those of the groups that are left are all
abbrev pub invariant-loop-group : goal.invariant-loop-group
invariant-loop-group l =
    following l.lines.items (each (line_of l.query) (map (λ (group : Group). group.rows) (drop l.group-index l.group-items)))
    ≡ each (line_of l.query) (grouped l.query.group l.fn.rows)
