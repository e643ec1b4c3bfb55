use Rattle.std.proofs.Common.{◌≡◌, List, [], ◌∷◌, drop, map}
use Rattle.tl_values.specs.declared.value.Value.{Value}
use Rattle.tl_algebra.specs.Select.{each, line_of}
use Rattle.tl_algebra.proofs.Each.{following}
use Rattle.tl_algebra.proofs.line.lines_of_rows.Given as goal

-- the lines so far and those of the rows that are left are all
abbrev pub invariant-loop-row : goal.invariant-loop-row
invariant-loop-row l =
    following l.lines.items (each (line_of l.query) (map (λ (row : List Value). row ∷ []) (drop l.row-index l.row-items)))
    ≡ each (line_of l.query) (map (λ (row : List Value). row ∷ []) l.rows)
