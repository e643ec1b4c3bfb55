use Rattle.std.proofs.Common.{◌≡◌, ◌++◌, map}
use Rattle.tl_opening.specs.Rows.{opening_row, opening_rows}
use Rattle.tl_opening.proofs.rows.opening_rows.Given as goal

abbrev pub invariant-loop-key : goal.invariant-loop-key
invariant-loop-key l = l.rows ++ map opening_row l.key-iterator ≡ opening_rows l.fn.opening
