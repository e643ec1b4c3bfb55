use Rattle.std.proofs.Common.{◌≡◌, ◌++◌, map}
use Rattle.std.specs.FinMap as finmap
use Rattle.tl_si.proofs.seen.rows_of.Given as goal

abbrev pub invariant-loop-row : goal.invariant-loop-row
invariant-loop-row l = l.rows ++ map (λ e. e.1) l.row-iterator ≡ finmap.values l.fn.records
