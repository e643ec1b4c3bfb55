use Rattle.std.proofs.Common.{◌≡◌, map}
use Rattle.std.specs.Vec.Iter.{into_iter_items}
use Rattle.tl_write.specs.Tables.{laid_over, tables_of, write_of}
use Rattle.tl_write.proofs.lay.keyed.Given as goal

-- the rest over what is there are all
abbrev pub invariant-loop-row : goal.invariant-loop-row
invariant-loop-row l = laid_over l.keyed (map (write_of l.number l.table) (into_iter_items l.row-iterator)) ≡ tables_of l.number l.table l.fn.rows
