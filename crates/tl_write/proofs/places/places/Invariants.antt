use Rattle.std.proofs.Common.{◌≡◌, drop, map}
use Rattle.std.specs.FinMap as finmap
use Rattle.tl_write.specs.Places.{AreWithin, tables_at}
use Rattle.tl_write.specs.Tables.{laid_over, tables_of, write_of}
use Rattle.tl_write.proofs.places.places.Given as goal

-- the rest over what is found are all
abbrev pub invariant-loop-at : goal.invariant-loop-at
invariant-loop-at l = record {
  found : laid_over (tables_at l.rows l.places) (map (write_of l.number l.table) (drop l.at l.rows)) ≡ tables_of l.number l.table l.rows;
  within : AreWithin l.rows (finmap.entries l.places);
}
