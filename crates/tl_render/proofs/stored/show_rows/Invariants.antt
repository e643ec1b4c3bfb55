use Rattle.std.proofs.Common.{◌≡◌, map}
use Rattle.std.specs.FinMap as finmap
use Rattle.tl_render.specs.Stored.{AreRead, with_cells}
use Rattle.tl_render.proofs.stored.show_rows.Given as goal

-- the cells that are left over the rows so far are all, and those of records spell versions
abbrev pub invariant-loop-key : goal.invariant-loop-key
invariant-loop-key l = record {
  are_read : AreRead (map (λ e. (e.0, e.1.now)) l.key-iterator);
  all :
      with_cells l.finished (map (λ e. (e.0, e.1.now)) l.key-iterator) l.rows
      ≡ with_cells l.finished (map (λ e. (e.0, e.1.now)) (finmap.entries l.stores)) l.initial.rows;
}
