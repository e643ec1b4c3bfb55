use Rattle.std.proofs.Common.{◌≡◌, drop}
use Rattle.std.specs.FinMap as finmap
use Rattle.tl_algebra.specs.declared.edit.Edit.TheVariants.{Insert}
use Rattle.tl_write.specs.Change.{change_of, judged}
use Rattle.tl_write.specs.Progress.{IsCounted, done}
use Rattle.tl_write.specs.Tables.{tables_of}
use Rattle.tl_write.proofs.Statements.{additions}
use Rattle.tl_write.proofs.statement.insert.Given as goal

-- the rest after what is done is all
abbrev pub invariant-loop-row : goal.invariant-loop-row
invariant-loop-row l = record {
  judged : judged l.table (finmap.contains_key (tables_of l.number l.table l.view)) l.own (additions l.number l.table (drop l.row-index l.rows)) (done l.progress)
      ≡ change_of (Insert l.number l.rows) l.table (tables_of l.number l.table l.view) l.own;
  counted : IsCounted l.own l.progress;
}
