use Rattle.std.proofs.Common.{◌≡◌}
use Rattle.std.specs.FinMap as finmap
use Rattle.tl_algebra.specs.declared.edit.Edit.TheVariants.{Update}
use Rattle.tl_write.specs.Change.{change_of, judged}
use Rattle.tl_write.specs.Places.{AreWithin}
use Rattle.tl_write.specs.Progress.{IsCounted, done}
use Rattle.tl_write.specs.Tables.{tables_of}
use Rattle.tl_write.proofs.Statements.{updates}
use Rattle.tl_write.proofs.statement.update.Given as goal

-- the rest after what is done is all
abbrev pub invariant-loop-key : goal.invariant-loop-key
invariant-loop-key l = record {
  judged : judged l.table (finmap.contains_key (tables_of l.number l.table l.view)) l.own (updates l.sets l.filter l.view l.key-iterator) (done l.progress)
      ≡ change_of (Update l.number l.sets l.filter) l.table (tables_of l.number l.table l.view) l.own;
  counted : IsCounted l.own l.progress;
  within : AreWithin l.view l.key-iterator;
}
