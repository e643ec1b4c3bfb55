use Rattle.std.proofs.Common.{ap, sym, subst, ◌∙◌, List, ℕ}
use Rattle.std.specs.FinMap as finmap
use Rattle.tl_values.specs.declared.value.Value.{Value}
use Rattle.tl_write.specs.Change.{replaced, set_columns}
use Rattle.tl_write.specs.Places.{AreWithin}
use Rattle.tl_write.specs.Tables.{tables_of}
use Rattle.tl_write.proofs.PlacesOn.{matching_at}
use Rattle.tl_write.proofs.Statements.{begun, found}
use Rattle.tl_write.proofs.statement.update.Goals as goal

pub loop-key-init : goal.loop-key-init
loop-key-init c = record {
  judged =
      begun c.args.table.now (finmap.contains_key (tables_of c.args.number c.args.table.now c.args.view.now)) c.args.own.now c.new-progress.result (c.new-progress.ensures c.args.own.now)
      (λ (e : List ℕ × List Value). replaced e.0 (set_columns c.args.sets.now e.1 e.1)) _ _
      (ap (found c.args.filter.now c.args.view.now) c.into_iter-key-iterator.ensures.into_iter_gives ∙ sym (matching_at c.args.number c.args.table.now c.args.filter.now c.args.view.now c.in_ok-items.items c.in_ok-items.ensures.found));
  counted = (c.new-progress.ensures c.args.own.now).1;
  within = subst (λ (es : List (List ℕ × ℕ)). AreWithin c.args.view.now es) (sym c.into_iter-key-iterator.ensures.into_iter_gives) c.in_ok-items.ensures.within;
}
