use Rattle.std.proofs.Common.{subst, ◌∙◌, Result}
use Rattle.std.proofs.lemmas.Result.{err_from_is_err_and}
use Rattle.std.specs.FinMap as finmap
use Rattle.tl_write.specs.declared.fault.ChangeFault.{ChangeFault}
use Rattle.tl_write.specs.declared.write.Effect.{Effect}
use Rattle.tl_write.specs.Fault.{IsFault}
use Rattle.tl_write.specs.Tables.{tables_of}
use Rattle.tl_write.proofs.PlacesOn.{contains_at}
use Rattle.tl_write.proofs.Statements.{added_fault, added_on, additions, from_nothing}
use Rattle.tl_write.proofs.statement.insert.Goals as goal

pub loop-row-init : goal.loop-row-init
loop-row-init c = record {
  judged =
      from_nothing c.args.table.now (finmap.contains_key (tables_of c.args.number c.args.table.now c.args.view.now)) c.args.own.now c.new-progress.result (c.new-progress.ensures c.args.own.now)
      (additions c.args.number c.args.table.now c.args.rows.now);
  counted = (c.new-progress.ensures c.args.own.now).1;
}

pub returns-in_err-progress : goal.returns-in_err-progress
returns-in_err-progress c =
    let p = err_from_is_err_and c.from_residual-in_err-progress.result c.from_residual-in_err-progress.ensures.1 in
    let e = c.in_err-progress.field-0.0 in
    let view = tables_of c.args.number c.args.table.now c.args.view.now in
    rw (p.1, p.2) (subst (λ (r : Result Effect ChangeFault). IsFault e r) c.loop-row.invariant.judged
    (added_fault c.args.table.now (finmap.contains_key view) (finmap.contains_key c.in_ok-places.places) c.args.own.now c.args.number c.args.rows.now c.loop-row.row-index c.row-item.result c.loop-row-test.true c.row-item.is
    (contains_at c.args.view.now c.in_ok-places.places view c.in_ok-places.ensures.found) c.loop-row.progress e c.in_err-progress.ensures))

pub loop-row-preserved : goal.loop-row-preserved
loop-row-preserved c =
    let view = tables_of c.args.number c.args.table.now c.args.view.now in
    record {
      judged =
          added_on c.args.table.now (finmap.contains_key view) (finmap.contains_key c.in_ok-places.places) c.args.own.now c.args.number c.args.rows.now c.loop-row.row-index c.row-item.result c.loop-row-test.true c.row-item.is
          (contains_at c.args.view.now c.in_ok-places.places view c.in_ok-places.ensures.found) c.loop-row.progress c.in_ok-progress.progress c.in_ok-progress.ensures
          ∙ c.loop-row.invariant.judged;
      counted = c.in_ok-progress.ensures.1;
    }
