use Rattle.std.proofs.Common.{ap, sym, subst, ◌∙◌, List, ℕ, Result, true}
use Rattle.std.proofs.lemmas.Result.{err_from_is_err_and}
use Rattle.std.specs.FinMap as finmap
use Rattle.tl_values.specs.declared.value.Value.{Value}
use Rattle.tl_write.specs.Change.{Remove}
use Rattle.tl_write.specs.Places.{AreWithin}
use Rattle.tl_write.specs.declared.fault.ChangeFault.{ChangeFault}
use Rattle.tl_write.specs.declared.write.Effect.{Effect}
use Rattle.tl_write.specs.Fault.{IsFault}
use Rattle.tl_write.specs.Tables.{tables_of}
use Rattle.tl_write.proofs.PlacesOn.{matching_at}
use Rattle.tl_write.proofs.Statements.{begun, found, passes_at, removed_fault, removed_on, within_rest}
use Rattle.tl_write.proofs.statement.delete.Goals as goal

pub loop-key-init : goal.loop-key-init
loop-key-init c = record {
  judged =
      begun c.args.table.now (finmap.contains_key (tables_of c.args.number c.args.table.now c.args.view.now)) c.args.own.now c.new-progress.result (c.new-progress.ensures c.args.own.now)
      (λ (e : List ℕ × List Value). Remove e.0) _ _
      (ap (found c.args.filter.now c.args.view.now) c.into_iter-key-iterator.ensures.into_iter_gives ∙ sym (matching_at c.args.number c.args.table.now c.args.filter.now c.args.view.now c.in_ok-items.items c.in_ok-items.ensures.found));
  counted = (c.new-progress.ensures c.args.own.now).1;
  within = subst (λ (es : List (List ℕ × ℕ)). AreWithin c.args.view.now es) (sym c.into_iter-key-iterator.ensures.into_iter_gives) c.in_ok-items.ensures.within;
}

pub returns-in_err-progress : goal.returns-in_err-progress
returns-in_err-progress c =
    let p = err_from_is_err_and c.from_residual-in_err-progress.result c.from_residual-in_err-progress.ensures.1 in
    let e = c.in_err-progress.field-0.0 in
    let there = finmap.contains_key (tables_of c.args.number c.args.table.now c.args.view.now) in
    rw (p.1, p.2) (subst (λ (r : Result Effect ChangeFault). IsFault e r) c.loop-key.invariant.judged
    (removed_fault c.args.table.now there c.args.own.now c.args.filter.now c.args.view.now c.in-Some.key c.in-Some.at c.next.new.self c.loop-key.key-iterator c.in-Some.ensures.steps
    (passes_at c.args.filter.now c.args.view.now c.in-Some.key c.in-Some.at c.next.new.self c.loop-key.key-iterator c.in-Some.ensures.steps c.loop-key.invariant.within c.index-view-at.result c.index-view-at.is c.lets_through.result true c.lets_through.ensures c.if-lets_through.true)
    c.loop-key.progress e (c.in_err-progress.ensures c.args.table.now there)))

pub loop-key-preserved-then-lets_through : goal.loop-key-preserved-then-lets_through
loop-key-preserved-then-lets_through c =
    let there = finmap.contains_key (tables_of c.args.number c.args.table.now c.args.view.now) in
    record {
      judged =
          removed_on c.args.table.now there c.args.own.now c.args.filter.now c.args.view.now c.in-Some.key c.in-Some.at c.next.new.self c.loop-key.key-iterator c.in-Some.ensures.steps
          (passes_at c.args.filter.now c.args.view.now c.in-Some.key c.in-Some.at c.next.new.self c.loop-key.key-iterator c.in-Some.ensures.steps c.loop-key.invariant.within c.index-view-at.result c.index-view-at.is c.lets_through.result true c.lets_through.ensures c.if-lets_through.true)
          c.loop-key.progress c.in_ok-progress.progress (c.in_ok-progress.ensures c.args.table.now there)
          ∙ c.loop-key.invariant.judged;
      counted = (c.in_ok-progress.ensures c.args.table.now there).1;
      within = within_rest c.args.view.now c.in-Some.key c.in-Some.at c.next.new.self c.loop-key.key-iterator c.in-Some.ensures.steps c.loop-key.invariant.within;
    }
