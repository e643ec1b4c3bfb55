use Rattle.std.proofs.Common.{◌+◌, drop, ap, ◌∙◌}
use Rattle.tl_scope.specs.Fault.{earliest}
use Rattle.tl_scope.specs.Scope.{scope_of, source_of}
use Rattle.tl_scope.specs.Select.{from_faults}
use Rattle.tl_scope.proofs.Faults.{loop_indexed}
use Rattle.tl_scope.proofs.Scopes.{scope_longer, scope_next, scope_there}
use Rattle.tl_scope.proofs.select.from_fault.Goals as goal

pub loop-i-preserved : goal.loop-i-preserved
loop-i-preserved c =
    let l = c.loop-i in
    let catalog = c.args.catalog.now in
    let from = c.args.from.now in
    let item = c.index-from-i.result in
    let now = c.push_item.new.scope in
    let was = c.in_ok-push_item.ensures in
    let whole = scope_next catalog from l.scope now l.i item c.loop-i-test.true c.index-from-i.is was l.invariant.scope in
    let longer = scope_longer l.scope now (source_of catalog item) l.i was l.invariant.length in
    let there = scope_there now (scope_of catalog (drop (l.i + 1) from)) (scope_of catalog from) (l.i + 1) longer whole in
    record {
      scope = whole;
      length = longer;
      fault =
          loop_indexed (from_faults catalog (scope_of catalog from)) l.fault c.earliest-fault.result from l.i item c.loop-i-test.true c.index-from-i.is
          (c.earliest-fault.ensures ∙ ap (earliest l.fault) (c.from_item_fault.ensures (scope_of catalog from) there))
          ∙ l.invariant.fault;
    }
