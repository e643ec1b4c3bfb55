use Rattle.std.proofs.Common.{List, ◌+◌, drop, length, ap, ◌∙◌, arith}
use Rattle.tl_scope.specs.Scope.{Source, scope_of, source_of}
use Rattle.tl_scope.proofs.Scopes.{scope_longer, scope_next, scope_there}
use Rattle.tl_bind.specs.Place.{columns_in}
use Rattle.tl_bind.specs.Values.{JoinHasValues}
use Rattle.tl_bind.proofs.Lists.{all_next, joins_next}
use Rattle.tl_bind.proofs.Places.{front_is_fewer}
use Rattle.tl_bind.proofs.select.joins_of.Goals as goal

pub join_of-requires-clause-columns : goal.join_of-requires-clause-columns
join_of-requires-clause-columns c =
    let l = c.loop-item in
    let catalog = c.args.catalog.now in
    let from = c.args.from.now in
    let now = c.push_item.new.scope in
    let whole = scope_next catalog from l.scope now l.item-index c.item-item.result c.loop-item-test.true c.item-item.is c.in_ok-push_item.ensures l.invariant.scope in
    omega (arith, front_is_fewer now (scope_of catalog (drop (l.item-index + 1) from)), ap (λ (s : List Source). length (columns_in s)) whole, c.requires.columns)

pub loop-item-preserved : goal.loop-item-preserved
loop-item-preserved c =
    let l = c.loop-item in
    let i = l.item-index in
    let catalog = c.args.catalog.now in
    let from = c.args.from.now in
    let item = c.item-item.result in
    let now = c.push_item.new.scope in
    let was = c.in_ok-push_item.ensures in
    let whole = scope_next catalog from l.scope now i item c.loop-item-test.true c.item-item.is was l.invariant.scope in
    let longer = scope_longer l.scope now (source_of catalog item) i was l.invariant.length in
    let there = scope_there now (scope_of catalog (drop (i + 1) from)) (scope_of catalog from) (i + 1) longer whole in
    record {
      scope = whole;
      length = longer;
      joins = joins_next catalog (scope_of catalog from) now from l.joins c.push.new.self i item c.in_ok-join_of.field-0 c.loop-item-test.true c.item-item.is there c.in_ok-join_of.ensures.same c.in_ok-push.ensures.ok ∙ l.invariant.joins;
      values = all_next JoinHasValues from i item c.loop-item-test.true c.item-item.is l.invariant.values c.in_ok-join_of.ensures.values;
    }
