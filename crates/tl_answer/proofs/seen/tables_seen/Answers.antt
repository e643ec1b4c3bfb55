use Rattle.std.proofs.Common.{map, sym, ◌∙◌}
use Rattle.std.specs.Vec.Iter.{into_iter_items}
use Rattle.tl_algebra.specs.declared.query.Join.{Join}
use Rattle.tl_journal.specs.Takes.{tables_seen}
use Rattle.tl_answer.proofs.Views.{all_seen}
use Rattle.tl_answer.proofs.seen.tables_seen.Goals as goal

pub returns : goal.returns
returns c =
    all_seen c.args.catalog.now (map (λ (join : Join). join.table) c.loop-found.left.now) c.args.own.now c.loop-found.seen
    (tables_seen c.args.catalog.now (map (λ (join : Join). join.table) c.args.from.now) c.args.own.now c.args.rows)
    (into_iter_items c.loop-found.found-iterator) (sym c.loop-found.found-iterator.rest.ok.0 ∙ c.in-None.ensures.steps.0) c.loop-found.invariant.made
