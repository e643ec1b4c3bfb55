use Rattle.std.proofs.Common.{◌≡◌, ◌+◌, ◌-◌, ◌==◌, false, drop, length, arith, ◌∙◌, ap}
use Rattle.tl_bind.specs.Place.{place_at}
use Rattle.tl_bind.proofs.Places.{place_least, place_next}
use Rattle.tl_bind.proofs.place.place_at.Goals as goal

pub loop-source-preserved : goal.loop-source-preserved
loop-source-preserved c =
    let l = c.loop-source in
    let ne : (l.before == 0) ≡ false = grind (arith, c.if-before-eq0.false) in
    ap (λ n. place_at (l.place + n) (drop (l.source-index + 1) c.args.sources.now) (l.before - 1)) (ap length c.columns.ensures)
    ∙ place_next l.place c.args.sources.now l.source-index l.before c.source-item.result c.loop-source-test.true c.source-item.is ne
    ∙ l.invariant

pub overflow_add-place : goal.overflow_add-place
overflow_add-place c =
    let l = c.loop-source in
    let ne : (l.before == 0) ≡ false = grind (arith, c.if-before-eq0.false) in
    let n = length c.source-item.result.columns in
    let whole = place_next l.place c.args.sources.now l.source-index l.before c.source-item.result c.loop-source-test.true c.source-item.is ne ∙ l.invariant in
    let least = place_least (l.place + n) (drop (l.source-index + 1) c.args.sources.now) (l.before - 1) in
    omega (arith, whole, least, ap length c.columns.ensures, c.requires)
