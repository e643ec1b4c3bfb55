use Rattle.std.proofs.Common.{◌∙◌, ◌+◌, ◌++◌, List, ap, drop, map}
use Rattle.std.specs.List.{flat_map}
use Rattle.tl_values.specs.declared.value.Value.{Value}
use Rattle.tl_algebra.proofs.LinesOn.{flat_next}
use Rattle.tl_algebra.proofs.product.fronted.Goals as goal

pub loop-front-preserved : goal.loop-front-preserved
loop-front-preserved c =
    let f = λ (front : List Value). map (λ (back : List Value). front ++ back) c.args.backs.now in
    let items = c.as_slice-front-items.result.now in
    ap (λ (rows : List (List Value)). rows ++ flat_map f (drop (c.loop-front.front-index + 1) items)) c.in_ok-push_fronted.ensures
    ∙ flat_next f c.loop-front.rows items c.loop-front.front-index c.front-item.result c.loop-front-test.true c.front-item.is
    ∙ c.loop-front.invariant
