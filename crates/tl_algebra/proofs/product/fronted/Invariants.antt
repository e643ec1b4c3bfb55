use Rattle.std.proofs.Common.{◌≡◌, ◌++◌, List, drop, map}
use Rattle.std.specs.List.{flat_map}
use Rattle.tl_values.specs.declared.value.Value.{Value}
use Rattle.tl_algebra.proofs.product.fronted.Given as goal

abbrev pub invariant-loop-front : goal.invariant-loop-front
invariant-loop-front l =
    l.rows ++ flat_map (λ (front : List Value). map (λ (back : List Value). front ++ back) l.backs) (drop l.front-index l.front-items)
    ≡ flat_map (λ (front : List Value). map (λ (back : List Value). front ++ back) l.backs) l.fronts
