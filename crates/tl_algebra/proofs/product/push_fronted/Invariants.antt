use Rattle.std.proofs.Common.{◌≡◌, ◌++◌, List, drop, map}
use Rattle.tl_values.specs.declared.value.Value.{Value}
use Rattle.tl_algebra.proofs.product.push_fronted.Given as goal

abbrev pub invariant-loop-back : goal.invariant-loop-back
invariant-loop-back l =
    l.rows ++ map (λ (back : List Value). l.front ++ back) (drop l.back-index l.back-items) ≡ l.fn.rows ++ map (λ (back : List Value). l.front ++ back) l.backs
