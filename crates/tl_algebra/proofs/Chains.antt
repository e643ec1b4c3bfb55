-- A chain from nothing on is nothing.
use Rattle.std.proofs.Common.{◌≡◌, Option, None, Some, List, [], ◌∷◌, map, refl, ap, ◌∙◌}
use Rattle.tl_values.specs.declared.value.Value.{Value}
use Rattle.tl_algebra.specs.declared.expression.Expression.{Expression, out-Expression}
use Rattle.tl_algebra.specs.declared.expression.Expression.TheOpen.{Expression-F}
use Rattle.tl_algebra.specs.declared.expression.Expression.TheVariants as expression
use Rattle.tl_algebra.specs.declared.expression.Expression.TheVariants.{outs-Chain}
use Rattle.tl_algebra.specs.declared.expression.Expression.TheFolds.{fold-Expression, fold_out-Expression, map-Expression}
use Rattle.tl_algebra.specs.declared.expression.Operator.{Operator}
use Rattle.tl_algebra.specs.declared.expression.Step.{Step}
use Rattle.tl_algebra.specs.declared.fault.ValueFault.{ValueFault}
use Rattle.tl_algebra.specs.declared.fault.ValueFault.TheVariants as fault
use Rattle.tl_algebra.specs.Value.{Fails, chained, stepped, value_layer, value_of}
use Rattle.tl_algebra.specs.Steps.{step_value}

pub chained_nothing : (steps : List (Step (Option Value))) → chained None steps ≡ None
chained_nothing [] = refl
chained_nothing (step ∷ steps) = chained_nothing steps

-- where a part fails, the chain fails
pub chained_fault : (e : ValueFault) (a : Option Value) (steps : List (Step (Option Value))) → Fails e a → Fails e (chained a steps)
chained_fault fault.Overflow None steps h = chained_nothing steps
chained_fault fault.Overflow (Some a) steps h = absurd cc
chained_fault fault.NoMemory a steps h = tt

pub stepped_fault : (e : ValueFault) (a : Value) (o : Operator) (b : Option Value) → Fails e b → Fails e (stepped (Some a) o b)
stepped_fault fault.Overflow a o None h = refl
stepped_fault fault.Overflow a o (Some b) h = absurd cc
stepped_fault fault.NoMemory a o b h = tt

pub value_of_chain : (x : Expression) (row : List Value) (first : Expression) (rest : List (Step Expression)) → x ≡ expression.Chain first rest →
    value_of x row ≡ chained (value_of first row) (map (step_value row) rest)
unfolding value_of
value_of_chain x row first rest e =
    fold_out-Expression (Option Value) (value_layer row) x
    ∙ ap (λ (l : Expression-F Expression). value_layer row (map-Expression Expression (Option Value) (fold-Expression (Option Value) (value_layer row)) l)) (ap out-Expression e ∙ outs-Chain first rest)
