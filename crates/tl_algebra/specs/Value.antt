-- The value of an expression on a row: nothing where a step of arithmetic lies outside 64 bits.
use Rattle.std.specs.Prelude.{◌≡◌, ℕ, ◌^◌, ℤ, pos, negsuc, ◌+ℤ◌, ◌-ℤ◌, ◌*ℤ◌, Bool, List, [], ◌∷◌, Option, Some, None, Result, Ok, Err, nat_lt, if◌then◌else◌}
use Rattle.tl_values.specs.declared.value.Value.{Value}
use Rattle.tl_values.specs.declared.value.Value.TheVariants as value
use Rattle.tl_values.specs.Value.{value_at}
use Rattle.tl_algebra.specs.declared.expression.Expression.{Expression}
use Rattle.tl_algebra.specs.declared.expression.Expression.TheOpen.{Expression-F}
use Rattle.tl_algebra.specs.declared.expression.Expression.TheOpen as layer
use Rattle.tl_algebra.specs.declared.expression.Expression.TheFolds.{fold-Expression}
use Rattle.tl_algebra.specs.declared.expression.Operator.{Operator}
use Rattle.tl_algebra.specs.declared.expression.Operator.TheVariants as by
use Rattle.tl_algebra.specs.declared.expression.Step.{Step}
use Rattle.tl_algebra.specs.declared.fault.ValueFault.{ValueFault}
use Rattle.tl_algebra.specs.declared.fault.ValueFault.TheVariants as fault

abbrev pub fits : ℤ → Bool
fits (pos n) = nat_lt n (2 ^ 63)
fits (negsuc n) = nat_lt n (2 ^ 63)

-- the number, where 64 bits hold it
abbrev pub checked : ℤ → Option Value
checked n = if fits n then Some (value.Int n) else None

abbrev pub figure : Operator → ℤ → ℤ → ℤ
figure by.Add a b = a +ℤ b
figure by.Subtract a b = a -ℤ b
figure by.Multiply a b = a *ℤ b

-- with NULL it is NULL
abbrev pub calculated : Value → Operator → Value → Option Value
calculated (value.Int a) o (value.Int b) = checked (figure o a b)
calculated a o b = Some value.Null

-- one step, where both sides have values
abbrev pub stepped : Option Value → Operator → Option Value → Option Value
stepped None o b = None
stepped (Some a) o None = None
stepped (Some a) o (Some b) = calculated a o b

-- the steps one after the other, from the left
abbrev pub chained : Option Value → List (Step (Option Value)) → Option Value
chained a [] = a
chained a (step ∷ steps) = chained (stepped a step.by step.of) steps

-- an expression whose parts have these values
abbrev pub value_layer : List Value → Expression-F (Option Value) → Option Value
value_layer row (layer.Place at) = Some (value_at row at)
value_layer row (layer.Literal literal) = Some literal
value_layer row (layer.Chain first rest) = chained first rest

unfoldable pub value_of : Expression → List Value → Option Value
value_of expression row = fold-Expression (Option Value) (value_layer row) expression

-- Overflow where there is nothing; want of memory says nothing
abbrev pub Fails : {A : Type 0} → ValueFault → Option A → Type 0
Fails fault.Overflow found = found ≡ None
Fails fault.NoMemory found = Unit {0}

-- a call gave this, or failed where there is nothing
abbrev pub Gives : {A : Type 0} → Result A ValueFault → Option A → Type 0
Gives (Ok x) found = found ≡ Some x
Gives (Err e) found = Fails e found
