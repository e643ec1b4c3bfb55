-- Conditions by places.
use Rattle.std.specs.Prelude.{List, [], ◌∷◌, ◌++◌, flat_map, Option, Some, None}
use Rattle.tl_values.specs.declared.value.Value.{Value}
use Rattle.tl_algebra.specs.declared.condition.Condition.{Condition}
use Rattle.tl_algebra.specs.declared.condition.Condition.TheVariants as bound
use Rattle.tl_algebra.specs.declared.condition.Side.{Side}
use Rattle.tl_algebra.specs.declared.condition.Side.TheVariants as side
use Rattle.tl_grammar.specs.declared.condition.Cond.{Cond}
use Rattle.tl_grammar.specs.declared.condition.Cond.TheOpen.{Cond-F}
use Rattle.tl_grammar.specs.declared.condition.Cond.TheOpen as layer
use Rattle.tl_grammar.specs.declared.condition.Cond.TheFolds.{fold-Cond}
use Rattle.tl_grammar.specs.declared.operand.Operand.{Operand}
use Rattle.tl_grammar.specs.declared.operand.Operand.TheVariants as operand
use Rattle.tl_scope.specs.Scope.{Source}
use Rattle.tl_bind.specs.Place.{place_of}

abbrev pub side_of : List Source → Operand → Side
side_of scope (operand.Column c) = side.Place (place_of scope c)
side_of scope (operand.Literal l) = side.Literal l.value

abbrev pub bound_layer : List Source → Cond-F Condition → Condition
bound_layer scope (layer.Test a by b) = bound.Test (side_of scope a) by (side_of scope b)
bound_layer scope (layer.IsNull a negated) = bound.IsNull (side_of scope a) negated
bound_layer scope (layer.Not c) = bound.Not c
bound_layer scope (layer.All cs) = bound.And cs
bound_layer scope (layer.Any cs) = bound.Or cs

unfoldable pub bound_condition : List Source → Cond → Condition
bound_condition scope c = fold-Cond Condition (bound_layer scope) c

-- ON or WHERE, where it is written
abbrev pub bound_filter : List Source → Option Cond → Option Condition
bound_filter scope None = None
bound_filter scope (Some c) = Some (bound_condition scope c)

abbrev pub operand_values : Operand → List Value
operand_values (operand.Column c) = []
operand_values (operand.Literal l) = l.value ∷ []

abbrev pub values_layer : Cond-F (List Value) → List Value
values_layer (layer.Test a by b) = operand_values a ++ operand_values b
values_layer (layer.IsNull a negated) = operand_values a
values_layer (layer.Not vs) = vs
values_layer (layer.All vss) = flat_map (λ vs. vs) vss
values_layer (layer.Any vss) = flat_map (λ vs. vs) vss

-- the literals of a condition
unfoldable pub values_in : Cond → List Value
values_in c = fold-Cond (List Value) values_layer c

abbrev pub filter_values : Option Cond → List Value
filter_values None = []
filter_values (Some c) = values_in c
