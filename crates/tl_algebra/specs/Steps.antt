-- What the code does, one row or one step at a time. The meaning of a query doesn't rest on it.
use Rattle.std.specs.Prelude.{ℕ, ℤ, pos, List, [], ◌∷◌, ◌++◌, Option, None, Some, unwrap_or, if◌then◌else◌}
use Rattle.tl_values.specs.declared.value.Value.{Value}
use Rattle.tl_values.specs.Value.{is_null, values_at}
use Rattle.tl_algebra.specs.declared.expression.Expression.{Expression}
use Rattle.tl_algebra.specs.declared.expression.Step.{Step}
use Rattle.tl_algebra.specs.declared.group.Group.{Group}
use Rattle.tl_algebra.specs.Aggregate.{number_of}
use Rattle.tl_algebra.specs.Group.{same_row}
use Rattle.tl_algebra.specs.Value.{value_of}

-- a step, with the value of what stands behind its sign
abbrev pub step_value : List Value → Step Expression → Step (Option Value)
step_value row step = record { by = step.by; of = value_of step.of row }

abbrev pub number_or_zero : Value → ℤ
number_or_zero v = unwrap_or (number_of v) (pos 0)

-- one of two, where the first may be none
abbrev pub one_by : (Value → Value → Value) → Option Value → Value → Value
one_by choose None b = b
one_by choose (Some a) b = choose a b

-- the same, where NULL counts as none
abbrev pub known_by : (Value → Value → Value) → Option Value → Value → Option Value
known_by choose a b = if is_null b then a else Some (one_by choose a b)

-- the groups with one more row, in the first group of its values or else a new one
abbrev pub added : List ℕ → List Value → List Group → List Group
added places row [] = record { values = values_at places row; rows = row ∷ [] } ∷ []
added places row (group ∷ groups) = if same_row group.values (values_at places row) then record group { rows = group.rows ++ row ∷ [] } ∷ groups else group ∷ added places row groups
