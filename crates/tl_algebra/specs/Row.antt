-- The values of a row.
use Rattle.std.specs.Prelude.{List, Option, Some, None}
use Rattle.tl_values.specs.declared.value.Value.{Value}
use Rattle.tl_values.specs.declared.value.Value.TheVariants as value
use Rattle.tl_values.specs.Value.{value_at}
use Rattle.tl_algebra.specs.declared.condition.Side.{Side}
use Rattle.tl_algebra.specs.declared.condition.Side.TheVariants as side

abbrev pub side_value : List Value → Side → Value
side_value row (side.Place at) = value_at row at
side_value row (side.Literal literal) = literal

-- NULL where nothing was found
abbrev pub or_null : Option Value → Value
or_null None = value.Null
or_null (Some found) = found
