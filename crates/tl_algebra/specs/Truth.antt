-- What a condition comes to on a row, in Kleene's logic.
use Rattle.std.specs.Prelude.{Bool, true, false, not, List, [], ◌∷◌, Option, Some, None, if◌then◌else◌}
use Rattle.tl_values.specs.declared.value.Value.{Value}
use Rattle.tl_values.specs.declared.value.Truth.{Truth}
use Rattle.tl_values.specs.declared.value.Truth.TheVariants.{False, Unknown, True}
use Rattle.tl_values.specs.Value.{compared, is_null, known}
use Rattle.tl_algebra.specs.declared.condition.Condition.{Condition}
use Rattle.tl_algebra.specs.declared.condition.Condition.TheOpen.{Condition-F}
use Rattle.tl_algebra.specs.declared.condition.Condition.TheOpen as layer
use Rattle.tl_algebra.specs.declared.condition.Condition.TheFolds.{fold-Condition}
use Rattle.tl_algebra.specs.Row.{side_value}

-- NOT
abbrev pub turned : Truth → Truth
turned False = True
turned Unknown = Unknown
turned True = False

-- AND of two
abbrev pub lesser : Truth → Truth → Truth
lesser False t = False
lesser Unknown False = False
lesser Unknown Unknown = Unknown
lesser Unknown True = Unknown
lesser True t = t

-- OR of two
abbrev pub greater : Truth → Truth → Truth
greater False t = t
greater Unknown False = Unknown
greater Unknown Unknown = Unknown
greater Unknown True = True
greater True t = True

-- AND
abbrev pub least : List Truth → Truth
least [] = True
least (t ∷ ts) = lesser t (least ts)

-- OR
abbrev pub greatest : List Truth → Truth
greatest [] = False
greatest (t ∷ ts) = greater t (greatest ts)

-- IS NULL, and IS NOT NULL where it is negated
abbrev pub null_test : Bool → Value → Truth
null_test negated v = known (if negated then not (is_null v) else is_null v)

-- a condition whose parts have come to these truths
abbrev pub truth_layer : List Value → Condition-F Truth → Truth
truth_layer row (layer.Test left by right) = compared (side_value row left) by (side_value row right)
truth_layer row (layer.IsNull of negated) = null_test negated (side_value row of)
truth_layer row (layer.Not t) = turned t
truth_layer row (layer.And ts) = least ts
truth_layer row (layer.Or ts) = greatest ts

unfoldable pub truth_of : Condition → List Value → Truth
truth_of condition row = fold-Condition Truth (truth_layer row) condition

abbrev pub is_true : Truth → Bool
is_true False = false
is_true Unknown = false
is_true True = true

-- whether an ON or a WHERE is true of the row: one that isn't written is
abbrev pub lets_through : Option Condition → List Value → Bool
lets_through None row = true
lets_through (Some condition) row = is_true (truth_of condition row)
