-- Which values a column takes, and which expressions and conditions are of the columns that they name.
use Rattle.std.specs.Prelude.{ℕ, zero, suc, Bool, true, false, ◌&&◌, List, [], ◌∷◌, Option, Some, None}
use Rattle.std.specs.List.{list_all, list_any}
use Rattle.std.specs.Str.{is_utf8}
use Rattle.tl_values.specs.declared.value.Kind.{Kind}
use Rattle.tl_values.specs.declared.value.Kind.TheVariants as kind
use Rattle.tl_values.specs.declared.value.Value.{Value}
use Rattle.tl_values.specs.declared.value.Value.TheVariants as value
use Rattle.tl_schema.specs.declared.catalog.Column.{Column}
use Rattle.tl_algebra.specs.declared.condition.Condition.{Condition}
use Rattle.tl_algebra.specs.declared.condition.Condition.TheOpen.{Condition-F}
use Rattle.tl_algebra.specs.declared.condition.Condition.TheOpen as part
use Rattle.tl_algebra.specs.declared.condition.Condition.TheFolds.{fold-Condition}
use Rattle.tl_algebra.specs.declared.condition.Side.{Side}
use Rattle.tl_algebra.specs.declared.condition.Side.TheVariants as side
use Rattle.tl_algebra.specs.declared.expression.Expression.{Expression}
use Rattle.tl_algebra.specs.declared.expression.Expression.TheOpen.{Expression-F}
use Rattle.tl_algebra.specs.declared.expression.Expression.TheOpen as layer
use Rattle.tl_algebra.specs.declared.expression.Expression.TheFolds.{fold-Expression}
use Rattle.tl_algebra.specs.declared.expression.Step.{Step}
use Rattle.tl_algebra.specs.Value.{fits}

-- a value is of its own kind, and NULL of every kind
abbrev pub is_of_kind : Kind → Value → Bool
is_of_kind k value.Null = true
is_of_kind kind.Int (value.Int n) = true
is_of_kind kind.Text (value.Text t) = true
is_of_kind kind.Bool (value.Bool b) = true
is_of_kind k v = false

-- one value for each column, NULL or of its kind
abbrev pub are_of_kinds : List Column → List Value → Bool
are_of_kinds [] [] = true
are_of_kinds (column ∷ columns) (v ∷ vs) = is_of_kind column.kind v && are_of_kinds columns vs
are_of_kinds columns vs = false

-- a value as programs have them: a number has 64 bits, a text is UTF-8
abbrev pub is_value : Value → Bool
is_value value.Null = true
is_value (value.Bool b) = true
is_value (value.Int n) = fits n
is_value (value.Text t) = is_utf8 t

abbrev pub same_kind : Kind → Kind → Bool
same_kind kind.Int kind.Int = true
same_kind kind.Text kind.Text = true
same_kind kind.Bool kind.Bool = true
same_kind a b = false

-- there is a column at this place, of a kind that passes
abbrev pub has_column : (Kind → Bool) → List Column → ℕ → Bool
has_column passes [] place = false
has_column passes (column ∷ columns) zero = passes column.kind
has_column passes (column ∷ columns) (suc place) = has_column passes columns place

-- a column, a literal, or arithmetic of one step or more, which takes numbers and gives one
abbrev pub kind_layer : List Column → Expression-F (Kind → Bool) → Kind → Bool
kind_layer columns (layer.Place at) k = has_column (same_kind k) columns at
kind_layer columns (layer.Literal v) k = is_of_kind k v && is_value v
kind_layer columns (layer.Chain first []) k = false
kind_layer columns (layer.Chain first (step ∷ steps)) k =
    same_kind k kind.Int && (first kind.Int && list_all (λ (s : Step (Kind → Bool)). s.of kind.Int) (step ∷ steps))

-- whether the expression over these columns is of this kind
unfoldable pub gives_kind : List Column → Expression → Kind → Bool
gives_kind columns expression = fold-Expression (Kind → Bool) (kind_layer columns) expression

-- a side of a comparison: a column of this kind, or a literal of it
abbrev pub side_gives : List Column → Side → Kind → Bool
side_gives columns (side.Place at) k = has_column (same_kind k) columns at
side_gives columns (side.Literal v) k = is_of_kind k v && is_value v

abbrev pub every_kind : List Kind
every_kind = kind.Int ∷ kind.Text ∷ kind.Bool ∷ []

-- both sides are of one kind
abbrev pub are_alike : List Column → Side → Side → Bool
are_alike columns left right = list_any (λ k. side_gives columns left k && side_gives columns right k) every_kind

-- a condition, by whether its parts fit
abbrev pub condition_layer : List Column → Condition-F Bool → Bool
condition_layer columns (part.Test left by right) = are_alike columns left right
condition_layer columns (part.IsNull of negated) = are_alike columns of of
condition_layer columns (part.Not fits) = fits
condition_layer columns (part.And each) = list_all (λ fits. fits) each
condition_layer columns (part.Or each) = list_all (λ fits. fits) each

-- whether a condition over these columns compares only what is of one kind
unfoldable pub compares_alike : List Column → Condition → Bool
compares_alike columns condition = fold-Condition Bool (condition_layer columns) condition

-- an ON or a WHERE, where it is written, does
abbrev pub condition_fits : List Column → Option Condition → Bool
condition_fits columns None = true
condition_fits columns (Some condition) = compares_alike columns condition
