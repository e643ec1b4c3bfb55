-- ORDER BY and LIMIT.
use Rattle.std.specs.Prelude.{ℕ, Bool, List, [], ◌∷◌, drop, take, Option, Some, None, if◌then◌else◌}
use Rattle.std.specs.declared.cmp.Ordering.{Ordering}
use Rattle.std.specs.declared.cmp.Ordering.TheVariants.{Equal}
use Rattle.std.specs.Ordering.{ordering_reverse, ordering_then}
use Rattle.tl_values.specs.declared.value.Value.{Value}
use Rattle.tl_values.specs.Value.{row_cmp, value_at, value_cmp}
use Rattle.tl_algebra.specs.declared.line.Line.{Line}
use Rattle.tl_algebra.specs.declared.query.Sort.{Sort}
use Rattle.tl_algebra.specs.declared.query.SortBy.{SortBy}
use Rattle.tl_algebra.specs.declared.query.SortBy.TheVariants as by

-- what an ORDER BY item sorts a line by
abbrev pub key_of : List Value → List Value → SortBy → Value
key_of first printed (by.Place at) = value_at first at
key_of first printed (by.Printed column) = value_at printed column

-- DESC turns an order round
abbrev pub turned : Bool → Ordering → Ordering
turned descending o = if descending then ordering_reverse o else o

-- by the ORDER BY items, each for itself
abbrev pub keys_cmp : List Sort → List Value → List Value → Ordering
keys_cmp [] a b = Equal
keys_cmp (sort ∷ sorts) a b = ordering_then (turned sort.descending (value_cmp (value_at a 0) (value_at b 0))) (keys_cmp sorts (drop 1 a) (drop 1 b))

-- and then by the printed columns from the left
abbrev pub line_cmp : List Sort → Line → Line → Ordering
line_cmp sorts a b = ordering_then (keys_cmp sorts a.keys b.keys) (row_cmp a.printed b.printed)

-- the first rows, as many as LIMIT says
abbrev pub limited : {A : Type 0} → Option ℕ → List A → List A
limited None xs = xs
limited (Some limit) xs = take limit xs
