-- The order of lines is total, and lines that are equal in it print the same row.
use Rattle.std.proofs.Common.{◌≡◌, ℕ, Bool, true, false, drop, List, [], ◌∷◌, Ordering, Less, Equal, Greater, refl, subst}
use Rattle.std.proofs.lemmas.Cmp.{on_total, then_total, back_total}
use Rattle.std.specs.Cmp.{IsTotalOrder}
use Rattle.std.specs.Ordering.{ordering_then}
use Rattle.tl_values.specs.declared.value.Value.{Value}
use Rattle.tl_values.specs.Value.{row_cmp, value_at, value_cmp}
use Rattle.tl_values.proofs.ValueOrder.{row_exact, row_total, value_total}
use Rattle.tl_algebra.specs.declared.line.Line.{Line}
use Rattle.tl_algebra.specs.declared.query.Sort.{Sort}
use Rattle.tl_algebra.specs.Sorting.{keys_cmp, line_cmp, turned}

all_tied : {K : Type 0} → IsTotalOrder {K = K} (λ a b. Equal)
all_tied = record { antisymm = λ x y. refl; trans = λ x y z e f. absurd cc; congr = λ x y z e. refl }

turned_total : (descending : Bool) → IsTotalOrder (λ (a b : Value). turned descending (value_cmp a b))
turned_total false = value_total
turned_total true = subst (λ (R : Value → Value → Ordering). IsTotalOrder R) (λ i x y. value_total.antisymm y x i) (back_total value_total)

keys_total : (sorts : List Sort) → IsTotalOrder (keys_cmp sorts)
keys_total [] = all_tied
keys_total (sort ∷ sorts) =
    then_total (on_total (λ (keys : List Value). value_at keys 0) (turned_total sort.descending)) (on_total (λ (keys : List Value). drop 1 keys) (keys_total sorts))

pub line_total : (sorts : List Sort) → IsTotalOrder (line_cmp sorts)
line_total sorts = then_total (on_total (λ (line : Line). line.keys) (keys_total sorts)) (on_total (λ (line : Line). line.printed) row_total)

second_tie : (a b : Ordering) → ordering_then a b ≡ Equal → b ≡ Equal
second_tie Less b e = absurd cc
second_tie Equal b e = e
second_tie Greater b e = absurd cc

pub ties_print_the_same : (sorts : List Sort) (a b : Line) → line_cmp sorts a b ≡ Equal → a.printed ≡ b.printed
ties_print_the_same sorts a b e = row_exact a.printed b.printed (second_tie (keys_cmp sorts a.keys b.keys) (row_cmp a.printed b.printed) e)
