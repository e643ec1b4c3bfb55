-- The order of values is total, and values that are equal in it are one.
use Rattle.std.proofs.Common.{◌≡◌, ℕ, Bool, true, false, ℤ, pos, Ordering, Less, Equal, Greater, List, [], refl, ap, subst}
use Rattle.std.proofs.lemmas.Cmp.{nat_cmp_total, int_cmp_total, nat_list_cmp_total, lists_total, on_total, then_total, tied_itself}
use Rattle.std.specs.Cmp.{IsTotalOrder, bool_cmp_total}
use Rattle.std.specs.Cmp.Lexicographic.{slice_cmp}
use Rattle.std.specs.FinMap.{IsAntisymmetric, int_cmp-IsAntisymmetric, slice_cmp-IsAntisymmetric, nat_cmp-IsAntisymmetric}
use Rattle.std.specs.Ordering.{nat_cmp, int_cmp, bool_cmp, on, then_cmp}
use Rattle.tl_values.specs.declared.value.Value.{Value}
use Rattle.tl_values.specs.declared.value.Value.TheVariants as value
use Rattle.tl_values.specs.Value.{rank, value_cmp, row_cmp}

abbrev flag : Value → Bool
flag value.Null = false
flag (value.Bool b) = b
flag (value.Int n) = false
flag (value.Text t) = false

abbrev number : Value → ℤ
number value.Null = pos 0
number (value.Bool b) = pos 0
number (value.Int n) = n
number (value.Text t) = pos 0

abbrev text : Value → List ℕ
text value.Null = []
text (value.Bool b) = []
text (value.Int n) = []
text (value.Text t) = t

-- by kind, and then by what the kind has
abbrev by_parts : Value → Value → Ordering
by_parts = then_cmp (on rank nat_cmp) (then_cmp (on flag bool_cmp) (then_cmp (on number int_cmp) (on text (slice_cmp nat_cmp))))

by_parts_total : IsTotalOrder by_parts
by_parts_total =
    then_total (on_total rank nat_cmp_total) (then_total (on_total flag bool_cmp_total) (then_total (on_total number int_cmp_total) (on_total text nat_list_cmp_total)))

numbers_tie : (n : ℤ) → int_cmp n n ≡ Equal
numbers_tie = tied_itself int_cmp_total

then_nothing : (o : Ordering) → then_cmp {K = ℕ} (λ x y. o) (λ x y. Equal) 0 0 ≡ o
then_nothing Less = refl
then_nothing Equal = refl
then_nothing Greater = refl

parts_are : (x y : Value) → by_parts x y ≡ value_cmp x y
parts_are value.Null value.Null = refl
parts_are value.Null (value.Bool b) = refl
parts_are value.Null (value.Int n) = refl
parts_are value.Null (value.Text t) = refl
parts_are (value.Bool a) value.Null = refl
parts_are (value.Bool false) (value.Bool false) = refl
parts_are (value.Bool false) (value.Bool true) = refl
parts_are (value.Bool true) (value.Bool false) = refl
parts_are (value.Bool true) (value.Bool true) = refl
parts_are (value.Bool a) (value.Int n) = refl
parts_are (value.Bool a) (value.Text t) = refl
parts_are (value.Int m) value.Null = refl
parts_are (value.Int m) (value.Bool b) = refl
parts_are (value.Int m) (value.Int n) = then_nothing (int_cmp m n)
parts_are (value.Int m) (value.Text t) = refl
parts_are (value.Text t) value.Null = refl
parts_are (value.Text t) (value.Bool b) = refl
parts_are (value.Text t) (value.Int n) = refl
parts_are (value.Text t) (value.Text u) = refl

pub value_total : IsTotalOrder value_cmp
value_total = subst (λ (R : Value → Value → Ordering). IsTotalOrder R) (λ i x y. parts_are x y i) by_parts_total

pub row_total : IsTotalOrder row_cmp
row_total = lists_total value_total

pub value_exact : IsAntisymmetric value_cmp
value_exact value.Null value.Null e = refl
value_exact value.Null (value.Bool b) e = absurd cc
value_exact value.Null (value.Int n) e = absurd cc
value_exact value.Null (value.Text t) e = absurd cc
value_exact (value.Bool a) value.Null e = absurd cc
value_exact (value.Bool false) (value.Bool false) e = refl
value_exact (value.Bool false) (value.Bool true) e = absurd cc
value_exact (value.Bool true) (value.Bool false) e = absurd cc
value_exact (value.Bool true) (value.Bool true) e = refl
value_exact (value.Bool a) (value.Int n) e = absurd cc
value_exact (value.Bool a) (value.Text t) e = absurd cc
value_exact (value.Int m) value.Null e = absurd cc
value_exact (value.Int m) (value.Bool b) e = absurd cc
value_exact (value.Int m) (value.Int n) e = ap value.Int (int_cmp-IsAntisymmetric m n e)
value_exact (value.Int m) (value.Text t) e = absurd cc
value_exact (value.Text t) value.Null e = absurd cc
value_exact (value.Text t) (value.Bool b) e = absurd cc
value_exact (value.Text t) (value.Int n) e = absurd cc
value_exact (value.Text t) (value.Text u) e = ap value.Text (slice_cmp-IsAntisymmetric nat_cmp-IsAntisymmetric t u e)

pub row_exact : IsAntisymmetric row_cmp
row_exact = slice_cmp-IsAntisymmetric value_exact

pub value_same : (x : Value) → value_cmp x x ≡ Equal
value_same = tied_itself value_total

pub row_same : (xs : List Value) → row_cmp xs xs ≡ Equal
row_same = tied_itself row_total
