-- Key bytes lie within the bounds of each test that their first value meets.
use Rattle.std.proofs.Common.{◌≡◌, ℕ, Bool, true, false, not, ◌&&◌, if◌then◌else◌, List, [], ◌∷◌, ◌++◌, fold, Ordering, Less, Equal, Greater, refl, sym, ap, ◌∙◌, append-nil}
use Rattle.std.specs.Cmp.Lexicographic.{slice_cmp}
use Rattle.std.specs.List.{AllByRecursion}
use Rattle.std.specs.Ordering.{is_eq, is_lt, is_le, is_gt, is_ge, nat_cmp, ordering_then}
use Rattle.tl_values.specs.declared.value.Comparison.{Comparison}
use Rattle.tl_values.specs.declared.value.Comparison.TheVariants as by
use Rattle.tl_values.specs.declared.value.Value.{Value}
use Rattle.tl_values.specs.declared.value.Value.TheVariants as value
use Rattle.tl_values.specs.Key.{IsValue, key_bytes, value_key}
use Rattle.tl_values.specs.Value.{is_null, value_cmp}
use Rattle.tl_values.proofs.KeyOrder.{values_first}
use Rattle.tl_schema.specs.declared.access.Access.TheVariants as access
use Rattle.tl_plan.specs.Access.{ColumnTest, covers, greater_of, high_bound, high_of, is_below, lesser_of, low_bound, low_of}
use Rattle.tl_plan.proofs.Tests.{Meets}

-- ---- the kind of a value that isn't NULL is 1, 2 or 3

from_kinds : (v : Value) (r : List ℕ) → is_null v ≡ false → is_below (value_key v ++ r) (1 ∷ []) ≡ false
from_kinds value.Null r e = absurd cc
from_kinds (value.Bool b) r e = refl
from_kinds (value.Int n) r e = refl
from_kinds (value.Text t) r e = refl

below_kinds : (v : Value) (r : List ℕ) → is_below (value_key v ++ r) (4 ∷ []) ≡ true
below_kinds value.Null r = refl
below_kinds (value.Bool b) r = refl
below_kinds (value.Int n) r = refl
below_kinds (value.Text t) r = refl

-- ---- what follows a value's bytes in a key is none or begins with a kind

some_behind : (r : List ℕ) → is_lt (slice_cmp nat_cmp r []) ≡ false
some_behind [] = refl
some_behind (b ∷ r) = refl

below_255 : (xs : List Value) → slice_cmp nat_cmp (key_bytes xs) (255 ∷ []) ≡ Less
below_255 [] = refl
below_255 (value.Null ∷ xs) = refl
below_255 (value.Bool b ∷ xs) = refl
below_255 (value.Int n ∷ xs) = refl
below_255 (value.Text t ∷ xs) = refl

-- ---- a key that begins with one value against another value's bytes, and against these with FF behind

module _ (v w : Value) (xs : List Value) (f : IsValue v) (g : IsValue w) where
  abbrev key : List ℕ
  key = value_key v ++ key_bytes xs

  against : slice_cmp nat_cmp key (value_key w) ≡ ordering_then (value_cmp v w) (slice_cmp nat_cmp (key_bytes xs) [])
  against = ap (slice_cmp nat_cmp key) (sym (append-nil (value_key w))) ∙ values_first v w (key_bytes xs) [] f g

  against_last : slice_cmp nat_cmp key (value_key w ++ 255 ∷ []) ≡ ordering_then (value_cmp v w) Less
  against_last = values_first v w (key_bytes xs) (255 ∷ []) f g ∙ ap (ordering_then (value_cmp v w)) (below_255 xs)

  from : is_ge (value_cmp v w) ≡ true → is_below key (value_key w) ≡ false
  from e = ap is_lt against ∙ at (value_cmp v w) e
    where
      at : (o : Ordering) → is_ge o ≡ true → is_lt (ordering_then o (slice_cmp nat_cmp (key_bytes xs) [])) ≡ false
      at Less e = absurd cc
      at Equal e = some_behind (key_bytes xs)
      at Greater e = refl

  below : is_lt (value_cmp v w) ≡ true → is_below key (value_key w) ≡ true
  below e = ap is_lt against ∙ at (value_cmp v w) e
    where
      at : (o : Ordering) → is_lt o ≡ true → is_lt (ordering_then o (slice_cmp nat_cmp (key_bytes xs) [])) ≡ true
      at Less e = refl
      at Equal e = absurd cc
      at Greater e = absurd cc

  above : is_gt (value_cmp v w) ≡ true → is_below key (value_key w ++ 255 ∷ []) ≡ false
  above e = ap is_lt against_last ∙ at (value_cmp v w) e
    where
      at : (o : Ordering) → is_gt o ≡ true → is_lt (ordering_then o Less) ≡ false
      at Less e = absurd cc
      at Equal e = absurd cc
      at Greater e = refl

  to : is_le (value_cmp v w) ≡ true → is_below key (value_key w ++ 255 ∷ []) ≡ true
  to e = ap is_lt against_last ∙ at (value_cmp v w) e
    where
      at : (o : Ordering) → is_le o ≡ true → is_lt (ordering_then o Less) ≡ true
      at Less e = refl
      at Equal e = refl
      at Greater e = absurd cc

eq_ge : (o : Ordering) → is_eq o ≡ true → is_ge o ≡ true
eq_ge Less e = absurd cc
eq_ge Equal e = refl
eq_ge Greater e = absurd cc

eq_le : (o : Ordering) → is_eq o ≡ true → is_le o ≡ true
eq_le Less e = absurd cc
eq_le Equal e = refl
eq_le Greater e = absurd cc

-- ---- the bounds of one test

low_of_one : (v : Value) (c : Comparison) (w : Value) (xs : List Value) → IsValue v → IsValue w → Meets v (record { by = c; value = w }) →
    is_below (value_key v ++ key_bytes xs) (low_of (record { by = c; value = w })) ≡ false
low_of_one v by.Equal w xs f g m = from v w xs f g (eq_ge (value_cmp v w) m.compares)
low_of_one v by.NotEqual w xs f g m = from_kinds v (key_bytes xs) m.here
low_of_one v by.Less w xs f g m = from_kinds v (key_bytes xs) m.here
low_of_one v by.LessEqual w xs f g m = from_kinds v (key_bytes xs) m.here
low_of_one v by.Greater w xs f g m = above v w xs f g m.compares
low_of_one v by.GreaterEqual w xs f g m = from v w xs f g m.compares

high_of_one : (v : Value) (c : Comparison) (w : Value) (xs : List Value) → IsValue v → IsValue w → Meets v (record { by = c; value = w }) →
    is_below (value_key v ++ key_bytes xs) (high_of (record { by = c; value = w })) ≡ true
high_of_one v by.Equal w xs f g m = to v w xs f g (eq_le (value_cmp v w) m.compares)
high_of_one v by.NotEqual w xs f g m = below_kinds v (key_bytes xs)
high_of_one v by.Less w xs f g m = below v w xs f g m.compares
high_of_one v by.LessEqual w xs f g m = to v w xs f g m.compares
high_of_one v by.Greater w xs f g m = below_kinds v (key_bytes xs)
high_of_one v by.GreaterEqual w xs f g m = below_kinds v (key_bytes xs)

-- ---- and of several

either_one : (b : Bool) (p : List ℕ → Bool) (x y : List ℕ) (r : Bool) → p x ≡ r → p y ≡ r → p (if b then y else x) ≡ r
either_one true p x y r e f = f
either_one false p x y r e f = e

module _ (v : Value) (xs : List Value) (f : IsValue v) where
  abbrev bytes : List ℕ
  bytes = value_key v ++ key_bytes xs

  low_of_all : (tests : List ColumnTest) (low : List ℕ) → AllByRecursion (λ (t : ColumnTest). IsValue t.value) tests → AllByRecursion (Meets v) tests →
      is_below bytes low ≡ false → is_below bytes (fold (λ low t. greater_of low (low_of t)) low tests) ≡ false
  low_of_all [] low g m e = e
  low_of_all (t ∷ tests) low g m e =
      low_of_all tests (greater_of low (low_of t)) g.1 m.1
      (either_one (is_below low (low_of t)) (is_below bytes) low (low_of t) false e (low_of_one v t.by t.value xs f g.0 m.0))

  high_of_all : (tests : List ColumnTest) (high : List ℕ) → AllByRecursion (λ (t : ColumnTest). IsValue t.value) tests → AllByRecursion (Meets v) tests →
      is_below bytes high ≡ true → is_below bytes (fold (λ high t. lesser_of high (high_of t)) high tests) ≡ true
  high_of_all [] high g m e = e
  high_of_all (t ∷ tests) high g m e =
      high_of_all tests (lesser_of high (high_of t)) g.1 m.1
      (either_one (is_below (high_of t) high) (is_below bytes) high (high_of t) true e (high_of_one v t.by t.value xs f g.0 m.0))

first_here : (tests : List ColumnTest) (t : ColumnTest) (v : Value) → AllByRecursion (Meets v) (t ∷ tests) → is_null v ≡ false
first_here tests t v m = m.0.here

between : (low high : Bool) → low ≡ false → high ≡ true → (not low && high) ≡ true
between low high e f = rw (e, f) refl

-- a key whose first value meets these tests lies between their bounds
pub within : (v : Value) (xs row : List Value) (t : ColumnTest) (tests : List ColumnTest) → IsValue v → AllByRecursion (λ (u : ColumnTest). IsValue u.value) (t ∷ tests) → AllByRecursion (Meets v) (t ∷ tests) →
    covers (access.KeyRange (low_bound (t ∷ tests)) (high_bound (t ∷ tests))) (value_key v ++ key_bytes xs) row ≡ true
within v xs row t tests f g m =
    between _ _
    (low_of_all v xs f (t ∷ tests) (1 ∷ []) g m (from_kinds v (key_bytes xs) (first_here tests t v m)))
    (high_of_all v xs f (t ∷ tests) (4 ∷ []) g m (below_kinds v (key_bytes xs)))
