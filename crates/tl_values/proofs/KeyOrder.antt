-- The order of key bytes is the order of the values.
use Rattle.std.proofs.Common.{◌≡◌, ℕ, zero, suc, ◌^◌, ◌<◌, true, false, ℤ, pos, negsuc, Less, Greater, List, [], ◌∷◌, ◌++◌, refl, sym, ap, ◌∙◌, arith}
use Rattle.std.proofs.lemmas.Cmp.{nat_list_cmp_total, tied_itself}
use Rattle.std.proofs.lemmas.Bool.Decides.{nat_tests}
use Rattle.std.specs.Cmp.Lexicographic.{slice_cmp}
use Rattle.std.specs.Int.{w64}
use Rattle.std.specs.Int.RustNames.{FitsSigned}
use Rattle.std.specs.Ordering.{ordering_then, nat_cmp, int_cmp}
use Rattle.tl_values.specs.declared.value.Value.{Value}
use Rattle.tl_values.specs.declared.value.Value.TheVariants as value
use Rattle.tl_values.specs.Value.{value_cmp, row_cmp}
use Rattle.tl_values.specs.Key.{from_least, text_key, value_key, key_bytes, IsValue, AreValues}
use Rattle.tl_values.proofs.ValueOrder.{row_exact}
use Rattle.tl_values.proofs.Digits.{then_assoc, nat_less, nat_greater, numbers_first}

from_least_fits : (n : ℤ) → FitsSigned w64 n → from_least n < 256 ^ 8
from_least_fits (pos n) fits = let h = fits.sfits in omega arith
from_least_fits (negsuc n) fits = let h = fits.sfits in omega arith

from_least_cmp : (m n : ℤ) → FitsSigned w64 m → FitsSigned w64 n → nat_cmp (from_least m) (from_least n) ≡ int_cmp m n
from_least_cmp (pos m) (pos n) f g = grind (arith, nat_tests)
from_least_cmp (pos m) (negsuc n) f g = let h = g.sfits in nat_greater (from_least (pos m)) (from_least (negsuc n)) (omega arith)
from_least_cmp (negsuc m) (pos n) f g = let h = f.sfits in nat_less (from_least (negsuc m)) (from_least (pos n)) (omega arith)
from_least_cmp (negsuc m) (negsuc n) f g = let h = f.sfits in let k = g.sfits in grind (arith, nat_tests)

-- two texts decide, and else what follows
texts_first : (x y r s : List ℕ) → slice_cmp nat_cmp (text_key x ++ r) (text_key y ++ s) ≡ ordering_then (slice_cmp nat_cmp x y) (slice_cmp nat_cmp r s)
texts_first [] [] r s = refl
texts_first [] (zero ∷ y) r s = refl
texts_first [] (suc b ∷ y) r s = ap (λ o. ordering_then o (slice_cmp nat_cmp (0 ∷ r) (text_key y ++ s))) (nat_less 0 (suc b) (omega arith))
texts_first (zero ∷ x) [] r s = refl
texts_first (suc a ∷ x) [] r s = ap (λ o. ordering_then o (slice_cmp nat_cmp (text_key x ++ r) (0 ∷ s))) (nat_greater (suc a) 0 (omega arith))
texts_first (zero ∷ x) (zero ∷ y) r s = texts_first x y r s
texts_first (zero ∷ x) (suc b ∷ y) r s =
    let less = nat_less 0 (suc b) (omega arith) in
    rw less refl
texts_first (suc a ∷ x) (zero ∷ y) r s =
    let greater = nat_greater (suc a) 0 (omega arith) in
    rw greater refl
texts_first (suc a ∷ x) (suc b ∷ y) r s =
    ap (ordering_then (nat_cmp (suc a) (suc b))) (texts_first x y r s)
    ∙ sym (then_assoc (nat_cmp (suc a) (suc b)) (slice_cmp nat_cmp x y) (slice_cmp nat_cmp r s))

-- two values decide, and else what follows
pub values_first : (x y : Value) (r s : List ℕ) → IsValue x → IsValue y → slice_cmp nat_cmp (value_key x ++ r) (value_key y ++ s) ≡ ordering_then (value_cmp x y) (slice_cmp nat_cmp r s)
values_first value.Null value.Null r s f g = refl
values_first value.Null (value.Bool b) r s f g = refl
values_first value.Null (value.Int n) r s f g = refl
values_first value.Null (value.Text t) r s f g = refl
values_first (value.Bool a) value.Null r s f g = refl
values_first (value.Bool false) (value.Bool false) r s f g = refl
values_first (value.Bool false) (value.Bool true) r s f g = refl
values_first (value.Bool true) (value.Bool false) r s f g = refl
values_first (value.Bool true) (value.Bool true) r s f g = refl
values_first (value.Bool a) (value.Int n) r s f g = refl
values_first (value.Bool a) (value.Text t) r s f g = refl
values_first (value.Int m) value.Null r s f g = refl
values_first (value.Int m) (value.Bool b) r s f g = refl
values_first (value.Int m) (value.Int n) r s f g =
    numbers_first 8 (from_least m) (from_least n) r s (from_least_fits m f) (from_least_fits n g)
    ∙ ap (λ o. ordering_then o (slice_cmp nat_cmp r s)) (from_least_cmp m n f g)
values_first (value.Int m) (value.Text t) r s f g = refl
values_first (value.Text t) value.Null r s f g = refl
values_first (value.Text t) (value.Bool b) r s f g = refl
values_first (value.Text t) (value.Int n) r s f g = refl
values_first (value.Text t) (value.Text u) r s f g = texts_first t u r s

some_first : (x : Value) (r : List ℕ) → slice_cmp nat_cmp [] (value_key x ++ r) ≡ Less
some_first value.Null r = refl
some_first (value.Bool b) r = refl
some_first (value.Int n) r = refl
some_first (value.Text t) r = refl

none_first : (x : Value) (r : List ℕ) → slice_cmp nat_cmp (value_key x ++ r) [] ≡ Greater
none_first value.Null r = refl
none_first (value.Bool b) r = refl
none_first (value.Int n) r = refl
none_first (value.Text t) r = refl

-- the order of key bytes is the order of the lists
pub keys_in_order : (xs ys : List Value) → AreValues xs → AreValues ys → slice_cmp nat_cmp (key_bytes xs) (key_bytes ys) ≡ row_cmp xs ys
keys_in_order [] [] f g = refl
keys_in_order [] (y ∷ ys) f g = some_first y (key_bytes ys)
keys_in_order (x ∷ xs) [] f g = none_first x (key_bytes xs)
keys_in_order (x ∷ xs) (y ∷ ys) f g =
    values_first x y (key_bytes xs) (key_bytes ys) f.0 g.0
    ∙ ap (ordering_then (value_cmp x y)) (keys_in_order xs ys f.1 g.1)

-- two lists with the same key bytes are one
pub keys_apart : (xs ys : List Value) → AreValues xs → AreValues ys → key_bytes xs ≡ key_bytes ys → xs ≡ ys
keys_apart xs ys f g e =
    row_exact xs ys (sym (keys_in_order xs ys f g) ∙ ap (slice_cmp nat_cmp (key_bytes xs)) (sym e) ∙ tied_itself nat_list_cmp_total (key_bytes xs))
