-- Two lists are the same where they are as long and the same at each place.
use Rattle.std.proofs.Common.{◌≡◌, ℕ, suc, Bool, ◌&&◌, ◌==◌, ◌≢◌, List, [], ◌∷◌, length, refl, arith}
use Rattle.std.specs.declared.cmp.Ordering.{Ordering}
use Rattle.std.specs.declared.cmp.Ordering.TheVariants.{Less, Equal, Greater}
use Rattle.std.specs.Ordering.{is_eq, ordering_then}
use Rattle.std.specs.Cmp.Lexicographic.{slice_cmp}
use Rattle.std.specs.List.{list_all, zip}
use Rattle.std.proofs.lemmas.Bool.Decides.{nat_tests}

-- the test that the code makes
abbrev pub tied : {A : Type 0} → (A → A → Ordering) → List A → List A → Bool
tied R xs ys = (length xs == length ys) && list_all (λ p. is_eq (R p.0 p.1)) (zip xs ys)

step : (o r : Ordering) (m n : ℕ) (b : Bool) → ((m == n) && b) ≡ is_eq r → ((suc m == suc n) && (is_eq o && b)) ≡ is_eq (ordering_then o r)
step Less r m n b h = grind (arith, nat_tests)
step Equal r m n b h = grind (arith, nat_tests, h)
step Greater r m n b h = grind (arith, nat_tests)

pub tied_slice_cmp : {A : Type 0} (R : A → A → Ordering) (xs ys : List A) → tied R xs ys ≡ is_eq (slice_cmp R xs ys)
tied_slice_cmp R [] [] = refl
tied_slice_cmp R [] (y ∷ ys) = grind (arith, nat_tests)
tied_slice_cmp R (x ∷ xs) [] = grind (arith, nat_tests)
tied_slice_cmp R (x ∷ xs) (y ∷ ys) = step (R x y) (slice_cmp R xs ys) (length xs) (length ys) _ (tied_slice_cmp R xs ys)

either : (m n : ℕ) (b r : Bool) → ((m == n) && b) ≡ r → m ≡ n → b ≡ r
either m n b r h e = grind (arith, nat_tests)

neither : (m n : ℕ) (b r : Bool) → ((m == n) && b) ≡ r → m ≢ n → (m == n) ≡ r
neither m n b r h e = grind (arith, nat_tests)

pub tied_when : {A : Type 0} (R : A → A → Ordering) (xs ys : List A) → length xs ≡ length ys →
    list_all (λ p. is_eq (R p.0 p.1)) (zip xs ys) ≡ is_eq (slice_cmp R xs ys)
tied_when R xs ys e = either _ _ _ _ (tied_slice_cmp R xs ys) e

pub tied_unless : {A : Type 0} (R : A → A → Ordering) (xs ys : List A) → length xs ≢ length ys →
    (length xs == length ys) ≡ is_eq (slice_cmp R xs ys)
tied_unless R xs ys e = neither _ _ _ _ (tied_slice_cmp R xs ys) e
