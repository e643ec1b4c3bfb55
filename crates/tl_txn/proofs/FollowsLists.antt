-- The own write in hand: the first of those that are left.
use Rattle.std.proofs.Common.{◌≡◌, ℕ, zero, suc, ◌+◌, ◌<◌, ◌≤◌, Bool, true, false, List, [], ◌∷◌, ◌++◌, length, take, drop, Option, Some, None, refl, sym, ap, ◌∙◌, add-one, arith, length-take}
use Rattle.std.specs.Prelude.{nat_le, slice_get, if◌then◌else◌}
use Rattle.std.proofs.Math.ListN.{drop_of_length-le}
use Rattle.std.proofs.lemmas.Bool.Decides.{nat_tests}
use Rattle.std.proofs.lemmas.List.{length-take-le}
use Rattle.std.proofs.lemmas.Option.{slice_get_within}

abbrev pub first : {A : Type 0} → List A → Option A
first [] = None
first (x ∷ xs) = Some x

module _ {A : Type 0} where
  pub first-drop : (n : ℕ) (xs : List A) → first (drop n xs) ≡ slice_get xs n
  first-drop zero [] = refl
  first-drop zero (x ∷ xs) = refl
  first-drop (suc n) [] = refl
  first-drop (suc n) (x ∷ xs) = first-drop n xs

  none_first : (xs : List A) → first xs ≡ None → xs ≡ []
  none_first [] e = refl
  none_first (x ∷ xs) e = cc

  pub none_left : (n : ℕ) (xs : List A) → slice_get xs n ≡ None → drop n xs ≡ []
  none_left n xs e = none_first (drop n xs) (first-drop n xs ∙ e)

  left_at : (n : ℕ) (xs : List A) (x : A) → slice_get xs n ≡ Some x → drop n xs ≡ x ∷ drop (suc n) xs
  left_at zero [] x e = cc
  left_at zero (y ∷ ys) x e = let f : y ≡ x = cc in ap (λ (z : A). z ∷ ys) f
  left_at (suc n) [] x e = cc
  left_at (suc n) (y ∷ ys) x e = left_at n ys x e

  pub one_left : (n : ℕ) (xs : List A) (x : A) → slice_get xs n ≡ Some x → drop n xs ≡ x ∷ drop (n + 1) xs
  one_left n xs x e = left_at n xs x e ∙ ap (λ (m : ℕ). x ∷ drop m xs) (sym (add-one n))

  taken_at : (n : ℕ) (xs : List A) (x : A) → slice_get xs n ≡ Some x → take n xs ++ x ∷ [] ≡ take (suc n) xs
  taken_at zero [] x e = cc
  taken_at zero (y ∷ ys) x e = let f : x ≡ y = cc in ap (λ (z : A). z ∷ []) f
  taken_at (suc n) [] x e = cc
  taken_at (suc n) (y ∷ ys) x e = ap (λ (zs : List A). y ∷ zs) (taken_at n ys x e)

  pub one_taken : (n : ℕ) (xs : List A) (x : A) → slice_get xs n ≡ Some x → take n xs ++ x ∷ [] ≡ take (n + 1) xs
  one_taken n xs x e = taken_at n xs x e ∙ ap (λ (m : ℕ). take m xs) (sym (add-one n))

  pub length-taken : (n : ℕ) (xs : List A) (x : A) → slice_get xs n ≡ Some x → length (take n xs) ≡ n
  length-taken n xs x e = let h : n < length xs = slice_get_within xs n x e in length-take-le n xs (omega arith)

  slice_get-take : (n : ℕ) (xs : List A) (i : ℕ) → i < n → slice_get (take n xs) i ≡ slice_get xs i
  slice_get-take zero xs i h = absurd (omega arith)
  slice_get-take (suc n) [] i h = refl
  slice_get-take (suc n) (x ∷ xs) zero h = refl
  slice_get-take (suc n) (x ∷ xs) (suc i) h = slice_get-take n xs i (omega arith)

  -- of the first n the i-th, where there is one
  pub among_first : (n : ℕ) (xs : List A) (i : ℕ) → (if nat_le n i then None else slice_get xs i) ≡ slice_get (take n xs) i
  among_first n xs i = by (nat_le n i) refl
    where
      by : (b : Bool) → nat_le n i ≡ b → (if b then None else slice_get xs i) ≡ slice_get (take n xs) i
      by true e = sym (sym (first-drop i (take n xs)) ∙ ap first (drop_of_length-le (take n xs) {i = i} (let h : n ≤ i = grind (arith, nat_tests) in omega (arith, length-take n xs))))
      by false e = sym (slice_get-take n xs i (grind (arith, nat_tests)))
