-- What is found in a list of which an element was replaced, or that grew by one.
use Rattle.std.proofs.Common.{◌≡◌, ◌⊎◌, inl, inr, ℕ, zero, suc, ◌+◌, ◌<◌, ◌==◌, true, false, List, [], ◌∷◌, ◌++◌, Some, length, refl, ap, arith}
use Rattle.std.specs.Prelude.{slice_get, slice_set}
use Rattle.std.proofs.lemmas.Bool.{eqb-true}
use Rattle.std.proofs.lemmas.List.{length_push}
use Rattle.tl_lemmas.proofs.Lists.{some_at}

-- the one that replaced it, or one at another place
pub set_found : {A : Type 0} (xs : List A) (i j : ℕ) (y x : A) → slice_get (slice_set xs i y) j ≡ Some x
    → ((i ≡ j) × (y ≡ x)) ⊎ ((i ≡ j → ⊥) × (slice_get xs j ≡ Some x))
set_found [] i j y x h = absurd cc
set_found (z ∷ zs) zero zero y x h = inl (refl, cc)
set_found (z ∷ zs) zero (suc j) y x h = inr (λ e. absurd cc, h)
set_found (z ∷ zs) (suc i) zero y x h = inr (λ e. absurd cc, h)
set_found (z ∷ zs) (suc i) (suc j) y x h = by (set_found zs i j y x h)
  where
    by : ((i ≡ j) × (y ≡ x)) ⊎ ((i ≡ j → ⊥) × (slice_get zs j ≡ Some x)) → ((suc i ≡ suc j) × (y ≡ x)) ⊎ ((suc i ≡ suc j → ⊥) × (slice_get zs j ≡ Some x))
    by (inl e) = inl (ap suc e.0, e.1)
    by (inr e) = inr (λ (f : suc i ≡ suc j). e.0 cc, e.1)

-- one that was there, or the new one
pub push_found : {A : Type 0} (xs : List A) (j : ℕ) (y x : A) → slice_get (xs ++ y ∷ []) j ≡ Some x → (slice_get xs j ≡ Some x) ⊎ (y ≡ x)
push_found [] zero y x h = inr cc
push_found [] (suc j) y x h = absurd cc
push_found (z ∷ zs) zero y x h = inl h
push_found (z ∷ zs) (suc j) y x h = push_found zs j y x h

-- an element that was replaced by itself
pub set_same : {A : Type 0} (xs : List A) (i : ℕ) (x y : A) → slice_get xs i ≡ Some x → y ≡ x → slice_set xs i y ≡ xs
set_same [] i x y h e = refl
set_same (z ∷ zs) zero x y h e = ap (λ w. w ∷ zs) (let f : z ≡ x = cc in cc)
set_same (z ∷ zs) (suc i) x y h e = ap (λ ws. z ∷ ws) (set_same zs i x y h e)

-- numbers that differ
pub apart : (m n : ℕ) → (m ≡ n → ⊥) → (m == n) ≡ false
apart m n f = elim (m == n) as (λ b. (m == n) ≡ b → b ≡ false) [ true ↦ λ e. absurd (f (eqb-true m n e)) | false ↦ λ e. refl ] refl
