-- Elements of a list by their places: after one more, after the first n, and where a test finds one.
use Rattle.std.proofs.Common.{◌≡◌, ℕ, zero, suc, ◌≤◌, ◌⊎◌, inl, inr, ⊎_elim, Bool, true, List, [], ◌∷◌, ◌++◌, length, Some, drop, refl, sym, ap, subst, ◌∙◌, arith, Ordering, Less, Equal, Greater}
use Rattle.std.specs.Prelude.{slice_get}
use Rattle.std.specs.List.{list_any}
use Rattle.std.specs.Ordering.{is_eq}
use Rattle.std.specs.FinMap.{nat_cmp-IsAntisymmetric, slice_cmp-IsAntisymmetric}
use Rattle.std.proofs.lemmas.Bool.{or_cases, or_left, or_right}
use Rattle.std.proofs.lemmas.Option.{same_Some}
use Rattle.tl_write.specs.declared.write.Write.{Write}
use Rattle.tl_write.specs.Own.{key_cmp, is_written}
use Rattle.tl_write.proofs.Keys.{key_eq}

-- an element of a list and one more is the last, or stood there before
pub placed_push : {X : Type 0} (xs : List X) (y : X) (i : ℕ) (x : X) → slice_get (xs ++ y ∷ []) i ≡ Some x
    → (slice_get xs i ≡ Some x) ⊎ ((i ≡ length xs) × (y ≡ x))
placed_push [] y zero x e = inr (refl, same_Some y x e)
placed_push [] y (suc i) x e = absurd cc
placed_push (z ∷ xs) y zero x e = inl e
placed_push (z ∷ xs) y (suc i) x e =
    ⊎_elim (λ h. inl h) (λ (h : (i ≡ length xs) × (y ≡ x)). inr (ap (λ (n : ℕ). suc n) h.0, h.1)) (placed_push xs y i x e)

-- what a test finds after the first n has a place from n on
pub placed_later : {X : Type 0} (p : X → Bool) (n : ℕ) (xs : List X) → list_any p (drop n xs) ≡ true
    → (i : ℕ) × (x : X) × (slice_get xs i ≡ Some x) × (n ≤ i) × (p x ≡ true)
placed_later p zero [] e = absurd cc
placed_later p (suc n) [] e = absurd cc
placed_later p zero (x ∷ xs) e =
    ⊎_elim (λ h. (0, x, refl, omega arith, h)) (λ h. let r = placed_later p zero xs h in (suc r.0, r.1, r.2, omega arith, r.4)) (or_cases (p x) (list_any p xs) e)
placed_later p (suc n) (x ∷ xs) e = let r = placed_later p n xs e in (suc r.0, r.1, r.2, (let le = r.3 in omega arith), r.4)

-- and the converse
pub later_placed : {X : Type 0} (p : X → Bool) (n : ℕ) (xs : List X) (i : ℕ) (x : X) → slice_get xs i ≡ Some x → n ≤ i → p x ≡ true
    → list_any p (drop n xs) ≡ true
later_placed p n [] i x e le h = absurd cc
later_placed p zero (y ∷ ys) zero x e le h = or_left (p y) (list_any p ys) (ap p (same_Some y x e) ∙ h)
later_placed p zero (y ∷ ys) (suc i) x e le h = or_right (p y) (list_any p ys) (later_placed p zero ys i x e (omega arith) h)
later_placed p (suc n) (y ∷ ys) zero x e le h = absurd (omega arith)
later_placed p (suc n) (y ∷ ys) (suc i) x e le h = later_placed p n ys i x e (omega arith) h

any_weaker : {X : Type 0} (p q : X → Bool) → ((x : X) → p x ≡ true → q x ≡ true) → (xs : List X) → list_any p xs ≡ true → list_any q xs ≡ true
any_weaker p q f [] e = absurd cc
any_weaker p q f (x ∷ xs) e =
    ⊎_elim (λ h. or_left (q x) (list_any q xs) (f x h)) (λ h. or_right (q x) (list_any q xs) (any_weaker p q f xs h)) (or_cases (p x) (list_any p xs) e)

-- two lists of writes of one record meet in it
pub meet_in : (key : List ℕ) (own writes : List Write) → is_written key own ≡ true → is_written key writes ≡ true
    → list_any (λ w. is_written w.key writes) own ≡ true
meet_in key own writes mine other =
    any_weaker (λ w. is_eq (key_cmp w.key key)) (λ w. is_written w.key writes)
    (λ w h. subst (λ k. is_written k writes ≡ true) (sym (key_eq w.key key h)) other) own mine
