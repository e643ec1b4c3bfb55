-- The place of the first that passes.
use Rattle.std.proofs.Common.{◌≡◌, ℕ, zero, suc, ◌<◌, Bool, true, false, not, cond, List, [], ◌∷◌, Option, Some, None, length, filter, refl, sym, ap, subst, ◌∙◌}
use Rattle.std.specs.Prelude.{find, nat_lt, position, remove, slice_get, slice_index_or}
use Rattle.std.specs.List.{position_or_len}
use Rattle.std.proofs.lemmas.Bool.{ltb-true, ltb-false}
use Rattle.std.proofs.lemmas.List.Folds.{find_at}
use Rattle.std.proofs.lemmas.Option.{same_Some, slice_get_past, slice_get_read}
use Rattle.tl_lemmas.proofs.Lists.{passes}

-- this is the place of the first that passes, if one does
abbrev pub MaybePlace : {A : Type 0} → Option ℕ → (A → Bool) → List A → Type 0
MaybePlace None p xs = find p xs ≡ None
MaybePlace (Some at) p xs = (at < length xs) × (slice_get xs at ≡ find p xs)

pub position_is : {A : Type 0} (p : A → Bool) (xs : List A) → MaybePlace (position p xs) p xs
position_is p xs =
    elim (nat_lt (position_or_len p xs) (length xs)) as (λ b. nat_lt (position_or_len p xs) (length xs) ≡ b → MaybePlace (cond b (Some (position_or_len p xs)) None) p xs) [
      | true ↦ λ e. (ltb-true (position_or_len p xs) (length xs) e, sym (find_at p xs))
      | false ↦ λ e. find_at p xs ∙ slice_get_past xs (position_or_len p xs) (ltb-false (position_or_len p xs) (length xs) e)
    ] refl

-- the first that passes is read at its place
pub found_at : {A : Type 0} (p : A → Bool) (xs : List A) (at : ℕ) (x : A) → Some at ≡ position p xs → x ≡ slice_index_or xs at x
    → (at < length xs) × (slice_get xs at ≡ Some x) × (find p xs ≡ Some x)
found_at p xs at x e is =
    let place : MaybePlace (Some at) p xs = subst (λ (o : Option ℕ). MaybePlace o p xs) (sym e) (position_is p xs) in
    let here : slice_get xs at ≡ Some x = slice_get_read xs (length xs) at x refl place.0 is in
    (place.0, here, sym place.1 ∙ here)

pub none_at : {A : Type 0} (p : A → Bool) (xs : List A) → None ≡ position p xs → find p xs ≡ None
none_at p xs e = subst (λ (o : Option ℕ). MaybePlace o p xs) (sym e) (position_is p xs)

-- the others are the same where one is removed
pub others_kept : {A : Type 0} (p : A → Bool) (xs : List A) (at : ℕ) (x : A) → slice_get xs at ≡ Some x → p x ≡ true
    → filter (λ y. not (p y)) (remove xs at) ≡ filter (λ y. not (p y)) xs
others_kept p [] at x e h = absurd cc
others_kept p (y ∷ ys) zero x e h = sym (ap (λ (b : Bool). cond (not b) (y ∷ filter (λ z. not (p z)) ys) (filter (λ z. not (p z)) ys)) (subst (λ z. p z ≡ true) (sym (same_Some y x e)) h))
others_kept p (y ∷ ys) (suc at) x e h = ap (λ (zs : List _). cond (not (p y)) (y ∷ zs) zs) (others_kept p ys at x e h)
