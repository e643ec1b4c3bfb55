-- How many of the commits there are up to the last one that the set has, from the end.
use Rattle.std.proofs.Common.{◌≡◌, ℕ, ◌-◌, ◌<◌, ◌≤◌, Bool, true, false, List, [], ◌∷◌, length, slice_index_or, refl, sym, ap, ◌∙◌, subst, arith}
use Rattle.std.specs.Prelude.{take, zero, suc}
use Rattle.tl_descriptor.specs.Tids.{TidSet, has}
use Rattle.tl_world.specs.Told.{counted_on, first_in}

none_below : (n : ℕ) → n < 0 → ⊥
none_below n h = omega arith

on_true : (b : Bool) → b ≡ true → counted_on b 0 ≡ 1
on_true true e = refl
on_true false e = cc

on_false : (b : Bool) → b ≡ false → counted_on b 0 ≡ 0
on_false false e = refl
on_false true e = cc

on_more : (b : Bool) (n : ℕ) → counted_on b (suc n) ≡ suc (suc n)
on_more true n = omega arith
on_more false n = omega arith

below : (n k : ℕ) → suc n < suc k → n < k
below n k h = omega arith

-- the last of them is in the set
pub first_has : (set : TidSet) (xs : List ℕ) (n d : ℕ) → n < length xs → has set (slice_index_or xs n d) ≡ true → first_in set (take (suc n) xs) ≡ suc n
first_has set [] n d l h = absurd (none_below n l)
first_has set (x ∷ xs) zero d l h = on_true (has set x) h
first_has set (x ∷ xs) (suc n) d l h =
    ap (counted_on (has set x)) (first_has set xs n d (below n (length xs) l) h) ∙ on_more (has set x) n

-- it isn't
pub first_lacks : (set : TidSet) (xs : List ℕ) (n d : ℕ) → n < length xs → has set (slice_index_or xs n d) ≡ false
    → first_in set (take (suc n) xs) ≡ first_in set (take n xs)
first_lacks set [] n d l h = absurd (none_below n l)
first_lacks set (x ∷ xs) zero d l h = on_false (has set x) h
first_lacks set (x ∷ xs) (suc n) d l h = ap (counted_on (has set x)) (first_lacks set xs n d (below n (length xs) l) h)

before : (n : ℕ) → 0 < n → n ≡ suc (n - 1)
before n h = omega arith

pub first_end : (set : TidSet) (xs : List ℕ) (n d : ℕ) → 0 < n → n ≤ length xs → has set (slice_index_or xs (n - 1) d) ≡ true → first_in set (take n xs) ≡ n
first_end set xs n d some l h =
    let e : n ≡ suc (n - 1) = before n some in
    subst (λ k. first_in set (take k xs) ≡ k) (sym e) (first_has set xs (n - 1) d (omega arith) h)

pub first_step : (set : TidSet) (xs : List ℕ) (n d : ℕ) → 0 < n → n ≤ length xs → has set (slice_index_or xs (n - 1) d) ≡ false
    → first_in set (take n xs) ≡ first_in set (take (n - 1) xs)
first_step set xs n d some l h =
    let e : n ≡ suc (n - 1) = before n some in
    ap (λ k. first_in set (take k xs)) e ∙ first_lacks set xs (n - 1) d (omega arith) h
