-- Places of lists, and lists of faults that are empty.
use Rattle.std.proofs.Common.{◌≡◌, ℕ, zero, suc, ◌+◌, ◌<◌, Bool, true, false, List, [], ◌∷◌, length, map, slice_get, find, Option, Some, None, cond, refl, sym, ap, subst, ◌∙◌, arith}
use Rattle.std.proofs.lemmas.Bool.{and_from}
use Rattle.std.specs.Prelude.{flat_map, nat_lt, position}
use Rattle.std.specs.List.{AllByRecursion, list_all, position_or_len}
use Rattle.std.proofs.lemmas.Bool.Decides.{nat_tests}
use Rattle.std.proofs.lemmas.List.Folds.{find_at}
use Rattle.std.proofs.lemmas.Option.{slice_get_within}
use Rattle.tl_lemmas.proofs.Lists.{passes, some_at}
use Rattle.tl_scope.specs.declared.fault.BindFault.{BindFault}
use Rattle.tl_scope.specs.Fault.{each_from}
use Rattle.tl_scope.proofs.Firsts.{both_empty}

some_place : (b : Bool) (n i : ℕ) → ◌≡◌ {A = Option ℕ} (cond b (Some n) None) (Some i) → (b ≡ true) × (n ≡ i)
some_place true n i e = (refl, cc)
some_place false n i e = absurd cc

is_below : (n m : ℕ) → nat_lt n m ≡ true → n < m
is_below n m e = grind (arith, nat_tests)

is_less : (n m : ℕ) → n < m → nat_lt n m ≡ true
is_less n m e = grind (arith, nat_tests)

-- at a place that was found there stands what passes
pub position_at : {X : Type 0} (p : X → Bool) (xs : List X) (i : ℕ) → position p xs ≡ Some i → (x : X) × (slice_get xs i ≡ Some x) × (p x ≡ true)
position_at p xs i e =
    let n = position_or_len p xs in
    let h = some_place (nat_lt n (length xs)) n i e in
    let s = some_at xs n (is_below n (length xs) h.0) in
    (s.0, subst (λ (m : ℕ). slice_get xs m ≡ Some s.0) h.1 s.1, passes p xs s.0 (find_at p xs ∙ s.1))

-- and what was found has a place
pub position_found : {X : Type 0} (p : X → Bool) (xs : List X) (x : X) → find p xs ≡ Some x → (i : ℕ) × (position p xs ≡ Some i) × (slice_get xs i ≡ Some x)
position_found p xs x e =
    let n = position_or_len p xs in
    let at : slice_get xs n ≡ Some x = sym (find_at p xs) ∙ e in
    let there = is_less n (length xs) (slice_get_within xs n x at) in
    (n, ap (λ (b : Bool). cond b (Some n) None) there, at)

pub all_at : {X : Type 0} (P : X → Type 0) (xs : List X) (i : ℕ) (x : X) → AllByRecursion P xs → slice_get xs i ≡ Some x → P x
all_at P [] i x h e = absurd cc
all_at P (y ∷ ys) zero x h e = let is : y ≡ x = cc in subst P is h.0
all_at P (y ∷ ys) (suc i) x h e = all_at P ys i x h.1 e

pub all_unmap : {X Y : Type 0} (P : Y → Type 0) (f : X → Y) (xs : List X) → AllByRecursion P (map f xs) → AllByRecursion (λ x. P (f x)) xs
all_unmap P f [] h = tt
all_unmap P f (x ∷ xs) h = (h.0, all_unmap P f xs h.1)

pub list_all_mapped : {X Y : Type 0} (p : Y → Bool) (f : X → Y) (xs : List X) → AllByRecursion (λ x. p (f x) ≡ true) xs → list_all p (map f xs) ≡ true
list_all_mapped p f [] h = refl
list_all_mapped p f (x ∷ xs) h = and_from (p (f x)) (list_all p (map f xs)) h.0 (list_all_mapped p f xs h.1)

-- no faults of a list, no faults of each
pub each_none : {X : Type 0} (f : X → List BindFault) (xs : List X) → flat_map f xs ≡ [] → AllByRecursion (λ x. f x ≡ []) xs
each_none f [] e = tt
each_none f (x ∷ xs) e = let parts = both_empty (f x) (flat_map f xs) e in (parts.0, each_none f xs parts.1)

pub each_at : {X : Type 0} (f : ℕ → X → List BindFault) (k : ℕ) (xs : List X) (i : ℕ) (x : X) → each_from f k xs ≡ [] → slice_get xs i ≡ Some x → f (k + i) x ≡ []
each_at f k [] i x e at = absurd cc
each_at f k (y ∷ ys) zero x e at =
    let parts = both_empty (f k y) (each_from f (k + 1) ys) e in
    let is : y ≡ x = cc in
    let here : k ≡ k + 0 = omega arith in
    subst (λ (n : ℕ). f n x ≡ []) here (subst (λ z. f k z ≡ []) is parts.0)
each_at f k (y ∷ ys) (suc i) x e at =
    let parts = both_empty (f k y) (each_from f (k + 1) ys) e in
    let there : (k + 1) + i ≡ k + suc i = omega arith in
    subst (λ (n : ℕ). f n x ≡ []) there (each_at f (k + 1) ys i x parts.1 at)
