-- Facts of each element of a list, and what is found in a list of which elements were changed, removed or added.
use Rattle.std.proofs.Common.{◌≡◌, ℕ, zero, suc, ◌+◌, ◌<◌, Bool, true, false, ◌||◌, cond, List, [], ◌∷◌, ◌++◌, length, get_or, drop, reverse, slice_get, Option, Some, None, option_map, map, filter, find, refl, sym, ap, subst, ◌∙◌, arith}
use Rattle.std.specs.Option.{option_or}
use Rattle.std.specs.Prelude.{slice_set}
use Rattle.std.specs.List.{list_any, AllByRecursion}
use Rattle.std.proofs.lemmas.Bool.{both_ways, or_left, or_right}
use Rattle.std.proofs.lemmas.List.{drop_more, reverse-append}
use Rattle.std.proofs.lemmas.Option.{same_Some}

pub or_none : {X : Type 0} (o : Option X) → option_or o None ≡ o
or_none None = refl
or_none (Some x) = refl

-- facts of each element
pub all_of : {X : Type 0} (P : X → Type 0) → ((x : X) → P x) → (xs : List X) → AllByRecursion P xs
all_of P f [] = tt
all_of P f (x ∷ xs) = (f x, all_of P f xs)

pub weaker : {X : Type 0} (P Q : X → Type 0) → ((x : X) → P x → Q x) → (xs : List X) → AllByRecursion P xs → AllByRecursion Q xs
weaker P Q f [] h = tt
weaker P Q f (x ∷ xs) h = (f x h.0, weaker P Q f xs h.1)

pub all_map : {X Y : Type 0} (P : X → Type 0) (Q : Y → Type 0) (f : X → Y) → ((x : X) → P x → Q (f x)) → (xs : List X) → AllByRecursion P xs → AllByRecursion Q (map f xs)
all_map P Q f g [] h = tt
all_map P Q f g (x ∷ xs) h = (g x h.0, all_map P Q f g xs h.1)

pub all_push : {X : Type 0} (P : X → Type 0) (xs : List X) (y : X) → AllByRecursion P xs → P y → AllByRecursion P (xs ++ y ∷ [])
all_push P [] y h i = (i, tt)
all_push P (x ∷ xs) y h i = (h.0, all_push P xs y h.1 i)

pub all_filter : {X : Type 0} (P Q : X → Type 0) (q : X → Bool) → ((x : X) → q x ≡ true → P x → Q x) → (xs : List X) → AllByRecursion P xs → AllByRecursion Q (filter q xs)
all_filter P Q q f [] h = tt
all_filter P Q q f (x ∷ xs) h =
    elim (q x) as (λ b. q x ≡ b → AllByRecursion Q (cond b (x ∷ filter q xs) (filter q xs))) [
      | true ↦ λ e. (f x e h.0, all_filter P Q q f xs h.1)
      | false ↦ λ e. all_filter P Q q f xs h.1
    ] refl

-- what is found is one of the list
pub found : {X : Type 0} (P : X → Type 0) (p : X → Bool) (xs : List X) (x : X) → AllByRecursion P xs → find p xs ≡ Some x → P x
found P p [] x h e = absurd cc
found P p (y ∷ ys) x h e =
    elim (p y) as (λ b. cond b (Some y) (find p ys) ≡ Some x → P x) [
      | true ↦ λ i. subst P (same_Some y x i) h.0
      | false ↦ λ i. found P p ys x h.1 i
    ] e

-- and passes the test
pub passes : {X : Type 0} (p : X → Bool) (xs : List X) (x : X) → find p xs ≡ Some x → p x ≡ true
passes p [] x e = absurd cc
passes p (y ∷ ys) x e =
    elim (p y) as (λ b. p y ≡ b → cond b (Some y) (find p ys) ≡ Some x → p x ≡ true) [
      | true ↦ λ t i. ap p (sym (same_Some y x i)) ∙ t
      | false ↦ λ t i. passes p ys x i
    ] refl e

pub none_passes : {X : Type 0} (p : X → Bool) (xs : List X) → find p xs ≡ None → AllByRecursion (λ x. p x ≡ false) xs
none_passes p [] e = tt
none_passes p (y ∷ ys) e =
    elim (p y) as (λ b. p y ≡ b → cond b (Some y) (find p ys) ≡ None → AllByRecursion (λ x. p x ≡ false) (y ∷ ys)) [
      | true ↦ λ t i. absurd cc
      | false ↦ λ t i. (t, none_passes p ys i)
    ] refl e

pub any_found : {X : Type 0} (p q : X → Bool) (xs : List X) (x : X) → find p xs ≡ Some x → q x ≡ true → list_any q xs ≡ true
any_found p q [] x e h = absurd cc
any_found p q (y ∷ ys) x e h =
    elim (p y) as (λ b. cond b (Some y) (find p ys) ≡ Some x → (q y || list_any q ys) ≡ true) [
      | true ↦ λ i. or_left (q y) (list_any q ys) (ap q (same_Some y x i) ∙ h)
      | false ↦ λ i. or_right (q y) (list_any q ys) (any_found p q ys x i h)
    ] e

pub none_any : {X : Type 0} (q : X → Bool) (xs : List X) → AllByRecursion (λ x. q x ≡ false) xs → list_any q xs ≡ false
none_any q [] h = refl
none_any q (x ∷ xs) h = ap (λ (b : Bool). b || list_any q xs) h.0 ∙ none_any q xs h.1

-- a change that the test doesn't see
pub find_map : {X : Type 0} (p : X → Bool) (f : X → X) (xs : List X) → AllByRecursion (λ x. p (f x) ≡ p x) xs → find p (map f xs) ≡ option_map f (find p xs)
find_map p f [] h = refl
find_map p f (x ∷ xs) h =
    ap (λ (b : Bool). cond b (Some (f x)) (find p (map f xs))) h.0
    ∙ elim (p x) as (λ b. cond b (Some (f x)) (find p (map f xs)) ≡ option_map f (cond b (Some x) (find p xs))) [
      | true ↦ refl
      | false ↦ find_map p f xs h.1
    ]

-- a filter that keeps what passes the test
pub find_filter : {X : Type 0} (p q : X → Bool) (xs : List X) → AllByRecursion (λ x. p x ≡ true → q x ≡ true) xs → find p (filter q xs) ≡ find p xs
find_filter p q [] h = refl
find_filter p q (x ∷ xs) h =
    elim (q x) as (λ b. q x ≡ b → find p (cond b (x ∷ filter q xs) (filter q xs)) ≡ cond (p x) (Some x) (find p xs)) [
      | true ↦ λ i. ap (λ (o : Option _). cond (p x) (Some x) o) (find_filter p q xs h.1)
      | false ↦ λ i.
          find_filter p q xs h.1
          ∙ elim (p x) as (λ c. p x ≡ c → find p xs ≡ cond c (Some x) (find p xs)) [
            | true ↦ λ j. absurd (both_ways (q x) i (h.0 j))
            | false ↦ λ j. refl
          ] refl
    ] refl

-- and one that removes it
pub filter_none : {X : Type 0} (p q : X → Bool) (xs : List X) → AllByRecursion (λ x. p x ≡ true → q x ≡ false) xs → find p (filter q xs) ≡ None
filter_none p q [] h = refl
filter_none p q (x ∷ xs) h =
    elim (q x) as (λ b. q x ≡ b → find p (cond b (x ∷ filter q xs) (filter q xs)) ≡ None) [
      | true ↦ λ i. elim (p x) as (λ c. p x ≡ c → cond c (Some x) (find p (filter q xs)) ≡ None) [
        | true ↦ λ j. absurd (both_ways (q x) (h.0 j) i)
        | false ↦ λ j. filter_none p q xs h.1
      ] refl
      | false ↦ λ i. filter_none p q xs h.1
    ] refl

pub all_append : {X : Type 0} (P : X → Type 0) (xs ys : List X) → AllByRecursion P xs → AllByRecursion P ys → AllByRecursion P (xs ++ ys)
all_append P [] ys h i = i
all_append P (x ∷ xs) ys h i = (h.0, all_append P xs ys h.1 i)

pub all_both : {X : Type 0} (P Q : X → Type 0) (xs : List X) → AllByRecursion P xs → AllByRecursion Q xs → AllByRecursion (λ x. P x × Q x) xs
all_both P Q [] h i = tt
all_both P Q (x ∷ xs) h i = ((h.0, i.0), all_both P Q xs h.1 i.1)

pub all_mapped : {X Y : Type 0} (P : Y → Type 0) (f : X → Y) → ((x : X) → P (f x)) → (xs : List X) → AllByRecursion P (map f xs)
all_mapped P f g [] = tt
all_mapped P f g (x ∷ xs) = (g x, all_mapped P f g xs)

pub all_set : {X : Type 0} (P : X → Type 0) (xs : List X) (place : ℕ) (y : X) → AllByRecursion P xs → P y → AllByRecursion P (slice_set xs place y)
all_set P [] place y h p = tt
all_set P (x ∷ xs) zero y h p = (p, h.1)
all_set P (x ∷ xs) (suc place) y h p = (h.0, all_set P xs place y h.1 p)

-- ---- places of a list

pub no_length : {X : Type 0} (xs : List X) → length xs ≡ 0 → xs ≡ []
no_length [] e = refl
no_length (x ∷ xs) e = absurd (omega arith)

pub some_at : {X : Type 0} (xs : List X) (i : ℕ) → i < length xs → (x : X) × (slice_get xs i ≡ Some x)
some_at [] i l = absurd (omega arith)
some_at (x ∷ xs) zero l = (x, refl)
some_at (x ∷ xs) (suc i) l = some_at xs i (omega arith)

pub behind_first : {X : Type 0} (xs : List X) (x : X) (ys : List X) → slice_get (xs ++ x ∷ ys) (length xs) ≡ Some x
behind_first [] x ys = refl
behind_first (z ∷ xs) x ys = behind_first xs x ys

pub drop_read : {X : Type 0} (xs : List X) (i : ℕ) (x : X) → i < length xs → x ≡ get_or xs i x → drop i xs ≡ x ∷ drop (i + 1) xs
drop_read xs i x h e = drop_more xs i x h ∙ ap (λ y. y ∷ drop (i + 1) xs) (sym e)

pub reverse_cons : {X : Type 0} (x : X) (xs : List X) → reverse (x ∷ xs) ≡ reverse xs ++ x ∷ []
reverse_cons x xs = reverse-append (x ∷ []) xs
