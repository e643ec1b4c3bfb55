-- What comes of a list in another order.
use Rattle.std.proofs.Common.{◌≡◌, ℕ, zero, suc, ◌<◌, Bool, true, false, cond, List, [], ◌∷◌, ◌++◌, Option, Some, None, length, get_or, set, map, filter, flat_map, refl, sym, ap, subst, ◌∙◌, append_assoc, arith}
use Rattle.std.specs.List.{cons_option, filter_map}
use Rattle.std.specs.List.Sorted.{IsPermutation}
use Rattle.std.proofs.lemmas.List.Edits.{swap_is}
use Rattle.std.proofs.lemmas.List.Sorted.{IsPermutation-append, IsPermutation-append_comm, IsPermutation-append_left, IsPermutation-append_right, IsPermutation-cons, IsPermutation-keeps, IsPermutation-map, IsPermutation-middle, IsPermutation-refl, IsPermutation-trans}
use Rattle.tl_values.specs.declared.value.Value.{Value}
use Rattle.tl_algebra.specs.Order.{ArePermuted}
use Rattle.tl_algebra.specs.Select.{before, each, product}

-- a relation of lists that holds of one list, under an element, where two change their places, and along a chain
pub record IsKept {A : Type 0} (R : List A → List A → Type 0) : Type 0 where
  pub one : (xs : List A) → R xs xs
  pub under : (x : A) (xs ys : List A) → R xs ys → R (x ∷ xs) (x ∷ ys)
  pub turn : (x y : A) (xs : List A) → R (x ∷ y ∷ xs) (y ∷ x ∷ xs)
  pub chain : (xs ys zs : List A) → R xs ys → R ys zs → R xs zs

module _ {A : Type 0} (R : List A → List A → Type 0) (k : IsKept R) where
  fetched : (x d : A) (xs : List A) (j : ℕ) → j < length xs → R (x ∷ xs) (get_or xs j d ∷ set xs j x)
  fetched x d [] j h = absurd (omega arith)
  fetched x d (y ∷ ys) zero h = k.turn x y ys
  fetched x d (y ∷ ys) (suc j) h =
      k.chain (x ∷ y ∷ ys) (y ∷ x ∷ ys) (get_or ys j d ∷ y ∷ set ys j x) (k.turn x y ys)
      (k.chain (y ∷ x ∷ ys) (y ∷ get_or ys j d ∷ set ys j x) (get_or ys j d ∷ y ∷ set ys j x)
      (k.under y (x ∷ ys) (get_or ys j d ∷ set ys j x) (fetched x d ys j (omega arith)))
      (k.turn y (get_or ys j d) (set ys j x)))

  exchanged : (d : A) (xs : List A) (i j : ℕ) → i < length xs → j < length xs → R xs (set (set xs i (get_or xs j d)) j (get_or xs i d))
  exchanged d [] i j g h = absurd (omega arith)
  exchanged d (x ∷ xs) zero zero g h = k.one (x ∷ xs)
  exchanged d (x ∷ xs) zero (suc j) g h = fetched x d xs j (omega arith)
  exchanged d (x ∷ xs) (suc i) zero g h = fetched x d xs i (omega arith)
  exchanged d (x ∷ xs) (suc i) (suc j) g h = k.under x xs (set (set xs i (get_or xs j d)) j (get_or xs i d)) (exchanged d xs i j (omega arith) (omega arith))

  swapped : (xs : List A) (i j : ℕ) → i < length xs → j < length xs → R xs (Rattle.std.specs.List.swap xs i j)
  swapped [] i j g h = absurd (omega arith)
  swapped (x ∷ xs) i j g h = subst (R (x ∷ xs)) (swap_is (x ∷ xs) i j x g h) (exchanged x (x ∷ xs) i j g h)

  -- so it holds of a list and the same in another order
  pub reordered : (xs ys : List A) → IsPermutation xs ys → R xs ys
  reordered xs ys = IsPermutation-keeps xs (R xs) (k.one xs) (λ l i j g h r. k.chain xs l (Rattle.std.specs.List.swap l i j) r (swapped l i j g h)) ys

-- ---- lists of lists and parts of lists

pub flipped : {A : Type 0} (x y : A) (xs : List A) → IsPermutation (x ∷ y ∷ xs) (y ∷ x ∷ xs)
flipped x y xs = IsPermutation-middle (x ∷ []) y xs

pub same_list : {A : Type 0} (xs ys : List A) → xs ≡ ys → IsPermutation xs ys
same_list xs ys e = subst (IsPermutation xs) e (IsPermutation-refl xs)

module _ {A : Type 0} (p : A → Bool) where
  filtered_under : (b : Bool) (x : A) (xs ys : List A) → IsPermutation xs ys → IsPermutation (cond b (x ∷ xs) xs) (cond b (x ∷ ys) ys)
  filtered_under true x xs ys s = IsPermutation-cons x xs ys s
  filtered_under false x xs ys s = s

  filtered_turn : (a b : Bool) (x y : A) (xs : List A) → IsPermutation (cond a (x ∷ cond b (y ∷ xs) xs) (cond b (y ∷ xs) xs)) (cond b (y ∷ cond a (x ∷ xs) xs) (cond a (x ∷ xs) xs))
  filtered_turn true true x y xs = flipped x y xs
  filtered_turn true false x y xs = IsPermutation-refl (x ∷ xs)
  filtered_turn false true x y xs = IsPermutation-refl (y ∷ xs)
  filtered_turn false false x y xs = IsPermutation-refl xs

  abbrev Filtered : List A → List A → Type 0
  Filtered xs ys = IsPermutation (filter p xs) (filter p ys)

  filtered_kept : IsKept Filtered
  filtered_kept = record {
    one = λ xs. IsPermutation-refl (filter p xs);
    under = λ x xs ys s. filtered_under (p x) x (filter p xs) (filter p ys) s;
    turn = λ x y xs. filtered_turn (p x) (p y) x y (filter p xs);
    chain = λ xs ys zs s t. IsPermutation-trans (filter p xs) (filter p ys) (filter p zs) s t;
  }

  pub filtered : (xs ys : List A) → IsPermutation xs ys → IsPermutation (filter p xs) (filter p ys)
  filtered = reordered Filtered filtered_kept

module _ {A B : Type 0} (f : A → Option B) where
  chosen_under : (o : Option B) (xs ys : List B) → IsPermutation xs ys → IsPermutation (cons_option o xs) (cons_option o ys)
  chosen_under None xs ys s = s
  chosen_under (Some x) xs ys s = IsPermutation-cons x xs ys s

  chosen_turn : (o p : Option B) (xs : List B) → IsPermutation (cons_option o (cons_option p xs)) (cons_option p (cons_option o xs))
  chosen_turn None p xs = IsPermutation-refl (cons_option p xs)
  chosen_turn (Some x) None xs = IsPermutation-refl (x ∷ xs)
  chosen_turn (Some x) (Some y) xs = flipped x y xs

  abbrev Chosen : List A → List A → Type 0
  Chosen xs ys = IsPermutation (filter_map f xs) (filter_map f ys)

  chosen_kept : IsKept Chosen
  chosen_kept = record {
    one = λ xs. IsPermutation-refl (filter_map f xs);
    under = λ x xs ys s. chosen_under (f x) (filter_map f xs) (filter_map f ys) s;
    turn = λ x y xs. chosen_turn (f x) (f y) (filter_map f xs);
    chain = λ xs ys zs s t. IsPermutation-trans (filter_map f xs) (filter_map f ys) (filter_map f zs) s t;
  }

  pub chosen_shuffled : (xs ys : List A) → IsPermutation xs ys → IsPermutation (filter_map f xs) (filter_map f ys)
  chosen_shuffled = reordered Chosen chosen_kept

two_turned : {B : Type 0} (us vs ws : List B) → IsPermutation (us ++ (vs ++ ws)) (vs ++ (us ++ ws))
two_turned us vs ws =
    IsPermutation-trans (us ++ (vs ++ ws)) ((us ++ vs) ++ ws) (vs ++ (us ++ ws)) (same_list (us ++ (vs ++ ws)) ((us ++ vs) ++ ws) (sym (append_assoc us vs ws)))
    (IsPermutation-trans ((us ++ vs) ++ ws) ((vs ++ us) ++ ws) (vs ++ (us ++ ws)) (IsPermutation-append_left ws (us ++ vs) (vs ++ us) (IsPermutation-append_comm us vs))
    (same_list ((vs ++ us) ++ ws) (vs ++ (us ++ ws)) (append_assoc vs us ws)))

module _ {A B : Type 0} (f : A → List B) where
  abbrev Spread : List A → List A → Type 0
  Spread xs ys = IsPermutation (flat_map f xs) (flat_map f ys)

  spread_kept : IsKept Spread
  spread_kept = record {
    one = λ xs. IsPermutation-refl (flat_map f xs);
    under = λ x xs ys s. IsPermutation-append_right (f x) (flat_map f xs) (flat_map f ys) s;
    turn = λ x y xs. two_turned (f x) (f y) (flat_map f xs);
    chain = λ xs ys zs s t. IsPermutation-trans (flat_map f xs) (flat_map f ys) (flat_map f zs) s t;
  }

  pub spread : (xs ys : List A) → IsPermutation xs ys → IsPermutation (flat_map f xs) (flat_map f ys)
  spread = reordered Spread spread_kept

spread_each : {A B : Type 0} (f g : A → List B) → ((x : A) → IsPermutation (f x) (g x)) → (xs : List A) → IsPermutation (flat_map f xs) (flat_map g xs)
spread_each f g h [] = IsPermutation-refl []
spread_each f g h (x ∷ xs) = IsPermutation-append (f x) (g x) (flat_map f xs) (flat_map g xs) (h x) (spread_each f g h xs)

module _ {A : Type 0} where
  abbrev pairs : List (List A) → List (List A) → List (List A)
  pairs backs fronts = flat_map (λ front. map (λ back. front ++ back) backs) fronts

  pairs_shuffled : (xs ys us vs : List (List A)) → IsPermutation xs ys → IsPermutation us vs → IsPermutation (pairs us xs) (pairs vs ys)
  pairs_shuffled xs ys us vs s t =
      IsPermutation-trans (pairs us xs) (pairs us ys) (pairs vs ys)
      (spread (λ front. map (λ back. front ++ back) us) xs ys s)
      (spread_each (λ front. map (λ back. front ++ back) us) (λ front. map (λ back. front ++ back) vs) (λ front. IsPermutation-map (λ back. front ++ back) us vs t) ys)

-- ---- what a function gives of each

-- nothing of both, or lists that are one another in another order
abbrev pub IsReordered : {A : Type 0} → Option (List A) → Option (List A) → Type 0
IsReordered None None = Unit {0}
IsReordered None (Some ys) = ⊥
IsReordered (Some xs) None = ⊥
IsReordered (Some xs) (Some ys) = IsPermutation xs ys

module _ {B : Type 0} where
  itself : (o : Option (List B)) → IsReordered o o
  itself None = tt
  itself (Some xs) = IsPermutation-refl xs

  in_chain : (o p q : Option (List B)) → IsReordered o p → IsReordered p q → IsReordered o q
  in_chain None None None s t = tt
  in_chain None None (Some zs) s t = absurd t
  in_chain None (Some ys) q s t = absurd s
  in_chain (Some xs) None q s t = absurd s
  in_chain (Some xs) (Some ys) None s t = absurd t
  in_chain (Some xs) (Some ys) (Some zs) s t = IsPermutation-trans xs ys zs s t

  one_before : (x : Option B) (o p : Option (List B)) → IsReordered o p → IsReordered (before x o) (before x p)
  one_before None o p s = tt
  one_before (Some x) None None s = tt
  one_before (Some x) None (Some ys) s = absurd s
  one_before (Some x) (Some xs) None s = absurd s
  one_before (Some x) (Some xs) (Some ys) s = IsPermutation-cons x xs ys s

  two_before : (x y : Option B) (o : Option (List B)) → IsReordered (before x (before y o)) (before y (before x o))
  two_before None None o = tt
  two_before None (Some y) None = tt
  two_before None (Some y) (Some xs) = tt
  two_before (Some x) None None = tt
  two_before (Some x) None (Some xs) = tt
  two_before (Some x) (Some y) None = tt
  two_before (Some x) (Some y) (Some xs) = flipped x y xs

module _ {A B : Type 0} (f : A → Option B) where
  abbrev Each : List A → List A → Type 0
  Each xs ys = IsReordered (each f xs) (each f ys)

  each_kept : IsKept Each
  each_kept = record {
    one = λ xs. itself (each f xs);
    under = λ x xs ys s. one_before (f x) (each f xs) (each f ys) s;
    turn = λ x y xs. two_before (f x) (f y) (each f xs);
    chain = λ xs ys zs s t. in_chain (each f xs) (each f ys) (each f zs) s t;
  }

  pub each_shuffled : (xs ys : List A) → IsPermutation xs ys → IsReordered (each f xs) (each f ys)
  each_shuffled = reordered Each each_kept

pub each_same : {A B : Type 0} (f g : A → Option B) → ((x : A) → f x ≡ g x) → (xs : List A) → each f xs ≡ each g xs
each_same f g h [] = refl
each_same f g h (x ∷ xs) = ap (λ o. before o (each f xs)) (h x) ∙ ap (before (g x)) (each_same f g h xs)

pub each_map : {A B C : Type 0} (f : B → Option C) (g : A → B) (xs : List A) → each f (map g xs) ≡ each (λ x. f (g x)) xs
each_map f g [] = refl
each_map f g (x ∷ xs) = ap (before (f (g x))) (each_map f g xs)

-- ---- the product of tables

pub products : (tables others : List (List (List Value))) → ArePermuted tables others → IsPermutation (product tables) (product others)
products [] [] h = IsPermutation-refl ([] ∷ [])
products [] (other ∷ others) h = absurd h
products (table ∷ tables) [] h = absurd h
products (table ∷ tables) (other ∷ others) h = pairs_shuffled table other (product tables) (product others) h.0 (products tables others h.1)
