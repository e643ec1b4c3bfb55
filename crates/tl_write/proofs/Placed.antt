-- Where a key stands among writes in rising order, and what is put there.
use Rattle.std.proofs.Common.{◌≡◌, ℕ, zero, suc, ◌+◌, ◌≤◌, Bool, true, false, not, cond, ◌||◌, List, [], ◌∷◌, length, refl, sym, ap, subst, ◌∙◌, arith}
use Rattle.std.specs.Prelude.{slice_get, slice_set}
use Rattle.std.specs.declared.cmp.Ordering.{Ordering}
use Rattle.std.specs.declared.cmp.Ordering.TheVariants.{Less, Equal, Greater}
use Rattle.std.specs.List.{insert, position_or_len}
use Rattle.std.specs.List.Sorted.{IsPartitionPoint}
use Rattle.std.specs.Ordering.{is_eq, is_le, is_lt, match_ordering, ordering_reverse}
use Rattle.std.proofs.lemmas.List.Sums.{prefix_len-le-length}
use Rattle.tl_lemmas.proofs.Tests.{and_first, and_second}
use Rattle.tl_write.specs.declared.write.Write.{Write}
use Rattle.tl_write.specs.Own.{is_rising, is_written, key_cmp, put_write}
use Rattle.tl_write.specs.Place.{holds}
use Rattle.tl_write.proofs.Rising.{below_less, none_below, turned}

-- the and_first place whose key isn't below this one
abbrev pub place : List ℕ → List Write → ℕ
place key = position_or_len (λ w. is_le (key_cmp key w.key))

abbrev pub stands : List ℕ → ℕ → List Write → Bool
stands key at writes = holds (λ w. is_eq (key_cmp key w.key)) (slice_get writes at)

abbrev pub put_at : Write → ℕ → Bool → List Write → List Write
put_at w at replaces writes = cond replaces (slice_set writes at w) (insert writes at w)

opposite : (r : Ordering) → is_le r ≡ not (is_lt (ordering_reverse r))
opposite Less = refl
opposite Equal = refl
opposite Greater = refl

-- a key is at most another where that isn't below it
not_below : (k l : List ℕ) (b : Bool) → is_lt (key_cmp l k) ≡ b → is_le (key_cmp k l) ≡ not b
not_below k l b h = opposite (key_cmp k l) ∙ ap (λ (o : Ordering). not (is_lt o)) (sym (turned k l _ refl)) ∙ ap not h

starts : (b : Bool) (n : ℕ) → b ≡ true → 0 ≡ cond (not b) (1 + n) 0
starts true n h = refl
starts false n h = absurd cc

goes_on : (b : Bool) (m n : ℕ) → b ≡ false → m ≡ n → suc m ≡ cond (not b) (1 + n) 0
goes_on true m n h e = absurd cc
goes_on false m n h e = omega arith

-- where the keys below this one end
pub parted_place : (k : List ℕ) (ws : List Write) (i : ℕ) → i ≤ length ws →
    IsPartitionPoint (λ w. is_lt (key_cmp w.key k) ≡ true) (λ w. is_lt (key_cmp w.key k) ≡ false) ws i → i ≡ place k ws
parted_place k [] i le h = omega arith
parted_place k (w ∷ ws) zero le h = starts _ _ (not_below k w.key false (h.1 0 w (omega arith) (omega arith)))
parted_place k (w ∷ ws) (suc i) le h =
    goes_on _ i _ (not_below k w.key true (h.0 0 w (omega arith) (omega arith)))
    (parted_place k ws i (omega arith) (λ j d a b. h.0 (suc j) d (omega arith) (omega arith), λ j d a b. h.1 (suc j) d (omega arith) (omega arith)))

cond_cons : (b : Bool) (x : Write) (xs ys : List Write) → cond b (x ∷ xs) (x ∷ ys) ≡ x ∷ cond b xs ys
cond_cons true x xs ys = refl
cond_cons false x xs ys = refl

next : (n : ℕ) → suc n ≡ 1 + n
next n = omega arith

at_cons : (w x : Write) (n : ℕ) (xs : List Write) → put_at w (1 + n) (stands w.key (1 + n) (x ∷ xs)) (x ∷ xs) ≡ x ∷ put_at w n (stands w.key n xs) xs
at_cons w x n xs =
    subst (λ (m : ℕ). put_at w m (stands w.key m (x ∷ xs)) (x ∷ xs) ≡ x ∷ put_at w n (stands w.key n xs) xs) (next n)
    (cond_cons (stands w.key n xs) x (slice_set xs n w) (insert xs n w))

step : (w x : Write) (xs : List Write) (o : Ordering) → put_write w xs ≡ put_at w (place w.key xs) (stands w.key (place w.key xs) xs) xs →
    o ≡ key_cmp w.key x.key →
    match_ordering o (w ∷ x ∷ xs) (w ∷ xs) (x ∷ put_write w xs)
    ≡ put_at w (cond (not (is_le o)) (1 + place w.key xs) 0) (stands w.key (cond (not (is_le o)) (1 + place w.key xs) 0) (x ∷ xs)) (x ∷ xs)
step w x xs Less h e = ap (λ (o : Ordering). put_at w 0 (is_eq o) (x ∷ xs)) e
step w x xs Equal h e = ap (λ (o : Ordering). put_at w 0 (is_eq o) (x ∷ xs)) e
step w x xs Greater h e = ap (λ (rest : List Write). x ∷ rest) h ∙ sym (at_cons w x (place w.key xs) xs)

put_write_place : (w : Write) (writes : List Write) → put_write w writes ≡ put_at w (place w.key writes) (stands w.key (place w.key writes) writes) writes
put_write_place w [] = refl
put_write_place w (x ∷ xs) = step w x xs (key_cmp w.key x.key) (put_write_place w xs) refl

-- what `put_write` does, where the lists that its calls read are the writes
pub put_write_so : (w : Write) (xs ys zs : List Write) (at : ℕ) (b : Bool) → ys ≡ xs → zs ≡ xs → at ≡ place w.key ys → b ≡ stands w.key at zs → put_write w xs ≡ put_at w at b xs
put_write_so w xs ys zs at b e f p h =
    put_write_place w xs
    ∙ ap (λ (n : ℕ). put_at w n (stands w.key n xs) xs) (sym (p ∙ ap (place w.key) e))
    ∙ ap (λ (c : Bool). put_at w at c xs) (sym (h ∙ ap (stands w.key at) f))

pub place_within : (key : List ℕ) (at : ℕ) (xs ys : List Write) → ys ≡ xs → at ≡ place key ys → at ≤ length xs
place_within key at xs ys e p =
    subst (λ (n : ℕ). n ≤ length xs) (sym (p ∙ ap (place key) e)) (prefix_len-le-length (λ w. not (is_le (key_cmp key w.key))) xs)

stands_later : (k : List ℕ) (n : ℕ) (x : Write) (xs : List Write) → stands k n xs ≡ stands k (1 + n) (x ∷ xs)
stands_later k n x xs = ap (λ (m : ℕ). stands k m (x ∷ xs)) (next n)

-- a key that is written stands at its place
pub written_place : (k : List ℕ) (ws : List Write) → is_rising ws ≡ true → stands k (place k ws) ws ≡ is_written k ws
written_place k [] h = refl
written_place k (x ∷ xs) h =
    elim (key_cmp k x.key) as (λ o. key_cmp k x.key ≡ o → stands k (cond (not (is_le o)) (1 + place k xs) 0) (x ∷ xs) ≡ (is_eq (key_cmp x.key k) || is_written k xs)) [
      | Less ↦ λ p.
          ap is_eq p ∙ sym (none_below k xs (below_less k x.key xs p (and_first _ _ h)))
          ∙ ap (λ (o : Ordering). is_eq o || is_written k xs) (sym (turned k x.key Less p))
      | Equal ↦ λ p. ap is_eq p ∙ ap (λ (o : Ordering). is_eq o || is_written k xs) (sym (turned k x.key Equal p))
      | Greater ↦ λ p.
          sym (stands_later k (place k xs) x xs) ∙ written_place k xs (and_second _ _ h)
          ∙ ap (λ (o : Ordering). is_eq o || is_written k xs) (sym (turned k x.key Greater p))
    ] refl
