-- Writes in rising order of keys.
use Rattle.std.proofs.Common.{◌≡◌, ℕ, zero, suc, Bool, true, false, ◌&&◌, ◌||◌, ◌<◌, List, [], ◌∷◌, length, refl, ap, ◌∙◌, arith}
use Rattle.std.specs.Prelude.{slice_index_or}
use Rattle.std.specs.declared.cmp.Ordering.{Ordering}
use Rattle.std.specs.declared.cmp.Ordering.TheVariants.{Less, Equal, Greater}
use Rattle.std.specs.Cmp.Lexicographic.{nat_list_cmp_total}
use Rattle.std.specs.List.{list_all}
use Rattle.std.specs.List.Sorted.{IsPartitionedBy}
use Rattle.std.specs.Ordering.{is_eq, is_lt, match_ordering, ordering_reverse}
use Rattle.std.proofs.lemmas.Bool.{and_from}
use Rattle.tl_lemmas.proofs.Orders.{less_is}
use Rattle.tl_lemmas.proofs.Tests.{and_first, and_second}
use Rattle.tl_write.specs.declared.write.Write.{Write}
use Rattle.tl_write.specs.Own.{is_rising, is_written, key_cmp, put_write}

-- a key that is above another has that below it
pub turned : (k l : List ℕ) (o : Ordering) → key_cmp k l ≡ o → key_cmp l k ≡ ordering_reverse o
turned k l o e = nat_list_cmp_total.antisymm l k ∙ ap ordering_reverse e

-- whether the key is below that of each write
abbrev pub below : List ℕ → List Write → Bool
below key = list_all (λ w. is_lt (key_cmp key w.key))

pub below_less : (k l : List ℕ) (ws : List Write) → key_cmp k l ≡ Less → below l ws ≡ true → below k ws ≡ true
below_less k l [] p h = refl
below_less k l (w ∷ ws) p h =
    and_from _ _ (ap is_lt (nat_list_cmp_total.trans k l w.key p (less_is _ (and_first _ _ h)))) (below_less k l ws p (and_second _ _ h))

pub below_tied : (k l : List ℕ) (ws : List Write) → key_cmp k l ≡ Equal → below l ws ≡ true → below k ws ≡ true
below_tied k l [] p h = refl
below_tied k l (w ∷ ws) p h =
    and_from _ _ (ap is_lt (nat_list_cmp_total.congr k l w.key p) ∙ and_first _ _ h) (below_tied k l ws p (and_second _ _ h))

below_put : (k : List ℕ) (w : Write) (ws : List Write) → key_cmp k w.key ≡ Less → below k ws ≡ true → below k (put_write w ws) ≡ true
below_put k w [] p h = and_from _ _ (ap is_lt p) refl
below_put k w (x ∷ xs) p h =
    elim (key_cmp w.key x.key) as (λ o. below k (match_ordering o (w ∷ x ∷ xs) (w ∷ xs) (x ∷ put_write w xs)) ≡ true) [
      | Less ↦ and_from _ _ (ap is_lt p) h
      | Equal ↦ and_from _ _ (ap is_lt p) (and_second _ _ h)
      | Greater ↦ and_from _ _ (and_first _ _ h) (below_put k w xs p (and_second _ _ h))
    ]

-- writes rise after one more too
pub put_rising : (w : Write) (ws : List Write) → is_rising ws ≡ true → is_rising (put_write w ws) ≡ true
put_rising w [] h = refl
put_rising w (x ∷ xs) h =
    elim (key_cmp w.key x.key) as (λ o. key_cmp w.key x.key ≡ o → is_rising (match_ordering o (w ∷ x ∷ xs) (w ∷ xs) (x ∷ put_write w xs)) ≡ true) [
      | Less ↦ λ p. and_from _ _ (and_from _ _ (ap is_lt p) (below_less w.key x.key xs p (and_first _ _ h))) h
      | Equal ↦ λ p. and_from _ _ (below_tied w.key x.key xs p (and_first _ _ h)) (and_second _ _ h)
      | Greater ↦ λ p. and_from _ _ (below_put x.key w xs (turned w.key x.key Greater p) (and_first _ _ h)) (put_rising w xs (and_second _ _ h))
    ] refl

-- a key below each isn't written
pub none_below : (k : List ℕ) (ws : List Write) → below k ws ≡ true → is_written k ws ≡ false
none_below k [] h = refl
none_below k (w ∷ ws) h =
    ap (λ (o : Ordering). is_eq o || is_written k ws) (turned k w.key Less (less_is _ (and_first _ _ h))) ∙ none_below k ws (and_second _ _ h)

at_below : (k : List ℕ) (ws : List Write) (i : ℕ) (d : Write) → below k ws ≡ true → i < length ws → key_cmp k (slice_index_or ws i d).key ≡ Less
at_below k [] i d h l = absurd (omega arith)
at_below k (w ∷ ws) zero d h l = less_is _ (and_first _ _ h)
at_below k (w ∷ ws) (suc i) d h l = at_below k ws i d (and_second _ _ h) (omega arith)

-- those below a key stand before the others
pub parted : (k : List ℕ) (ws : List Write) → is_rising ws ≡ true → IsPartitionedBy (λ w. is_lt (key_cmp w.key k)) ws
parted k [] h i j d le l is = absurd (omega arith)
parted k (w ∷ ws) h zero zero d le l is = is
parted k (w ∷ ws) h zero (suc j) d le l is =
    ap is_lt (nat_list_cmp_total.trans w.key (slice_index_or ws j d).key k (at_below w.key ws j d (and_first _ _ h) (omega arith)) (less_is _ is))
parted k (w ∷ ws) h (suc i) zero d le l is = absurd (omega arith)
parted k (w ∷ ws) h (suc i) (suc j) d le l is = parted k ws (and_second _ _ h) i j d (omega arith) (omega arith) is
