-- How many records are fresh after one more write.
use Rattle.std.proofs.Common.{◌≡◌, ℕ, ◌+◌, Bool, true, false, ◌||◌, List, [], ◌∷◌, refl, sym, ap, ◌∙◌, arith}
use Rattle.std.specs.declared.cmp.Ordering.{Ordering}
use Rattle.std.specs.declared.cmp.Ordering.TheVariants.{Less, Equal, Greater}
use Rattle.std.specs.FinMap.{nat_cmp-IsAntisymmetric, slice_cmp-IsAntisymmetric}
use Rattle.std.specs.Ordering.{is_eq, match_ordering}
use Rattle.tl_lemmas.proofs.Tests.{and_first, and_second}
use Rattle.tl_write.specs.declared.write.Write.{Write}
use Rattle.tl_write.specs.Own.{fresh, fresh_count, is_rising, is_written, key_cmp, put_write}
use Rattle.tl_write.proofs.Rising.{below_less, none_below, turned}

swapped : (a b m n : ℕ) → m ≡ b + n → a + m ≡ b + (a + n)
swapped a b m n e = omega arith

pub fresh_new : (own : List Write) (w : Write) (ws : List Write) → is_written w.key ws ≡ false → fresh_count own (put_write w ws) ≡ fresh own w.key + fresh_count own ws
fresh_new own w [] h = refl
fresh_new own w (x ∷ xs) h =
    elim (key_cmp w.key x.key) as (λ o. key_cmp w.key x.key ≡ o → (is_eq (key_cmp x.key w.key) || is_written w.key xs) ≡ false →
    fresh_count own (match_ordering o (w ∷ x ∷ xs) (w ∷ xs) (x ∷ put_write w xs)) ≡ fresh own w.key + fresh_count own (x ∷ xs)) [
      | Less ↦ λ p i. refl
      | Equal ↦ λ p i. let t : is_eq (key_cmp x.key w.key) ≡ true = ap is_eq (turned w.key x.key Equal p) in absurd (clash (is_eq (key_cmp x.key w.key)) _ t i)
      | Greater ↦ λ p i. swapped (fresh own x.key) (fresh own w.key) _ _ (fresh_new own w xs (ap (λ (o : Ordering). is_eq o || is_written w.key xs) (sym (turned w.key x.key Greater p)) ∙ i))
    ] refl h
  where
    clash : (a b : Bool) → a ≡ true → (a || b) ≡ false → ⊥
    clash true b p q = cc
    clash false b p q = cc

pub fresh_again : (own : List Write) (w : Write) (ws : List Write) → is_rising ws ≡ true → is_written w.key ws ≡ true → fresh_count own (put_write w ws) ≡ fresh_count own ws
fresh_again own w [] r h = absurd cc
fresh_again own w (x ∷ xs) r h =
    elim (key_cmp w.key x.key) as (λ o. key_cmp w.key x.key ≡ o → (is_eq (key_cmp x.key w.key) || is_written w.key xs) ≡ true →
    fresh_count own (match_ordering o (w ∷ x ∷ xs) (w ∷ xs) (x ∷ put_write w xs)) ≡ fresh_count own (x ∷ xs)) [
      | Less ↦ λ p i.
          let none : is_written w.key xs ≡ false = none_below w.key xs (below_less w.key x.key xs p (and_first _ _ r)) in
          let no : (is_eq (key_cmp x.key w.key) || is_written w.key xs) ≡ false = ap (λ (o : Ordering). is_eq o || is_written w.key xs) (turned w.key x.key Less p) ∙ none in
          absurd cc
      | Equal ↦ λ p i. ap (λ (k : List ℕ). fresh own k + fresh_count own xs) (slice_cmp-IsAntisymmetric nat_cmp-IsAntisymmetric w.key x.key p)
      | Greater ↦ λ p i. ap (λ (n : ℕ). fresh own x.key + n) (fresh_again own w xs (and_second _ _ r) (ap (λ (o : Ordering). is_eq o || is_written w.key xs) (sym (turned w.key x.key Greater p)) ∙ i))
    ] refl h
