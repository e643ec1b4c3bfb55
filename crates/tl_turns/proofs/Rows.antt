-- Of numbers in a row the first one that passes two tests.
use Rattle.std.proofs.Common.{◌≡◌, ◌∙◌, ℕ, ◌+◌, ◌<◌, ◌≤◌, Bool, true, false, cond, List, [], ◌∷◌, Option, Some, None, filter, find, length, ap, refl, sym, arith}
use Rattle.std.specs.Prelude.{◌==◌}
use Rattle.std.proofs.lemmas.Bool.{both_ways, eqb-true}
use Rattle.std.proofs.lemmas.Bool.Decides.{nat_tests}

-- each is one more than the one before it
abbrev pub AreFrom : ℕ → List ℕ → Type 0
AreFrom a [] = Unit {0}
AreFrom a (x ∷ xs) = (x ≡ a) × AreFrom (a + 1) xs

above : (a n : ℕ) → a ≤ n → (a == n) ≡ false → a + 1 ≤ n
above a n le e = grind (arith, nat_tests)

some_none : {A : Type 0} (x : A) → ◌≡◌ {A = Option A} (Some x) None → ⊥
some_none x e = cc

module _ (p q : ℕ → Bool) where
  takes : (x : ℕ) (xs : List ℕ) → q x ≡ true → p x ≡ true → find p (filter q (x ∷ xs)) ≡ Some x
  takes x xs e f =
      ap (λ (b : Bool). find p (cond b (x ∷ filter q xs) (filter q xs))) e
      ∙ ap (λ (b : Bool). cond b (Some x) (find p (filter q xs))) f

  skips : (x : ℕ) (xs : List ℕ) → (q x ≡ true → p x ≡ false) → find p (filter q (x ∷ xs)) ≡ find p (filter q xs)
  skips x xs h = by (q x) refl
    where
      by : (b : Bool) → q x ≡ b → find p (cond b (x ∷ filter q xs) (filter q xs)) ≡ find p (filter q xs)
      by true e = ap (λ (b : Bool). cond b (Some x) (find p (filter q xs))) (h e)
      by false e = refl

  pub found_from : (a : ℕ) (xs : List ℕ) → AreFrom a xs → (n : ℕ) → a ≤ n → n < a + length xs → q n ≡ true → p n ≡ true
      → ((k : ℕ) → a ≤ k → k < n → q k ≡ true → p k ≡ false) → find p (filter q xs) ≡ Some n
  found_from a [] are n low high passes holds none = absurd (omega arith)
  found_from a (x ∷ xs) are n low high passes holds none =
      by (a == n) refl (λ (le : a + 1 ≤ n). found_from (a + 1) xs are.1 n le (omega arith) passes holds (λ k l h. none k (omega arith) h))
    where
      by : (b : Bool) → (a == n) ≡ b → (a + 1 ≤ n → find p (filter q xs) ≡ Some n) → find p (filter q (x ∷ xs)) ≡ Some n
      by true e more =
          let own : x ≡ n = are.0 ∙ eqb-true a n e in
          takes x xs (ap q own ∙ passes) (ap p own ∙ holds) ∙ ap (λ (k : ℕ). Some k) own
      by false e more =
          let le : a + 1 ≤ n = above a n low e in
          skips x xs (λ h. ap p are.0 ∙ none a (omega arith) (omega arith) (ap q (sym are.0) ∙ h)) ∙ more le

  pub none_from : (a : ℕ) (xs : List ℕ) → AreFrom a xs → ((k : ℕ) → a ≤ k → k < a + length xs → q k ≡ true → p k ≡ false) → find p (filter q xs) ≡ None
  none_from a [] are none = refl
  none_from a (x ∷ xs) are none =
      skips x xs (λ h. ap p are.0 ∙ none a (omega arith) (omega arith) (ap q (sym are.0) ∙ h))
      ∙ none_from (a + 1) xs are.1 (λ k low high. none k (omega arith) (omega arith))

  -- where none is found, none passes
  pub missed_from : (a : ℕ) (xs : List ℕ) → AreFrom a xs → find p (filter q xs) ≡ None → (n : ℕ) → a ≤ n → n < a + length xs → q n ≡ true → p n ≡ false
  missed_from a [] are none n low high passes = absurd (omega arith)
  missed_from a (x ∷ xs) are none n low high passes =
      by (a == n) refl (p x) refl (λ (le : a + 1 ≤ n). missed_from (a + 1) xs are.1 (rest (q x) refl (p x) refl) n le (omega arith) passes)
    where
      rest : (b : Bool) → q x ≡ b → (c : Bool) → p x ≡ c → find p (filter q xs) ≡ None
      rest true g true f = absurd (some_none x (sym (takes x xs g f) ∙ none))
      rest true g false f = sym (skips x xs (λ h. f)) ∙ none
      rest false g c f = sym (skips x xs (λ h. absurd (both_ways (q x) g h))) ∙ none

      by : (b : Bool) → (a == n) ≡ b → (c : Bool) → p x ≡ c → (a + 1 ≤ n → p n ≡ false) → p n ≡ false
      by true e true f more =
          let own : x ≡ n = are.0 ∙ eqb-true a n e in
          absurd (some_none x (sym (takes x xs (ap q own ∙ passes) f) ∙ none))
      by true e false f more = ap p (sym (are.0 ∙ eqb-true a n e)) ∙ f
      by false e c f more = more (above a n low e)
