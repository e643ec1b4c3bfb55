-- Names that are told apart have places that are.
use Rattle.std.proofs.Common.{◌≡◌, ℕ, ◌==◌, Bool, true, false, List, [], ◌∷◌, map, slice_get, Option, Some, refl, sym, ap, ◌∙◌}
use Rattle.std.specs.Cmp.Lexicographic.{bytes_decides}
use Rattle.std.specs.List.{AllByRecursion}
use Rattle.std.proofs.lemmas.Bool.{both_ways, eqb-true}
use Rattle.tl_lemmas.proofs.Lists.{all_both, all_map, none_any, weaker}
use Rattle.tl_lemmas.proofs.Tests.{or_first, or_second}
use Rattle.tl_grammar.specs.declared.name.Name.{Name}
use Rattle.tl_scope.specs.declared.fault.BindKind.TheVariants as kind
use Rattle.tl_scope.specs.Fault.{fault_if}
use Rattle.tl_scope.specs.Named.{is_among, repeated_after}
use Rattle.tl_scope.specs.Scope.{same}
use Rattle.tl_scope.proofs.Firsts.{both_empty, no_fault}
use Rattle.tl_journal.specs.Binding.{EachOnce}
use Rattle.tl_fits.proofs.Lists.{all_unmap}

pub same_is : (a b : List ℕ) → same a b ≡ true → a ≡ b
same_is a b e = (bytes_decides a b).0 e

pub same_self : (a b : List ℕ) → a ≡ b → same a b ≡ true
same_self a b e = (bytes_decides a b).1 e

-- one place has one name
pub place_once : {X : Type 0} (text : X → List ℕ) (xs : List X) (i : ℕ) (n m : List ℕ) → (x : X) × (slice_get xs i ≡ Some x) × (same (text x) n ≡ true) → (x : X) × (slice_get xs i ≡ Some x) × (same (text x) m ≡ true) → n ≡ m
place_once text xs i n m h k =
    let s : ◌≡◌ {A = Option _} (Some h.0) (Some k.0) = sym h.1 ∙ k.1 in
    let is : h.0 ≡ k.0 = cc in
    sym (same_is (text h.0) n h.2) ∙ ap text is ∙ same_is (text k.0) m k.2

-- names without a repeated one are none of those before
none_before : (before : List (List ℕ)) (ns : List Name) → repeated_after before ns ≡ [] → AllByRecursion (λ (n : Name). is_among before n.text ≡ false) ns
none_before before [] e = tt
none_before before (n ∷ ns) e =
    let parts = both_empty (fault_if (is_among before n.text) n.at kind.Twice) (repeated_after (n.text ∷ before) ns) e in (
      no_fault (is_among before n.text) n.at kind.Twice parts.0,
      weaker (λ (m : Name). is_among (n.text ∷ before) m.text ≡ false) (λ (m : Name). is_among before m.text ≡ false) (λ m h. or_second (same m.text n.text) (is_among before m.text) h) ns
          (none_before (n.text ∷ before) ns parts.1),
    )

apart : (b : Bool) (m n : ℕ) → (m == n) ≡ b → (m ≡ n → ⊥) → b ≡ false
apart true m n e h = absurd (h (eqb-true m n e))
apart false m n e h = refl

module _ {A B : Type 0} (text : A → Name) (g : A → B) (number : B → ℕ) (given : A → Type 0)
    (tells : (a b : A) → given a → given b → number (g a) ≡ number (g b) → (text a).text ≡ (text b).text) where
  unlike : (x y : A) (before : List (List ℕ)) → given x → given y × (is_among ((text x).text ∷ before) (text y).text ≡ false) → (number (g x) == number (g y)) ≡ false
  unlike x y before here h =
      apart (number (g x) == number (g y)) (number (g x)) (number (g y)) refl
      (λ e. both_ways (same (text y).text (text x).text) (or_first (same (text y).text (text x).text) (is_among before (text y).text) h.1) (same_self (text y).text (text x).text (sym (tells x y here h.0 e))))

  pub each_once : (before : List (List ℕ)) (xs : List A) → repeated_after before (map text xs) ≡ [] → AllByRecursion given xs → EachOnce number (map g xs)
  each_once before [] e h = tt
  each_once before (x ∷ xs) e h =
      let n = text x in
      let parts = both_empty (fault_if (is_among before n.text) n.at kind.Twice) (repeated_after (n.text ∷ before) (map text xs)) e in
      let others = all_unmap (λ (m : Name). is_among (n.text ∷ before) m.text ≡ false) text xs (none_before (n.text ∷ before) (map text xs) parts.1) in
      let told = all_both given (λ y. is_among (n.text ∷ before) (text y).text ≡ false) xs h.1 others in (
        none_any (λ y. number (g x) == number y) (map g xs)
            (all_map (λ y. given y × (is_among (n.text ∷ before) (text y).text ≡ false)) (λ y. (number (g x) == number y) ≡ false) g (λ y both. unlike x y before h.0 both) xs told),
        each_once (n.text ∷ before) xs parts.1 h.1,
      )
