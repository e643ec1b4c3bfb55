-- A claim gives one node at least.
use Rattle.std.proofs.Common.{◌≡◌, ℕ, ◌+◌, ◌≤◌, Bool, true, false, List, [], ◌∷◌, zero, suc, refl, sym, ap, ◌∙◌, arith}
use Rattle.std.specs.Prelude.{◌==◌, ◌||◌, ◌&&◌, nat_le, nat_lt, filter, if◌then◌else◌}
use Rattle.std.proofs.lemmas.Bool.{eqb-true}
use Rattle.std.proofs.lemmas.Bool.Decides.{nat_tests}
use Rattle.tl_base.specs.NodeSet.{has_node, with_node}
use Rattle.tl_base.specs.declared.node.NodeSet.{NodeSet}
use Rattle.tl_protocol.proofs.Held.{vanished_here}
use Rattle.tl_journal.specs.Node.{all_nodes, nodes_in}

abbrev is_in : ℕ → List ℕ → Bool
is_in d [] = false
is_in d (x ∷ xs) = x == d || is_in d xs

some_left : (p : ℕ → Bool) (d : ℕ) (xs : List ℕ) → is_in d xs ≡ true → p d ≡ true → (first : ℕ) × (later : List ℕ) × (filter p xs ≡ first ∷ later)
some_left p d [] h i = absurd cc
some_left p d (x ∷ xs) h i = by (p x) refl (λ g. some_left p d xs g i)
  where
    further : (e r : Bool) → e ≡ false → (e || r) ≡ true → r ≡ true
    further e r f h = grind arith

    clash : (b : Bool) → b ≡ true → b ≡ false → ⊥
    clash b f g = cc

    is_other : (b : Bool) → (x == d) ≡ b → p x ≡ false → (x == d) ≡ false
    is_other true f g = absurd (clash (p d) i (ap p (sym (eqb-true x d f)) ∙ g))
    is_other false f g = f

    by : (b : Bool) → p x ≡ b → (is_in d xs ≡ true → (first : ℕ) × (later : List ℕ) × (filter p xs ≡ first ∷ later))
        → (first : ℕ) × (later : List ℕ) × ((if b then x ∷ filter p xs else filter p xs) ≡ first ∷ later)
    by true f g = (x, filter p xs, refl)
    by false f g = g (further (x == d) (is_in d xs) (is_other (x == d) refl f) h)

abbrev count_from : ℕ → ℕ → List ℕ
count_from low zero = []
count_from low (suc more) = low ∷ count_from (low + 1) more

in_count : (low more d : ℕ) → is_in d (count_from low more) ≡ (nat_le low d && nat_lt d (low + more))
in_count low zero d = none low d
  where
    none : (low d : ℕ) → false ≡ (nat_le low d && nat_lt d (low + zero))
    none low d = grind (arith, nat_tests)
in_count low (suc more) d = next low more d (is_in d (count_from (low + 1) more)) (in_count (low + 1) more d)
  where
    next : (low more d : ℕ) (r : Bool) → r ≡ (nat_le (low + 1) d && nat_lt d (low + 1 + more)) → (low == d || r) ≡ (nat_le low d && nat_lt d (low + suc more))
    next low more d r e = grind (arith, nat_tests)

is_node : (d : ℕ) → 1 ≤ d → d ≤ 16 → is_in d all_nodes ≡ true
is_node d h i = in_count 1 16 d ∙ within d h i
  where
    within : (d : ℕ) → 1 ≤ d → d ≤ 16 → (nat_le 1 d && nat_lt d 17) ≡ true
    within d h i = grind (arith, nat_tests)

pub some_duty : (also : NodeSet) (gone : ℕ) → 1 ≤ gone → gone ≤ 16 → (first : ℕ) × (later : List ℕ) × (nodes_in (with_node also gone) ≡ first ∷ later)
some_duty also gone some few = some_left (has_node (with_node also gone)) gone all_nodes (is_node gone some few) (vanished_here also gone)
