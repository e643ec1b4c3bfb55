-- One row more, in its group or a new one.
use Rattle.std.proofs.Common.{◌≡◌, ℕ, zero, suc, Bool, true, false, ◌<◌, ◌≤◌, cond, nat_lt, List, [], ◌∷◌, ◌++◌, length, get_or, set, Some, None, refl, ap, sym, ◌∙◌, arith}
use Rattle.std.specs.List.{position, position_or_len}
use Rattle.std.proofs.lemmas.Bool.Decides.{nat_tests}
use Rattle.std.proofs.lemmas.List.Quantifiers.{position-Some}
use Rattle.std.proofs.lemmas.List.Sums.{fails_before_first}
use Rattle.tl_values.specs.declared.value.Value.{Value}
use Rattle.tl_values.specs.Value.{values_at}
use Rattle.tl_algebra.specs.declared.group.Group.{Group}
use Rattle.tl_algebra.specs.Group.{grouped, groups_by, same_row}
use Rattle.tl_algebra.specs.Steps.{added}

-- with GROUP BY
pub by_places : (places : List ℕ) (aggregates : Bool) (rows : List (List Value)) → (places ≡ [] → ⊥) → groups_by places aggregates rows ≡ grouped places rows
by_places [] aggregates rows h = absurd (h refl)
by_places (place ∷ places) aggregates rows h = refl

pub either : {P : Type 0} (b : Bool) → (b ≡ true → P) → (b ≡ false → P) → P
either true f g = f refl
either false f g = g refl

pub picked : {A : Type 0} (b : Bool) (x y : A) → b ≡ true → cond b x y ≡ x
picked true x y e = refl
picked false x y e = absurd cc

pub passed_by : {A : Type 0} (b : Bool) (x y : A) → b ≡ false → cond b x y ≡ y
passed_by true x y e = absurd cc
passed_by false x y e = refl

-- ---- one row more, as the code adds it

abbrev pub with_row : List Value → Group → Group
with_row row group = record { values = group.values; rows = group.rows ++ row ∷ [] }

abbrev has : List ℕ → List Value → Group → Bool
has places row group = same_row group.values (values_at places row)

found : (places : List ℕ) (row : List Value) (groups : List Group) (at : ℕ) (d : Group) → at < length groups → has places row (get_or groups at d) ≡ true →
    ((k : ℕ) → k < at → has places row (get_or groups k d) ≡ false) → set groups at (with_row row (get_or groups at d)) ≡ added places row groups
found places row [] at d h t before = absurd (omega arith)
found places row (group ∷ groups) zero d h t before = sym (picked (has places row group) _ _ t)
found places row (group ∷ groups) (suc at) d h t before =
    ap (λ (gs : List Group). group ∷ gs) (found places row groups at d (omega arith) t (λ k l. before (suc k) (omega arith)))
    ∙ sym (passed_by (has places row group) _ _ (before 0 (omega arith)))

abbrev pub new : List ℕ → List Value → Group
new places row = record { values = values_at places row; rows = row ∷ [] }

not_found : (places : List ℕ) (row : List Value) (groups : List Group) (d : Group) → ((k : ℕ) → k < length groups → has places row (get_or groups k d) ≡ false) →
    groups ++ new places row ∷ [] ≡ added places row groups
not_found places row [] d none = refl
not_found places row (group ∷ groups) d none =
    ap (λ (gs : List Group). group ∷ gs) (not_found places row groups d (λ k l. none (suc k) (omega arith)))
    ∙ sym (passed_by (has places row group) _ _ (none 0 (omega arith)))

past : (m n : ℕ) → cond (nat_lt m n) (Some m) None ≡ None → n ≤ m
past m n e = grind (arith, nat_tests)

pub added_at : (places : List ℕ) (row : List Value) (groups : List Group) (at : ℕ) (group : Group) (rows : List (List Value)) →
    position (λ (g : Group). same_row g.values (values_at places row)) groups ≡ Some at → group ≡ get_or groups at group → rows ≡ group.rows ++ row ∷ [] →
    set groups at (record { values = group.values; rows = rows }) ≡ added places row groups
added_at places row groups at group rows p e r =
    let s = position-Some (has places row) groups at group p in
    ap (λ (rs : List (List Value)). set groups at (record { values = group.values; rows = rs })) r
    ∙ ap (λ (g : Group). set groups at (with_row row g)) e
    ∙ found places row groups at group s.0 s.1 s.2

pub added_new : (places : List ℕ) (row : List Value) (groups : List Group) →
    position (λ (g : Group). same_row g.values (values_at places row)) groups ≡ None →
    groups ++ record { values = values_at places row; rows = row ∷ [] } ∷ [] ≡ added places row groups
added_new places row groups p =
    not_found places row groups (new places row) (λ k l. fails_before_first (has places row) groups k (new places row) (omega (arith, past (position_or_len (has places row) groups) (length groups) p)))
