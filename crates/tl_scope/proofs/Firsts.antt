-- The least of some faults is the first of them.
use Rattle.std.proofs.Common.{◌≡◌, ℕ, ◌≤◌, inl, inr, Bool, true, false, List, [], ◌∷◌, ◌++◌, Option, Some, None, if◌then◌else◌, refl, sym, subst, arith}
use Rattle.std.specs.Prelude.{nat_lt}
use Rattle.std.specs.List.{AllByRecursion}
use Rattle.tl_scope.specs.declared.fault.BindFault.{BindFault}
use Rattle.tl_scope.specs.Statement.{IsFirst}
use Rattle.tl_scope.specs.Fault.{earlier, earliest, fault_if, least, weight}
use Rattle.tl_scope.specs.declared.fault.BindKind.{BindKind}

nothing_by : (f : BindFault) (fs : List BindFault) (o : Option BindFault) → earliest (Some f) o ≡ None → f ∷ fs ≡ []
nothing_by f fs None e = absurd cc
nothing_by f fs (Some g) e = absurd cc

pub least_nothing : (fs : List BindFault) → least fs ≡ None → fs ≡ []
least_nothing [] e = refl
least_nothing (f ∷ fs) e = nothing_by f fs (least fs) e

all_behind : (n m : ℕ) (fs : List BindFault) → n ≤ m → AllByRecursion (λ (g : BindFault). m ≤ weight g) fs → AllByRecursion (λ (g : BindFault). n ≤ weight g) fs
all_behind n m [] le h = tt
all_behind n m (f ∷ fs) le h = (omega (arith, le, h.0), all_behind n m fs le h.1)

first_of_two : (g h : BindFault) (gs : List BindFault) (b : Bool) → nat_lt (weight h) (weight g) ≡ b → IsFirst h gs → IsFirst (if b then h else g) (g ∷ gs)
first_of_two g h gs true lt first = record { is = inr first.is; first = (grind (arith, lt), first.first) }
first_of_two g h gs false lt first =
    let le : weight g ≤ weight h = grind (arith, lt) in
    record { is = inl refl; first = (omega arith, all_behind (weight g) (weight h) gs le first.first) }

pub only_first : (f : BindFault) → IsFirst f (f ∷ [])
only_first f = record { is = inl refl; first = (omega arith, tt) }

first_by : (f g : BindFault) (gs : List BindFault) (o : Option BindFault) → least gs ≡ o → ((h : BindFault) → o ≡ Some h → IsFirst h gs) → earliest (Some g) o ≡ Some f → IsFirst f (g ∷ gs)
first_by f g gs None none go e =
    let is : g ≡ f = cc in
    subst (λ (x : BindFault). IsFirst x (g ∷ gs)) is (subst (λ (l : List BindFault). IsFirst g (g ∷ l)) (sym (least_nothing gs none)) (only_first g))
first_by f g gs (Some h) some go e =
    let is : earlier g h ≡ f = cc in
    subst (λ (x : BindFault). IsFirst x (g ∷ gs)) is (first_of_two g h gs (nat_lt (weight h) (weight g)) refl (go h refl))

pub least_first : (fs : List BindFault) (f : BindFault) → least fs ≡ Some f → IsFirst f fs
least_first [] f e = absurd cc
least_first (g ∷ gs) f e = first_by f g gs (least gs) refl (λ h is. least_first gs h is) e

pub both_empty : {A : Type 0} (xs ys : List A) → xs ++ ys ≡ [] → (xs ≡ []) × (ys ≡ [])
both_empty [] ys e = (refl, e)
both_empty (x ∷ xs) ys e = absurd cc

pub no_fault : (b : Bool) (at : ℕ) (k : BindKind) → fault_if b at k ≡ [] → b ≡ false
no_fault false at k e = refl
no_fault true at k e = absurd cc
