-- What a function gives of each, in the order in which the code collects it.
use Rattle.std.proofs.Common.{◌≡◌, Option, None, Some, List, [], ◌∷◌, ◌++◌, refl, ap, sym, append_assoc, append-nil}
use Rattle.tl_algebra.specs.declared.fault.ValueFault.{ValueFault}
use Rattle.tl_algebra.specs.declared.fault.ValueFault.TheVariants as fault
use Rattle.tl_algebra.specs.Value.{Fails}
use Rattle.tl_algebra.specs.Select.{before}

-- what is collected and what follows
abbrev pub following : {A : Type 0} → List A → Option (List A) → Option (List A)
following xs None = None
following xs (Some ys) = Some (xs ++ ys)

pub following_one : {A : Type 0} (xs : List A) (y : A) (ys : Option (List A)) → following xs (before (Some y) ys) ≡ following (xs ++ y ∷ []) ys
following_one xs y None = refl
following_one xs y (Some ys) = ap (λ (zs : List _). Some zs) (sym (append_assoc xs (y ∷ []) ys))

pub following_none : {A : Type 0} (xs : List A) → following xs (Some []) ≡ Some xs
following_none xs = ap (λ (zs : List _). Some zs) (append-nil xs)

-- where one fails, all fail
pub following_fault : {A : Type 0} (e : ValueFault) (xs : List A) (y : Option A) (ys : Option (List A)) → Fails e y → Fails e (following xs (before y ys))
following_fault fault.Overflow xs None ys h = refl
following_fault fault.Overflow xs (Some y) ys h = absurd cc
following_fault fault.NoMemory xs y ys h = tt
