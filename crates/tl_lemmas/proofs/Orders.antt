-- How two things compare.
use Rattle.std.proofs.Common.{◌≡◌, Bool, true, false, Ordering, Less, Equal, Greater, refl}
use Rattle.std.specs.Ordering.{is_eq, is_lt, ordering_reverse}

pub less_is : (o : Ordering) → is_lt o ≡ true → o ≡ Less
less_is Less e = refl
less_is Equal e = absurd cc
less_is Greater e = absurd cc

pub equal_is : (o : Ordering) → is_eq o ≡ true → o ≡ Equal
equal_is Less e = absurd cc
equal_is Equal e = refl
equal_is Greater e = absurd cc

pub less_differs : (o : Ordering) → is_lt o ≡ true → is_eq o ≡ false
less_differs Less e = refl
less_differs Equal e = absurd cc
less_differs Greater e = absurd cc

pub equal_turned : (o : Ordering) → is_eq (ordering_reverse o) ≡ is_eq o
equal_turned Less = refl
equal_turned Equal = refl
equal_turned Greater = refl

-- what compares with itself the same from both sides
pub equal_itself : (o : Ordering) → o ≡ ordering_reverse o → is_eq o ≡ true
equal_itself Less e = absurd cc
equal_itself Equal e = refl
equal_itself Greater e = absurd cc
