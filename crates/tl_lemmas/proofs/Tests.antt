-- Truth values.
use Rattle.std.proofs.Common.{◌≡◌, Bool, true, false, ◌&&◌, ◌||◌, not, T, refl}

pub and_first : (x y : Bool) → (x && y) ≡ true → x ≡ true
and_first true y e = refl
and_first false y e = e

pub and_second : (x y : Bool) → (x && y) ≡ true → y ≡ true
and_second true y e = e
and_second false y e = absurd cc

-- neither of the two
pub or_first : (x y : Bool) → (x || y) ≡ false → x ≡ false
or_first true y e = e
or_first false y e = refl

pub or_second : (x y : Bool) → (x || y) ≡ false → y ≡ false
or_second true y e = absurd cc
or_second false y e = e

pub or_without : (x y : Bool) → y ≡ false → (x || y) ≡ x
or_without true y e = refl
or_without false y e = e

pub and_not : (x y : Bool) → x ≡ true → y ≡ false → (x && not y) ≡ true
and_not true true e f = absurd cc
and_not true false e f = refl
and_not false y e f = absurd cc

pub never_both : (x : Bool) → x ≡ true → x ≡ false → ⊥
never_both x e f = absurd cc

pub holds : (x : Bool) → x ≡ true → T x
holds true e = tt
holds false e = absurd cc

pub held : (x : Bool) → T x → x ≡ true
held true h = refl
held false h = absurd h
