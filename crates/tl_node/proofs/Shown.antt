-- What is handed out of a request.
use Rattle.std.proofs.Common.{◌≡◌, Option, Some, None, sym, subst}
use Rattle.std.specs.Prelude.{MatchOption}
use Rattle.std.specs.Option.{option_map}

pub shown_by : {A B : Type 0} (r : Option A) (x : Option B) (f : A → B) → option_map f r ≡ x → MatchOption r (x ≡ None) (λ a. x ≡ Some (f a))
shown_by None x f e = sym e
shown_by (Some a) x f e = sym e

-- what is shown of a part is shown of the whole
pub shown_as : {A B : Type 0} (r : Option A) (x y : Option B) (f : A → B) → x ≡ y → MatchOption r (x ≡ None) (λ a. x ≡ Some (f a))
    → MatchOption r (y ≡ None) (λ a. y ≡ Some (f a))
shown_as {A} {B} r x y f e h = subst (λ (z : Option B). MatchOption r (z ≡ None) (λ a. z ≡ Some (f a))) e h
