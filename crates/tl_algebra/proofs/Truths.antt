-- AND and OR of several, one after the other.
use Rattle.std.proofs.Common.{◌≡◌, refl}
use Rattle.tl_values.specs.declared.value.Truth.{Truth}
use Rattle.tl_values.specs.declared.value.Truth.TheVariants.{False, Unknown, True}
use Rattle.tl_algebra.specs.Truth.{greater, lesser}

pub lesser_assoc : (a b c : Truth) → lesser (lesser a b) c ≡ lesser a (lesser b c)
lesser_assoc False b c = refl
lesser_assoc Unknown False c = refl
lesser_assoc Unknown Unknown False = refl
lesser_assoc Unknown Unknown Unknown = refl
lesser_assoc Unknown Unknown True = refl
lesser_assoc Unknown True c = refl
lesser_assoc True b c = refl

pub greater_assoc : (a b c : Truth) → greater (greater a b) c ≡ greater a (greater b c)
greater_assoc False b c = refl
greater_assoc Unknown False c = refl
greater_assoc Unknown Unknown False = refl
greater_assoc Unknown Unknown Unknown = refl
greater_assoc Unknown Unknown True = refl
greater_assoc Unknown True c = refl
greater_assoc True b c = refl

pub lesser_true : (a : Truth) → lesser a True ≡ a
lesser_true False = refl
lesser_true Unknown = refl
lesser_true True = refl

pub greater_false : (a : Truth) → greater a False ≡ a
greater_false False = refl
greater_false Unknown = refl
greater_false True = refl
