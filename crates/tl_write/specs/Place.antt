-- What is true of an item, where there is one.
use Rattle.std.specs.Prelude.{Bool, false, Option, Some, None}

abbrev pub holds : {A : Type 0} → (A → Bool) → Option A → Bool
holds p None = false
holds p (Some x) = p x
