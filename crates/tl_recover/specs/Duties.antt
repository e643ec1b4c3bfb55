-- The first of the duties that are left.
use Rattle.std.specs.Prelude.{ℕ, List, [], ◌∷◌, Option, Some, None}

abbrev pub first_of : List ℕ → Option ℕ
first_of [] = None
first_of (node ∷ later) = Some node
