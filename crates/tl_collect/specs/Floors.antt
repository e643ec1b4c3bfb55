-- Of low-water marks the least.
use Rattle.std.specs.Prelude.{◌≡◌, ◌<◌, ℕ, List, [], ◌∷◌, Some, fold, if◌then◌else◌, length, slice_get}
use Rattle.tl_descriptor.specs.Tids.{TidSet, begins}
use Rattle.tl_manager.specs.State.{opening_copy}

-- a mark takes the place of the least so far where it begins it
abbrev pub lower : TidSet → TidSet → TidSet
lower least mark = if begins mark least then mark else least

-- the least of the first mark and those after it; of no marks that of a manager which has seen nothing
abbrev pub least_of : List TidSet → TidSet
least_of [] = opening_copy
least_of (mark ∷ marks) = fold lower mark marks

-- the set stands among the marks
abbrev pub StandsIn : List TidSet → TidSet → Type 0
StandsIn marks set = (j : ℕ) × (j < length marks) × (slice_get marks j ≡ Some set)
