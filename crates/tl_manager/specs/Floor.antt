-- Which of two sets of finished transactions is the newer, and the low-water mark.
use Rattle.std.specs.Prelude.{◌≡◌, ◌⊎◌, true, List, [], ◌∷◌, fold, if◌then◌else◌}
use Rattle.std.specs.List.{AllByRecursion}
use Rattle.tl_descriptor.specs.Tids.{TidSet, begins}
use Rattle.tl_manager.specs.declared.active.Active.{Active}

-- the second set, where the first begins it
abbrev pub newer : TidSet → TidSet → TidSet
newer copy seen = if begins copy seen then seen else copy

-- a snapshot takes the place of a floor that it begins
abbrev pub lowered : TidSet → Active → TidSet
lowered floor transaction = if begins transaction.snapshot floor then transaction.snapshot else floor

-- the floor of a copy, and of the snapshots of those that are active
abbrev pub floor_of : TidSet → List Active → TidSet
floor_of = fold lowered

-- of any two sets one begins the other
abbrev pub IsChain : List TidSet → Type 0
IsChain [] = Unit {0}
IsChain (set ∷ sets) = AllByRecursion (λ other. (begins set other ≡ true) ⊎ (begins other set ≡ true)) sets × IsChain sets
