-- The numbers that a manager has to give, as ranges of them.
use Rattle.std.specs.Prelude.{ℕ, zero, suc, ◌+◌, ◌-◌, nat_lt, nat_le, Bool, List, [], ◌∷◌, ◌++◌, Option, Some, None, option_to_list, if◌then◌else◌}
use Rattle.tl_descriptor.specs.declared.run.Run.{Run}

-- so many numbers, from this one on
abbrev pub numbers_from : ℕ → ℕ → List ℕ
numbers_from low zero = []
numbers_from low (suc count) = low ∷ numbers_from (suc low) count

abbrev pub numbers_of : Run → List ℕ
numbers_of run = numbers_from run.low (suc run.high - run.low)

abbrev pub has_number : Run → Bool
has_number run = nat_le run.low run.high

-- a range, where it has a number
abbrev pub range_of : ℕ → ℕ → List Run
range_of low high = if nat_le low high then record { low = low; high = high } ∷ [] else []

-- the lowest number of the first range
abbrev pub first_number : List Run → Option ℕ
first_number [] = None
first_number (run ∷ runs) = Some run.low

-- the numbers of a range after the first
abbrev pub after_first : Run → Option Run
after_first run = if nat_lt run.low run.high then Some (record { low = run.low + 1; high = run.high }) else None

-- the ranges without the lowest number of the first
abbrev pub drawn : List Run → List Run
drawn [] = []
drawn (run ∷ runs) = option_to_list (after_first run) ++ runs
