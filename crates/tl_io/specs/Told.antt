-- The bytes that a source has left and a sink holds, where they are told.
use Rattle.std.specs.Prelude.{◌≡◌, ℕ, List, Option, [], ◌++◌, None, Some, IfSome, length, take, ◌<◌, ◌≤◌}

-- these bytes, and then those that are told
abbrev pub prepend : List ℕ → Option (List ℕ) → Option (List ℕ)
prepend bytes None = None
prepend bytes (Some told) = Some (bytes ++ told)

-- those that are told, and then these bytes
abbrev pub append : Option (List ℕ) → List ℕ → Option (List ℕ)
append None bytes = None
append (Some told) bytes = Some (told ++ bytes)

-- so many bytes went from the front
pub record Loses (count : ℕ) (old new : Option (List ℕ)) : Type 0 where
  pub front : List ℕ
  pub count_is : length front ≡ count
  pub lost : old ≡ prepend front new

-- some bytes went from the front, and no more than so many
pub record LosesUpTo (most : ℕ) (old new : Option (List ℕ)) : Type 0 where
  pub front : List ℕ
  pub within : length front ≤ most
  pub lost : old ≡ prepend front new

-- some of these bytes were taken, from their start, and not all of them
pub record GainsPart (bytes : List ℕ) (old new : Option (List ℕ)) : Type 0 where
  pub count : ℕ
  pub fewer : count < length bytes
  pub gained : new ≡ append old (take count bytes)

-- no byte is left, where it is told
abbrev pub IsAtEnd : Option (List ℕ) → Type 0
IsAtEnd left = IfSome left (λ bytes. bytes ≡ [])
