-- The lines of a script.
use Rattle.std.specs.Prelude.{ℕ, ◌==◌, Bool, false, ◌&&◌, List, [], ◌∷◌, if◌then◌else◌}
use Rattle.std.specs.List.{onto_first}

-- a carriage return with a line feed behind it
abbrev pub is_return : ℕ → List ℕ → Bool
is_return b [] = false
is_return b (next ∷ bytes) = b == 13 && next == 10

-- A line ends with its line feed, with or without a carriage return before it, or with the end of the bytes; a line feed that ends the bytes begins no further
-- line.
abbrev pub lines_of : List ℕ → List (List ℕ)
lines_of [] = []
lines_of (b ∷ bytes) =
    if b == 10 then [] ∷ lines_of bytes
    else if is_return b bytes then lines_of bytes
    else onto_first b (lines_of bytes)

-- the line without the carriage return at its end
abbrev pub without_return : List ℕ → List ℕ
without_return [] = []
without_return (b ∷ []) = if b == 13 then [] else b ∷ []
without_return (b ∷ c ∷ bytes) = b ∷ without_return (c ∷ bytes)
