-- The fields of a directive: what stands between its blanks.
use Rattle.std.specs.Prelude.{ℕ, ◌==◌, Bool, not, ◌||◌, List, [], ◌∷◌, filter, if◌then◌else◌}
use Rattle.std.specs.List.{onto_first}
use Rattle.tl_lines.specs.Number.{is_empty}

-- a space or a tab
abbrev pub is_blank : ℕ → Bool
is_blank byte = byte == 32 || byte == 9

-- what stands before the first blank, between two blanks and behind the last one
abbrev pub pieces_of : List ℕ → List (List ℕ)
pieces_of [] = []
pieces_of (b ∷ bytes) = if is_blank b then [] ∷ pieces_of bytes else onto_first b (pieces_of bytes)

-- the pieces that aren't empty
abbrev pub fields_of : List ℕ → List (List ℕ)
fields_of bytes = filter (λ piece. not (is_empty piece)) (pieces_of bytes)
