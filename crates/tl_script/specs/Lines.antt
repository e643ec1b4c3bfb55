-- The lines of a script, and the texts that they are made of.
use Rattle.std.specs.Prelude.{ℕ, ◌==◌, List, [], ◌∷◌, Option, length, drop, nat_eq, if◌then◌else◌}
use Rattle.std.specs.declared.option.Option.TheVariants.{Some, None}
use Rattle.std.specs.List.{onto_first, starts_with}

-- A line ends with its line feed or with the end of the bytes; a line feed that ends the bytes begins no further line.
abbrev pub lines_of : List ℕ → List (List ℕ)
lines_of [] = []
lines_of (b ∷ bytes) = if b == 10 then [] ∷ lines_of bytes else onto_first b (lines_of bytes)

-- what stands after the text, where the bytes begin with it
abbrev pub after_text : List ℕ → List ℕ → Option (List ℕ)
after_text text bytes = if starts_with nat_eq bytes text then Some (drop (length text) bytes) else None
