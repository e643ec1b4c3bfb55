-- Names: 1 to 31 lower-case letters that are no word of the grammar.
use Rattle.std.specs.Prelude.{ℕ, Bool, not, ◌&&◌, List, Option, length, drop, nat_lt, nat_le, if◌then◌else◌}
use Rattle.std.specs.declared.option.Option.TheVariants.{Some, None}
use Rattle.std.specs.Char.{is_ascii_lowercase}
use Rattle.std.specs.List.{take_while}
use Rattle.tl_script.specs.Words.{is_word}

-- the lower-case letters that the bytes begin with
abbrev pub letters_at : List ℕ → List ℕ
letters_at bytes = take_while is_ascii_lowercase bytes

-- whether a run of letters is a name
abbrev pub is_name : List ℕ → Bool
is_name letters = nat_lt 0 (length letters) && nat_le (length letters) 31 && not (is_word letters)

-- the name that the bytes begin with, and what stands after it
unfoldable pub name_at : List ℕ → Option (List ℕ × List ℕ)
name_at bytes =
    let letters = letters_at bytes in
    if is_name letters then Some (letters, drop (length letters) bytes) else None
