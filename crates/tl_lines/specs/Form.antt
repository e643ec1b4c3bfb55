-- What a line may be, by how it begins.
use Rattle.std.specs.Prelude.{ℕ, ◌==◌, Bool, List, [], ◌∷◌, drop, codes, nat_eq, if◌then◌else◌}
use Rattle.std.specs.List.{prefix_len, starts_with}
use Rattle.tl_lines.specs.declared.form.Form.{Form}
use Rattle.tl_lines.specs.declared.form.Form.TheVariants.{Nothing, Directive, Statement}
use Rattle.tl_lines.specs.Fields.{is_blank}

-- what stands behind the blanks that the line begins with
abbrev pub unindented : List ℕ → List ℕ
unindented line = drop (prefix_len is_blank line) line

abbrev pub is_comment : List ℕ → Bool
is_comment line = starts_with nat_eq line (codes "--")

-- an `@` makes a directive
abbrev pub form_from : List ℕ → Form
form_from [] = Nothing
form_from (b ∷ bytes) = if b == 64 then Directive else if is_comment (b ∷ bytes) then Nothing else Statement

abbrev pub form_of : List ℕ → Form
form_of line = form_from (unindented line)
