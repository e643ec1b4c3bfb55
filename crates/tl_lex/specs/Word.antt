-- The words of the grammar, which can't be names.
use Rattle.std.specs.Prelude.{ℕ, Bool, List, [], ◌∷◌, codes}
use Rattle.std.specs.List.{list_any}
use Rattle.std.specs.Str.{str_eq_ignore_ascii_case}

-- in the order of the alphabet
abbrev pub words : List (List ℕ)
words =
    codes "and" ∷ codes "as" ∷ codes "asc" ∷ codes "begin" ∷ codes "bool" ∷ codes "boolean" ∷ codes "by"
    ∷ codes "commit" ∷ codes "count" ∷ codes "create" ∷ codes "delete" ∷ codes "desc" ∷ codes "false" ∷ codes "from"
    ∷ codes "group" ∷ codes "index" ∷ codes "inner" ∷ codes "insert" ∷ codes "int" ∷ codes "integer" ∷ codes "into"
    ∷ codes "is" ∷ codes "join" ∷ codes "key" ∷ codes "limit" ∷ codes "max" ∷ codes "min" ∷ codes "not"
    ∷ codes "null" ∷ codes "on" ∷ codes "or" ∷ codes "order" ∷ codes "primary" ∷ codes "recover" ∷ codes "rollback"
    ∷ codes "select" ∷ codes "set" ∷ codes "sum" ∷ codes "table" ∷ codes "text" ∷ codes "true" ∷ codes "update"
    ∷ codes "values" ∷ codes "where" ∷ []

-- whether the name is one of these words, in any case
unfoldable pub is_word : List ℕ → Bool
is_word name = list_any (λ word. str_eq_ignore_ascii_case word name) words

-- whether it is one that is a literal
unfoldable pub is_literal_word : List ℕ → Bool
is_literal_word name =
    list_any (λ word. str_eq_ignore_ascii_case word name) (codes "true" ∷ codes "false" ∷ codes "null" ∷ [])
