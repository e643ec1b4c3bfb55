-- The entry of a table that is spelled so.
use Rattle.std.specs.Prelude.{ℕ, List, Option, bytes_eq}
use Rattle.std.specs.Borrow.{Bor}
use Rattle.std.specs.List.{find}
use Rattle.std.specs.Str.{str_eq_ignore_ascii_case}
use Rattle.tl_grammar.specs.declared.token.Sign.{Sign}
use Rattle.tl_grammar.specs.declared.token.Word.{Word}

-- in any case
unfoldable pub word_entry : List (Bor (List ℕ) × Word) → List ℕ → Option (Bor (List ℕ) × Word)
word_entry words bytes = find (λ e. str_eq_ignore_ascii_case e.0.now bytes) words

unfoldable pub sign_entry : List (Bor (List ℕ) × Sign) → List ℕ → Option (Bor (List ℕ) × Sign)
sign_entry signs bytes = find (λ e. bytes_eq e.0.now bytes) signs
