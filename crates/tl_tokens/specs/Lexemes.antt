-- The lexemes of a text, as the tokens of the grammar.
use Rattle.std.specs.Prelude.{ℕ, ◌==◌, Bool, true, false, List, [], ◌∷◌, if◌then◌else◌}
use Rattle.std.specs.Str.{str_to_ascii_lowercase}
use Rattle.tl_grammar.specs.Token.{Kind, Token}
use Rattle.tl_grammar.specs.Token as kind
use Rattle.tl_tokens.specs.declared.lexeme.Lexeme.{Lexeme}
use Rattle.tl_tokens.specs.declared.lexeme.LexemeKind.{LexemeKind}
use Rattle.tl_tokens.specs.declared.lexeme.LexemeKind.TheVariants as lexeme

-- of two quotes one
abbrev pub without_doubles : List ℕ → Bool → List ℕ
without_doubles [] after_quote = []
without_doubles (b ∷ bytes) true = if b == 39 then without_doubles bytes false else b ∷ without_doubles bytes false
without_doubles (b ∷ bytes) false = b ∷ without_doubles bytes (b == 39)

-- behind a quote, with nothing between them, stands a second one
abbrev pub is_second : Bool → List ℕ → Bool
is_second after_quote [] = after_quote
is_second after_quote (b ∷ bytes) = false

abbrev pub quote_unless : Bool → List ℕ
quote_unless true = []
quote_unless false = 39 ∷ []

abbrev pub kind_of : LexemeKind → Kind
kind_of (lexeme.Word w) = kind.Word w
kind_of (lexeme.Name written) = kind.Name (str_to_ascii_lowercase written.now)
kind_of (lexeme.Number n) = kind.Number n
kind_of (lexeme.Text quoted) = kind.Text (without_doubles quoted.now false)
kind_of (lexeme.Sign s) = kind.Sign s
kind_of lexeme.Other = kind.Other

abbrev pub token_of : Lexeme → Token
token_of l = record { kind = kind_of l.kind; start = l.start }

abbrev pub tokens_of : List Lexeme → List Token
tokens_of [] = []
tokens_of (l ∷ ls) = token_of l ∷ tokens_of ls
