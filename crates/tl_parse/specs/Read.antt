-- The statement of a text, or its first fault.
use Rattle.std.specs.Prelude.{◌≡◌, ℕ, List, length, Result, Ok, Err}
use Rattle.tl_grammar.specs.declared.fault.Fault.{Fault}
use Rattle.tl_grammar.specs.declared.fault.Fault.TheVariants as fault
use Rattle.tl_grammar.specs.declared.statement.Statement.{Statement}
use Rattle.tl_grammar.specs.Grammar.{fault_place, parsed}
use Rattle.tl_grammar.specs.Token.{Token}
use Rattle.tl_lex.specs.declared.fault.LexError.{LexError}
use Rattle.tl_lex.specs.declared.fault.LexError.TheVariants as lexer
use Rattle.tl_lex.specs.declared.fault.LexFault.{LexFault}
use Rattle.tl_lex.specs.declared.token.Token as lex
use Rattle.tl_lex.specs.Lexed.{lexed}
use Rattle.tl_parse.specs.declared.fault.ParseError.{ParseError}
use Rattle.tl_parse.specs.declared.fault.ParseError.TheVariants as error
use Rattle.tl_tokens.specs.declared.fault.Stop.{Stop}
use Rattle.tl_tokens.specs.declared.fault.Stop.TheVariants as stop
use Rattle.tl_tokens.specs.Tokens.{tokens_in}

abbrev pub lex_error : LexError → ParseError
lex_error (lexer.Fault f) = error.Lex f
lex_error lexer.NoMemory = error.NoMemory

-- a fault with its place in a text of this length
abbrev pub placed : ℕ → List Token → Fault → ParseError
placed end ts (fault.Parse left e) = error.Parse (record { at = fault_place end ts left; expected = e })
placed end ts (fault.Deep left) = error.Deep (fault_place end ts left)

-- the same of a stop
abbrev pub stopped : ℕ → List Token → Stop → ParseError
stopped end ts (stop.Fault f) = placed end ts f
stopped end ts stop.NoMemory = error.NoMemory

abbrev pub with_place : ℕ → List Token → Result Statement Fault → Result Statement ParseError
with_place end ts (Ok x) = Ok x
with_place end ts (Err f) = Err (placed end ts f)

-- what these tokens of the text say
abbrev pub read : List ℕ → List lex.Token → Result Statement ParseError
read text tokens = with_place (length text) (tokens_in text tokens) (parsed (tokens_in text tokens))

abbrev pub read_lexed : List ℕ → Result (List lex.Token) LexFault → Result Statement ParseError
read_lexed text (Ok tokens) = read text tokens
read_lexed text (Err f) = Err (error.Lex f)

-- what the text says: a fault of the lexer comes first
abbrev pub statement_of : List ℕ → Result Statement ParseError
statement_of text = read_lexed text (lexed text)

-- want of memory says nothing of the text
abbrev pub Answers : Result Statement ParseError → Result Statement ParseError → Type 0
Answers (Ok x) read = read ≡ Ok x
Answers (Err error.NoMemory) read = Unit {0}
Answers (Err (error.Lex f)) read = read ≡ Err (error.Lex f)
Answers (Err (error.Parse f)) read = read ≡ Err (error.Parse f)
Answers (Err (error.Deep at)) read = read ≡ Err (error.Deep at)
