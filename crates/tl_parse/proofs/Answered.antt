-- What reading tokens says of a text.
use Rattle.std.proofs.Common.{◌≡◌, ℕ, List, [], ◌∷◌, ◌≤◌, length, Result, Ok, Err, ap, subst, sym, refl, arith}
use Rattle.tl_grammar.specs.declared.fault.Fault.{Fault}
use Rattle.tl_grammar.specs.declared.fault.Fault.TheVariants as fault
use Rattle.tl_grammar.specs.declared.statement.Statement.{Statement}
use Rattle.tl_grammar.specs.declared.fault.Expected.TheVariants as want
use Rattle.tl_grammar.specs.Form as form
use Rattle.tl_grammar.specs.Form.{or_else, ◌>>=ᵣ◌}
use Rattle.tl_grammar.specs.Grammar.{ended, parsed}
use Rattle.tl_grammar.specs.Token.{Token}
use Rattle.tl_lex.specs.declared.fault.LexFault.{LexFault}
use Rattle.tl_lex.specs.declared.token.Token as lex
use Rattle.tl_lex.specs.Lexed as lexed
use Rattle.tl_parse.specs.declared.fault.ParseError.{ParseError}
use Rattle.tl_tokens.specs.declared.fault.Stop.{Stop}
use Rattle.tl_tokens.specs.declared.fault.Stop.TheVariants as stop
use Rattle.tl_parse.specs.Read.{Answers, read, read_lexed, statement_of, with_place}
use Rattle.tl_tokens.specs.declared.cursor.Cursor.{Cursor}
use Rattle.tl_tokens.specs.declared.lexeme.Lexeme.{Lexeme}
use Rattle.tl_tokens.specs.Lexemes.{tokens_of}
use Rattle.tl_tokens.specs.Seen.{Fails, seen}
use Rattle.tl_tokens.specs.Tokens.{tokens_in}

pub found_answers : (text : List ℕ) (tokens : List lex.Token) (x : Statement) (ts : List Token)
    → ts ≡ tokens_in text tokens → parsed ts ≡ Ok x → read text tokens ≡ Ok x
found_answers text tokens x ts t h =
    subst (λ (us : List Token). with_place (length text) us (parsed us) ≡ Ok x) t (ap (with_place (length text) ts) h)

pub read_answers : (text : List ℕ) (tokens : List lex.Token) (r : Result Statement ParseError)
    → lexed.lexed text ≡ Ok tokens → Answers r (read text tokens) → Answers r (statement_of text)
read_answers text tokens r e h = subst (λ (l : Result (List lex.Token) LexFault). Answers r (read_lexed text l)) (sym e) h

more_behind : (x : Statement) (at : form.Cursor) (ls : List Lexeme) → 1 ≤ length ls
    → ended x at (tokens_of ls) ≡ Err (fault.Parse (length at.rest) (or_else at.wanted want.End))
more_behind x at [] some = absurd (omega arith)
more_behind x at (l ∷ ls) some = refl

-- something stands behind a statement
pub not_ended : (x : Statement) (at : Cursor) (r : Result (Statement × form.Cursor) Fault) (s : Stop) → r ≡ Ok (x, seen at) → 1 ≤ length at.rest.now
    → s ≡ stop.Fault (fault.Parse (length (seen at).rest) (or_else at.wanted want.End)) → Fails s (r >>=ᵣ λ found. ended found.0 found.1 found.1.rest)
not_ended x at r s e some is = rw is (rw e (more_behind x (seen at) at.rest.now some))
