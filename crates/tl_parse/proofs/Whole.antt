-- What a text says is whole.
use Rattle.std.proofs.Common.{◌≡◌, ℕ, List, length, Result, Ok, Err, refl, ap, ◌∙◌}
use Rattle.std.specs.Prelude.{IfOk}
use Rattle.tl_grammar.specs.declared.fault.Fault.{Fault}
use Rattle.tl_grammar.specs.declared.statement.Statement.{Statement}
use Rattle.tl_grammar.specs.Grammar.{most_open, parsed}
use Rattle.tl_grammar.specs.Token.{Token}
use Rattle.tl_grammar.specs.Whole.{IsWhole}
use Rattle.tl_grammar.proofs.Theorem.{found_law}
use Rattle.tl_grammar.proofs.Whole.{whole_law}
use Rattle.tl_lex.specs.declared.fault.LexFault.{LexFault}
use Rattle.tl_lex.specs.declared.token.Token as lex
use Rattle.tl_lex.specs.Lexed.{lexed}
use Rattle.tl_parse.specs.declared.fault.ParseError.{ParseError}
use Rattle.tl_parse.specs.Read.{Answers, read_lexed, statement_of, with_place}
use Rattle.tl_tokens.specs.Tokens.{tokens_in}

tokens_say_whole : (end : ℕ) (ts : List Token) (r : Result Statement Fault) (x : Statement) → parsed ts ≡ r → with_place end ts r ≡ Ok x → IsWhole x
tokens_say_whole end ts (Ok y) x p h = let e : y ≡ x = cc in whole_law most_open ts x (found_law most_open ts x (p ∙ ap (λ (s : Statement). Ok s) e))
tokens_say_whole end ts (Err f) x p h = absurd (cc)

lexed_says_whole : (text : List ℕ) (l : Result (List lex.Token) LexFault) (x : Statement) → read_lexed text l ≡ Ok x → IsWhole x
lexed_says_whole text (Ok tokens) x h = tokens_say_whole (length text) (tokens_in text tokens) (parsed (tokens_in text tokens)) x refl h
lexed_says_whole text (Err f) x h = absurd (cc)

pub whole_answer : (text : List ℕ) (r : Result Statement ParseError) → Answers r (statement_of text) → IfOk r (λ x. IsWhole x)
whole_answer text (Ok x) h = lexed_says_whole text (lexed text) x h
whole_answer text (Err e) h = tt
