-- A text has no more rows of values than bytes.
use Rattle.std.proofs.Common.{◌≡◌, ℕ, ◌+◌, ◌≤◌, List, [], ◌∷◌, length, Result, Ok, Err, refl, ap, subst, ◌∙◌, arith}
use Rattle.std.specs.Prelude.{IfOk}
use Rattle.tl_grammar.specs.declared.fault.Fault.{Fault}
use Rattle.tl_grammar.specs.declared.statement.Statement.{Statement}
use Rattle.tl_grammar.specs.Few.{tuple_count}
use Rattle.tl_grammar.specs.Grammar.{most_open, parsed}
use Rattle.tl_grammar.specs.Token.{Token}
use Rattle.tl_grammar.proofs.Few.{few_law}
use Rattle.tl_grammar.proofs.Theorem.{found_law}
use Rattle.tl_lex.specs.declared.fault.LexFault.{LexFault}
use Rattle.tl_lex.specs.declared.token.Token as lex
use Rattle.tl_lex.specs.Lexed.{lexed}
use Rattle.tl_lex.specs.Spans.{InOrder}
use Rattle.tl_parse.specs.declared.fault.ParseError.{ParseError}
use Rattle.tl_parse.specs.Read.{Answers, read_lexed, statement_of, with_place}
use Rattle.tl_tokens.specs.Tokens.{tokens_in}

-- no token is empty
few_tokens : (text : List ℕ) (from : ℕ) (tokens : List lex.Token) → InOrder text from tokens → from + length tokens ≤ length text
few_tokens text from [] h = omega (arith, h.0)
few_tokens text from (token ∷ tokens) h = omega (arith, h.0, h.2, few_tokens text token.end tokens h.3)

length-tokens_in : (text : List ℕ) (tokens : List lex.Token) → length (tokens_in text tokens) ≡ length tokens
length-tokens_in text [] = refl
length-tokens_in text (token ∷ tokens) = let e = length-tokens_in text tokens in omega (arith, e)

tokens_say_few : (end : ℕ) (ts : List Token) (r : Result Statement Fault) (x : Statement) → parsed ts ≡ r → with_place end ts r ≡ Ok x → tuple_count x ≤ length ts
tokens_say_few end ts (Ok y) x p h = let e : y ≡ x = cc in few_law most_open ts x (found_law most_open ts x (p ∙ ap (λ (s : Statement). Ok s) e))
tokens_say_few end ts (Err f) x p h = absurd (cc)

lexed_says_few : (text : List ℕ) (tokens : List lex.Token) (x : Statement) → InOrder text 0 tokens → read_lexed text (Ok tokens) ≡ Ok x → tuple_count x ≤ length text
lexed_says_few text tokens x order h =
    let few = tokens_say_few (length text) (tokens_in text tokens) (parsed (tokens_in text tokens)) x refl h in
    omega (arith, few, length-tokens_in text tokens, few_tokens text 0 tokens order)

pub few_answer : (text : List ℕ) (tokens : List lex.Token) (r : Result Statement ParseError) → InOrder text 0 tokens → lexed text ≡ Ok tokens → Answers r (statement_of text)
    → IfOk r (λ x. tuple_count x ≤ length text)
few_answer text tokens (Ok x) order e h =
    lexed_says_few text tokens x order (subst (λ (l : Result (List lex.Token) LexFault). read_lexed text l ≡ Ok x) e h)
few_answer text tokens (Err f) order e h = tt
