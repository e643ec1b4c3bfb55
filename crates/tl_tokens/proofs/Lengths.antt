-- How many tokens lexemes are.
use Rattle.std.proofs.Common.{◌≡◌, ℕ, suc, List, [], ◌∷◌, length, drop, zero, ◌++◌, refl, sym, ap, ◌∙◌}
use Rattle.tl_grammar.specs.Token.{Token}
use Rattle.tl_lex.specs.declared.token.Token as lexer
use Rattle.tl_tokens.specs.declared.lexeme.Lexeme.{Lexeme}
use Rattle.tl_tokens.specs.Lexemes.{token_of, tokens_of}
use Rattle.tl_tokens.specs.Tokens.{token_in, tokens_in}

pub length-tokens : (ls : List Lexeme) → length (tokens_of ls) ≡ length ls
length-tokens [] = refl
length-tokens (l ∷ ls) = ap (λ (n : ℕ). suc n) (length-tokens ls)

pub drop-tokens : (n : ℕ) (ls : List Lexeme) → drop n (tokens_of ls) ≡ tokens_of (drop n ls)
drop-tokens zero ls = refl
drop-tokens (suc n) [] = refl
drop-tokens (suc n) (l ∷ ls) = drop-tokens n ls

pub tokens-append : (xs : List Lexeme) (l : Lexeme) → tokens_of (xs ++ l ∷ []) ≡ tokens_of xs ++ token_of l ∷ []
tokens-append [] l = refl
tokens-append (x ∷ xs) l = ap (λ (ts : List Token). token_of x ∷ ts) (tokens-append xs l)

tokens_in-append : (text : List ℕ) (xs : List lexer.Token) (t : lexer.Token) → tokens_in text (xs ++ t ∷ []) ≡ tokens_in text xs ++ token_in text t ∷ []
tokens_in-append text [] t = refl
tokens_in-append text (x ∷ xs) t = ap (λ (ts : List Token). token_in text x ∷ ts) (tokens_in-append text xs t)

-- one lexeme more
pub one_token_more : (text : List ℕ) (found new : List Lexeme) (l : Lexeme) (before after : List lexer.Token) (t : lexer.Token)
    → tokens_of found ≡ tokens_in text before → new ≡ found ++ l ∷ [] → token_of l ≡ token_in text t → after ≡ before ++ t ∷ [] → tokens_of new ≡ tokens_in text after
one_token_more text found new l before after t kept n e more =
    ap tokens_of n ∙ tokens-append found l ∙ ap (λ (ts : List Token). ts ++ token_of l ∷ []) kept ∙ ap (λ (x : Token). tokens_in text before ++ x ∷ []) e
    ∙ sym (tokens_in-append text before t) ∙ ap (tokens_in text) (sym more)
