-- The tokens so far, and those from there on.
use Rattle.std.proofs.Common.{◌≡◌, ℕ, zero, suc, ◌+◌, ◌<◌, ◌≤◌, List, [], ◌∷◌, ◌++◌, length, Option, Some, None, Result, Ok, Err, refl, sym, ap, ◌∙◌, append_assoc, append-nil, arith}
use Rattle.tl_lex.specs.declared.before.Before.{Before}
use Rattle.tl_lex.specs.declared.before.Before.TheVariants.{Free}
use Rattle.tl_lex.specs.declared.fault.LexFault.{LexFault}
use Rattle.tl_lex.specs.declared.token.Token.{Token}
use Rattle.tl_lex.specs.Before.{after}
use Rattle.tl_lex.specs.Lexed.{◌>>=◌, and_behind, bytes_of, lexed, next_token, tokens_from}

-- the tokens so far, and those that are read
abbrev pub onto : List Token → Result (List Token) LexFault → Result (List Token) LexFault
onto tokens read = read >>= λ more. Ok (tokens ++ more)

-- enough turns are left
pub record IsSoFar (text : List ℕ) (tokens : List Token) (before : Before) (at : ℕ) : Type 0 where
  pub turns : ℕ
  pub enough : length text < at + turns
  pub same : onto tokens (tokens_from turns text before at) ≡ lexed text

onto_none : (read : Result (List Token) LexFault) → onto [] read ≡ read
onto_none (Ok more) = refl
onto_none (Err fault) = refl

pub none_so_far : (text : List ℕ) → IsSoFar text [] Free 0
unfolding lexed
none_so_far text = record { turns = length text + 1; enough = omega arith; same = onto_none (tokens_from (length text + 1) text Free 0) }

onto_more : (tokens : List Token) (token : Token) (read : Result (List Token) LexFault) → onto (tokens ++ token ∷ []) read ≡ onto tokens (read >>= λ more. Ok (token ∷ more))
onto_more tokens token (Ok more) = ap Ok (append_assoc tokens (token ∷ []) more)
onto_more tokens token (Err fault) = refl

-- a turn, whatever it finds
a_turn : (turns : ℕ) (text : List ℕ) (before : Before) (at : ℕ) (found : Result (Option Token) LexFault) → next_token text before at ≡ found
    → tokens_from (suc turns) text before at ≡ (found >>= λ token. and_behind token (λ token. tokens_from turns text (after before token.kind (bytes_of text token)) token.end))
unfolding tokens_from
a_turn turns text before at found e = rw e refl

one_more_from : (turns : ℕ) (text : List ℕ) (tokens : List Token) (before : Before) (at : ℕ) (token : Token) → length text < at + turns → at < token.end → token.end ≤ length text
    → onto tokens (tokens_from turns text before at) ≡ lexed text → next_token text before at ≡ Ok (Some token)
    → IsSoFar text (tokens ++ token ∷ []) (after before token.kind (bytes_of text token)) token.end
one_more_from zero text tokens before at token enough behind within same e = absurd (omega arith)
one_more_from (suc turns) text tokens before at token enough behind within same e =
    record {
      turns = turns;
      enough = omega arith;
      same =
          onto_more tokens token (tokens_from turns text (after before token.kind (bytes_of text token)) token.end)
          ∙ (sym (ap (onto tokens) (a_turn turns text before at (Ok (Some token)) e)) ∙ same);
    }

pub one_more : (text : List ℕ) (tokens : List Token) (before : Before) (at : ℕ) (token : Token) → IsSoFar text tokens before at → at < token.end → token.end ≤ length text
    → next_token text before at ≡ Ok (Some token) → IsSoFar text (tokens ++ token ∷ []) (after before token.kind (bytes_of text token)) token.end
one_more text tokens before at token so_far behind within e = one_more_from so_far.turns text tokens before at token so_far.enough behind within so_far.same e

all_from : (turns : ℕ) (text : List ℕ) (tokens : List Token) (before : Before) (at : ℕ) → at ≤ length text → length text < at + turns
    → onto tokens (tokens_from turns text before at) ≡ lexed text → next_token text before at ≡ Ok None → lexed text ≡ Ok tokens
all_from zero text tokens before at within enough same e = absurd (omega arith)
all_from (suc turns) text tokens before at within enough same e =
    sym same ∙ (ap (onto tokens) (a_turn turns text before at (Ok None) e) ∙ ap Ok (append-nil tokens))

pub all_found : (text : List ℕ) (tokens : List Token) (before : Before) (at : ℕ) → IsSoFar text tokens before at → at ≤ length text → next_token text before at ≡ Ok None → lexed text ≡ Ok tokens
all_found text tokens before at so_far within e = all_from so_far.turns text tokens before at within so_far.enough so_far.same e

fault_from : (turns : ℕ) (text : List ℕ) (tokens : List Token) (before : Before) (at : ℕ) (fault : LexFault) → at ≤ length text → length text < at + turns
    → onto tokens (tokens_from turns text before at) ≡ lexed text → next_token text before at ≡ Err fault → lexed text ≡ Err fault
fault_from zero text tokens before at fault within enough same e = absurd (omega arith)
fault_from (suc turns) text tokens before at fault within enough same e =
    sym same ∙ ap (onto tokens) (a_turn turns text before at (Err fault) e)

pub fault_found : (text : List ℕ) (tokens : List Token) (before : Before) (at : ℕ) (fault : LexFault) → IsSoFar text tokens before at → at ≤ length text → next_token text before at ≡ Err fault → lexed text ≡ Err fault
fault_found text tokens before at fault so_far within e = fault_from so_far.turns text tokens before at fault within so_far.enough so_far.same e
