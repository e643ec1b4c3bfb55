-- The tokens of a text, or its first fault.
use Rattle.std.specs.Prelude.{◌≡◌, ℕ, zero, suc, ◌+◌, ◌==◌, List, [], ◌∷◌, Option, Some, None, Result, Ok, Err, length, drop, if◌then◌else◌}
use Rattle.std.specs.List.{prefix_len, slice_range}
use Rattle.tl_lex.specs.declared.before.Before.{Before}
use Rattle.tl_lex.specs.declared.before.Before.TheVariants.{Free}
use Rattle.tl_lex.specs.declared.fault.LexError.{LexError}
use Rattle.tl_lex.specs.declared.fault.LexError.TheVariants as error
use Rattle.tl_lex.specs.declared.fault.LexFault.{LexFault}
use Rattle.tl_lex.specs.declared.fault.LexKind.{LexKind}
use Rattle.tl_lex.specs.declared.token.Token.{Token}
use Rattle.tl_lex.specs.declared.token.TokenKind.{TokenKind}
use Rattle.tl_lex.specs.Before.{after}
use Rattle.tl_lex.specs.Front.{is_blank, token_at}

-- the first fault ends the reading
infixl 10 ◌>>=◌
abbrev pub ◌>>=◌ : {A B : Type 0} → Result A LexFault → (A → Result B LexFault) → Result B LexFault
(Ok x) >>= f = f x
(Err fault) >>= f = Err fault

-- the bytes of a token
abbrev pub bytes_of : List ℕ → Token → List ℕ
bytes_of text token = slice_range text token.start token.end

-- the token, or the fault, that begins at this place
abbrev pub placed : ℕ → Result (TokenKind × ℕ) LexKind → Result (Option Token) LexFault
placed start (Ok found) = Ok (Some (record { kind = found.0; start = start; end = start + found.1 }))
placed start (Err kind) = Err (record { at = start; kind = kind })

-- where the blanks from this place on end
abbrev pub past_blanks : List ℕ → ℕ → ℕ
past_blanks text at = at + prefix_len is_blank (drop at text)

-- the token behind the blanks from this place on, if there is one
unfoldable pub next_token : List ℕ → Before → ℕ → Result (Option Token) LexFault
next_token text before at =
    let start = past_blanks text at in
    if start == length text then Ok None else placed start (token_at before (drop start text))

-- the token, and those behind it
abbrev pub and_behind : Option Token → (Token → Result (List Token) LexFault) → Result (List Token) LexFault
and_behind None behind = Ok []
and_behind (Some token) behind = do
  more ← behind token
  Ok (token ∷ more)

-- the tokens from this place on: each turn finds one
unfoldable pub tokens_from : ℕ → List ℕ → Before → ℕ → Result (List Token) LexFault
tokens_from zero text before at = Ok []
tokens_from (suc turns) text before at = do
  found ← next_token text before at
  and_behind found (λ token. tokens_from turns text (after before token.kind (bytes_of text token)) token.end)

-- the tokens of the text, or its first fault
unfoldable pub lexed : List ℕ → Result (List Token) LexFault
lexed text = tokens_from (length text + 1) text Free 0

-- what is said of a text that has a fault; want of memory says nothing of it
abbrev pub Fails : LexError → Result (List Token) LexFault → Type 0
Fails error.NoMemory read = Unit {0}
Fails (error.Fault fault) read = read ≡ Err fault

-- what was answered is what the text has, unless memory ran out
abbrev pub Gives : Result (List Token) LexError → Result (List Token) LexFault → Type 0
Gives (Ok tokens) read = read ≡ Ok tokens
Gives (Err e) read = Fails e read
