-- Where the tokens of a text stand, and its first fault.
use Rattle.std.specs.Prelude.{◌≡◌, ℕ, ◌-◌, ◌<◌, ◌≤◌, ◌==◌, ◌||◌, not, Bool, true, false, List, [], ◌∷◌, length, drop, Some, Ok, codes, slice_index, IsCharBoundary}
use Rattle.std.specs.Char.{is_ascii_digit}
use Rattle.std.specs.List.{list_all, slice_range}
use Rattle.std.specs.Str.Parse.{digits_value}
use Rattle.tl_lex.specs.declared.fault.LexError.{LexError}
use Rattle.tl_lex.specs.declared.fault.LexError.TheVariants as error
use Rattle.tl_lex.specs.declared.fault.LexKind.{LexKind}
use Rattle.tl_lex.specs.declared.fault.LexKind.TheVariants.{BadCharacter, LongName, Unclosed, Wide}
use Rattle.tl_lex.specs.declared.token.Token.{Token}
use Rattle.tl_lex.specs.declared.token.TokenKind.{TokenKind}
use Rattle.tl_lex.specs.declared.token.TokenKind.TheVariants as kind
use Rattle.tl_lex.specs.Front.{in_name, is_blank, is_letter, is_long_sign, is_quote, is_short_sign, rest_of_text, sign_at}
use Rattle.tl_lex.specs.Lexed.{bytes_of}

-- from the one place to the other stand blanks alone
abbrev pub AreBlank : List ℕ → ℕ → ℕ → Type 0
AreBlank text from to = list_all is_blank (slice_range text from to) ≡ true

-- From this place to the end of the text stand the tokens, one behind the other, and none is empty. All bytes before, between
-- and behind them are blanks.
abbrev pub InOrder : List ℕ → ℕ → List Token → Type 0
InOrder text from [] = (from ≤ length text) × AreBlank text from (length text)
InOrder text from (token ∷ tokens) =
    (from ≤ token.start) × AreBlank text from token.start × (token.start < token.end) × InOrder text token.end tokens

-- whether a token of this kind may begin with this byte; 33 is `!`
abbrev pub begins : TokenKind → ℕ → Bool
begins kind.Name b = is_letter b
begins kind.Number b = is_ascii_digit b
begins kind.Text b = is_quote b
begins kind.Sign b = is_short_sign b || b == 33

-- these are the bytes of a token of this kind, if they begin as one; `AreSigned` says where a number of 2^63 may stand
abbrev pub IsSpelled : TokenKind → List ℕ → Type 0
IsSpelled kind.Name bytes = (list_all in_name bytes ≡ true) × (length bytes ≤ 31)
IsSpelled kind.Number bytes = (list_all is_ascii_digit bytes ≡ true) × (digits_value 10 bytes ≤ 9223372036854775808)
IsSpelled kind.Text bytes = rest_of_text false (drop 1 bytes) ≡ Some (length bytes - 1)
IsSpelled kind.Sign bytes = sign_at bytes ≡ Ok (kind.Sign, length bytes)

-- whether a token of this kind with these bytes would go on with this byte
abbrev pub goes_on : TokenKind → List ℕ → ℕ → Bool
goes_on kind.Name bytes b = in_name b
goes_on kind.Number bytes b = is_ascii_digit b
goes_on kind.Text bytes b = is_quote b
goes_on kind.Sign [] b = false
goes_on kind.Sign (sign ∷ []) b = is_long_sign sign b
goes_on kind.Sign (sign ∷ second ∷ bytes) b = false

-- a token is cut out of a text between two characters, begins and is spelled as one of its kind, and is the longest that it can be
pub record IsCut (text : List ℕ) (token : Token) : Type 0 where
  pub starts : IsCharBoundary text token.start
  pub ends : IsCharBoundary text token.end
  pub kind : begins token.kind (slice_index text token.start) ≡ true
  pub spelled : IsSpelled token.kind (bytes_of text token)
  pub longest : token.end < length text → goes_on token.kind (bytes_of text token) (slice_index text token.end) ≡ false

-- Each number above 2^63 - 1 has a minus sign directly before it. `last` are the bytes of the token before these, none before
-- the first.
abbrev pub AreSigned : List ℕ → List ℕ → List Token → Type 0
AreSigned text last [] = Unit {0}
AreSigned text last (token ∷ tokens) =
    (token.kind ≡ kind.Number → 9223372036854775807 < digits_value 10 (bytes_of text token) → last ≡ codes "-")
    × AreSigned text (bytes_of text token) tokens

-- whether what is wrong may begin with this byte; a bad character is no blank, and begins no token but `!=`
abbrev pub fault_begins : LexKind → ℕ → Bool
fault_begins Wide b = is_ascii_digit b
fault_begins LongName b = is_letter b
fault_begins Unclosed b = is_quote b
fault_begins BadCharacter b = not (is_letter b || is_ascii_digit b || is_quote b || is_blank b || is_short_sign b)

-- a fault stands at a byte of the text that may begin with it; want of memory has no place
abbrev pub IsPlaced : List ℕ → LexError → Type 0
IsPlaced text error.NoMemory = Unit {0}
IsPlaced text (error.Fault fault) = (fault.at < length text) × (fault_begins fault.kind (slice_index text fault.at) ≡ true)
