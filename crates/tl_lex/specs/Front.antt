-- One token at the front of bytes.
use Rattle.std.specs.Prelude.{ℕ, ◌+◌, ◌==◌, Bool, false, not, ◌||◌, ◌&&◌, List, [], ◌∷◌, Option, Some, None, Result, Ok, Err, take, drop, nat_eq, nat_le, codes, if◌then◌else◌}
use Rattle.std.specs.Char.{is_ascii_alphabetic, is_ascii_digit}
use Rattle.std.specs.List.{list_any, prefix_len}
use Rattle.std.specs.Option.{option_map}
use Rattle.std.specs.Str.Parse.{digits_value}
use Rattle.tl_lex.specs.declared.before.Before.{Before}
use Rattle.tl_lex.specs.declared.before.Before.TheVariants.{Free, Minus, Value}
use Rattle.tl_lex.specs.declared.fault.LexKind.{LexKind}
use Rattle.tl_lex.specs.declared.fault.LexKind.TheVariants.{BadCharacter, LongName, Unclosed, Wide}
use Rattle.tl_lex.specs.declared.token.TokenKind.{TokenKind}
use Rattle.tl_lex.specs.declared.token.TokenKind.TheVariants as kind

-- a space or a tab
abbrev pub is_blank : ℕ → Bool
is_blank b = b == 32 || b == 9

abbrev pub is_letter : ℕ → Bool
is_letter b = is_ascii_alphabetic b || b == 95

abbrev pub in_name : ℕ → Bool
in_name b = is_letter b || is_ascii_digit b

abbrev pub is_quote : ℕ → Bool
is_quote b = b == 39

-- Each of these gives the kind of the token that the bytes begin with, and its length.

abbrev pub name_at : List ℕ → Result (TokenKind × ℕ) LexKind
name_at bytes =
    let len = prefix_len in_name bytes in
    if nat_le len 31 then Ok (kind.Name, len) else Err LongName

-- the greatest number that may stand here
abbrev pub greatest : Before → ℕ
greatest Free = 9223372036854775807
greatest Minus = 9223372036854775808
greatest Value = 9223372036854775807

abbrev pub number_at : Before → List ℕ → Result (TokenKind × ℕ) LexKind
number_at before bytes =
    let len = prefix_len is_ascii_digit bytes in
    if nat_le (digits_value 10 (take len bytes)) (greatest before) then Ok (kind.Number, len) else Err Wide

-- How many bytes stand before the end of a text, its closing quote among them. `closed` says that the last byte was a quote
-- that closes the text, unless a further quote makes the two of them one.
abbrev pub rest_of_text : Bool → List ℕ → Option ℕ
rest_of_text closed [] = if closed then Some 0 else None
rest_of_text closed (b ∷ bytes) =
    if closed && not (is_quote b) then Some 0
    else option_map (λ n. n + 1) (rest_of_text (is_quote b && not closed) bytes)

-- behind the opening quote
abbrev pub closed_text : Option ℕ → Result (TokenKind × ℕ) LexKind
closed_text None = Err Unclosed
closed_text (Some len) = Ok (kind.Text, len + 1)

abbrev pub text_at : List ℕ → Result (TokenKind × ℕ) LexKind
text_at bytes = closed_text (rest_of_text false (drop 1 bytes))

-- `<=`, `<>`, `>=` and `!=`
abbrev pub is_long_sign : ℕ → ℕ → Bool
is_long_sign b c = (b == 60 && (c == 61 || c == 62)) || ((b == 62 || b == 33) && c == 61)

abbrev pub is_short_sign : ℕ → Bool
is_short_sign b = list_any (λ sign. nat_eq sign b) (codes "(),.;*+-=<>")

abbrev pub short_sign_at : ℕ → Result (TokenKind × ℕ) LexKind
short_sign_at b = if is_short_sign b then Ok (kind.Sign, 1) else Err BadCharacter

abbrev pub sign_at : List ℕ → Result (TokenKind × ℕ) LexKind
sign_at [] = Err BadCharacter
sign_at (b ∷ []) = short_sign_at b
sign_at (b ∷ c ∷ bytes) = if is_long_sign b c then Ok (kind.Sign, 2) else short_sign_at b

-- the longest token that the bytes begin with, or why they begin with none
unfoldable pub token_at : Before → List ℕ → Result (TokenKind × ℕ) LexKind
token_at before [] = Err BadCharacter
token_at before (b ∷ bytes) =
    if is_letter b then name_at (b ∷ bytes)
    else if is_ascii_digit b then number_at before (b ∷ bytes)
    else if is_quote b then text_at (b ∷ bytes)
    else sign_at (b ∷ bytes)
