-- The tokens as the grammar sees them, and how they are seen in a text.
use Rattle.std.specs.Prelude.{ℕ, ◌-◌, ◌==◌, Bool, true, false, List, [], ◌∷◌, Option, Some, None, length, take, drop}
use Rattle.std.specs.Str.{str_to_ascii_lowercase}
use Rattle.std.specs.Str.Parse.{digits_value}
use Rattle.tl_grammar.specs.declared.token.Word as word
use Rattle.tl_grammar.specs.declared.token.Sign as sign
use Rattle.tl_grammar.specs.Spelling.{sign_spellings, spelled, word_spellings}

-- what a token is
pub data Kind : Type 0 where
  Word : word.Word → Kind
  -- in lower case
  Name : List ℕ → Kind
  Number : ℕ → Kind
  -- what stands between its quotes, of two quotes one
  Text : List ℕ → Kind
  Sign : sign.Sign → Kind
  -- bytes that are none of these
  Other : Kind

-- with the place of its first byte in the text
pub record Token : Type 0 where
  pub kind : Kind
  pub start : ℕ

-- what the bytes of a text are told apart by, before a word is known from a name
pub data Piece : Type 0 where
  Letters : Piece
  Digits : Piece
  Quoted : Piece
  Signs : Piece

abbrev pub word_or_name : List ℕ → Option word.Word → Kind
word_or_name bytes (Some w) = Word w
word_or_name bytes None = Name bytes

abbrev pub sign_or_other : Option sign.Sign → Kind
sign_or_other (Some s) = Sign s
sign_or_other None = Other

-- a quote behind a quote that stands is left out
abbrev pub without_second_quotes : List ℕ → Bool → List ℕ
without_second_quotes [] after_quote = []
without_second_quotes (b ∷ bytes) true = without_second_quotes bytes false
without_second_quotes (b ∷ bytes) false = b ∷ without_second_quotes bytes (b == 39)

-- what stands between the outer quotes
abbrev pub unquoted : List ℕ → List ℕ
unquoted bytes = without_second_quotes (take (length bytes - 2) (drop 1 bytes)) false

-- what the bytes of such a piece are
abbrev pub kind_of : Piece → List ℕ → Kind
kind_of Letters bytes = let letters = str_to_ascii_lowercase bytes in word_or_name letters (spelled word_spellings letters)
kind_of Digits bytes = Number (digits_value 10 bytes)
kind_of Quoted bytes = Text (unquoted bytes)
kind_of Signs bytes = sign_or_other (spelled sign_spellings bytes)

-- the token that is seen in the text from here to there
abbrev pub seen : List ℕ → Piece → ℕ → ℕ → Token
seen text piece start end = record { kind = kind_of piece (take (end - start) (drop start text)); start = start }
