-- The tokens of the lexer as the grammar sees them.
use Rattle.std.specs.Prelude.{◌≡◌, ℕ, ◌<◌, true, List, [], ◌∷◌, length, slice_index}
use Rattle.tl_lex.specs.declared.token.Token as lexer
use Rattle.tl_lex.specs.declared.token.TokenKind.{TokenKind}
use Rattle.tl_lex.specs.declared.token.TokenKind.TheVariants as lexed
use Rattle.tl_lex.specs.Spans.{IsCut, IsSpelled, begins}
use Rattle.tl_grammar.specs.Token.{Piece, Token, seen}
use Rattle.tl_grammar.specs.Token as piece

abbrev pub piece_of : TokenKind → Piece
piece_of lexed.Name = piece.Letters
piece_of lexed.Number = piece.Digits
piece_of lexed.Text = piece.Quoted
piece_of lexed.Sign = piece.Signs

abbrev pub token_in : List ℕ → lexer.Token → Token
token_in text token = seen text (piece_of token.kind) token.start token.end

abbrev pub tokens_in : List ℕ → List lexer.Token → List Token
tokens_in text [] = []
tokens_in text (token ∷ tokens) = token_in text token ∷ tokens_in text tokens

-- a piece of a text that a lexer found to be a token of this kind
pub record IsPiece (kind : TokenKind) (bytes : List ℕ) : Type 0 where
  pub some : 0 < length bytes
  pub first : begins kind (slice_index bytes 0) ≡ true
  pub spelled : IsSpelled kind bytes

-- so is a token of a text
pub record IsWritten (text : List ℕ) (token : lexer.Token) : Type 0 where
  pub order : token.start < token.end
  pub cut : IsCut text token
