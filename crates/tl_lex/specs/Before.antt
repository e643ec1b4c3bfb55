-- What stands before a token, as far as a number's sign depends on it.
use Rattle.std.specs.Prelude.{ℕ, ◌==◌, ◌&&◌, not, List, [], ◌∷◌, if◌then◌else◌}
use Rattle.tl_lex.specs.declared.before.Before.{Before}
use Rattle.tl_lex.specs.declared.before.Before.TheVariants.{Free, Minus, Value}
use Rattle.tl_lex.specs.declared.token.TokenKind.{TokenKind}
use Rattle.tl_lex.specs.declared.token.TokenKind.TheVariants as kind
use Rattle.tl_lex.specs.Word.{is_literal_word, is_word}

-- a name is a value, unless it is a word that is no literal
abbrev pub after_name : List ℕ → Before
after_name name = if is_word name && not (is_literal_word name) then Free else Value

-- a minus sign begins a literal where no value stands before it
abbrev pub after_minus : Before → Before
after_minus Value = Free
after_minus Free = Minus
after_minus Minus = Minus

-- 41 is `)` and 45 is `-`
abbrev pub after_sign : Before → List ℕ → Before
after_sign before [] = Free
after_sign before (b ∷ bytes) = if b == 41 then Value else if b == 45 then after_minus before else Free

-- what stands before the next token, after a token of this kind with these bytes
abbrev pub after : Before → TokenKind → List ℕ → Before
after before kind.Name bytes = after_name bytes
after before kind.Number bytes = Value
after before kind.Text bytes = Value
after before kind.Sign bytes = after_sign before bytes
