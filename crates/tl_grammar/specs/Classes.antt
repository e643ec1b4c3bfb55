-- Sets of tokens.
use Rattle.std.specs.Prelude.{ℕ, ◌+◌, ◌==◌, Bool, true, false, ◌||◌, ◌&&◌, not, List, [], ◌∷◌}
use Rattle.tl_grammar.specs.declared.token.Word.{Word}
use Rattle.tl_grammar.specs.declared.token.Sign.{Sign}
use Rattle.tl_grammar.specs.Spelling.{sign_number, word_number}
use Rattle.tl_grammar.specs.Token.{Kind, Token}
use Rattle.tl_grammar.specs.Token as kind

abbrev pub of_word : Word → ℕ
of_word x = word_number x

abbrev pub of_sign : Sign → ℕ
of_sign x = 50 + sign_number x

abbrev pub of_name : ℕ
of_name = 70

abbrev pub of_number : ℕ
of_number = 71

abbrev pub of_text : ℕ
of_text = 72

abbrev pub class_of : Kind → ℕ
class_of (kind.Word x) = of_word x
class_of (kind.Sign x) = of_sign x
class_of (kind.Name text) = of_name
class_of (kind.Number n) = of_number
class_of (kind.Text bytes) = of_text
class_of kind.Other = 73

abbrev pub mem : ℕ → List ℕ → Bool
mem n [] = false
mem n (m ∷ ms) = m == n || mem n ms

abbrev pub among : List ℕ → Token → Bool
among set t = mem (class_of t.kind) set

abbrev pub apart : List ℕ → List ℕ → Bool
apart [] ys = true
apart (x ∷ xs) ys = not (mem x ys) && apart xs ys

abbrev pub within : List ℕ → List ℕ → Bool
within [] ys = true
within (x ∷ xs) ys = mem x ys && within xs ys
