-- What the lexer and the grammar agree on.
use Rattle.std.specs.Prelude.{◌≡◌, map}
use Rattle.tl_grammar.specs.Spelling.{word_spellings}
use Rattle.tl_lex.specs.Word.{words}

-- the words that can't be names are those of the grammar
abbrev pub SameWords : Type 0
SameWords = words ≡ map (λ entry. entry.0) word_spellings
