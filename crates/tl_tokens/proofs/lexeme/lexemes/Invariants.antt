use Rattle.std.proofs.Common.{◌≡◌, take}
use Rattle.tl_tokens.specs.Lexemes.{tokens_of}
use Rattle.tl_tokens.specs.Tokens.{tokens_in}
use Rattle.tl_tokens.proofs.lexeme.lexemes.Given as goal

abbrev pub invariant-loop-token : goal.invariant-loop-token
invariant-loop-token l = tokens_of l.found ≡ tokens_in l.fn.text (take l.token-index l.fn.tokens)
