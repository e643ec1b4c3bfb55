use Rattle.std.proofs.Common.{◌≡◌, drop, false}
use Rattle.tl_lex.proofs.Texts.{counted}
use Rattle.tl_lex.specs.Front.{rest_of_text}
use Rattle.tl_lex.proofs.front.rest_of_text.Given as goal

abbrev pub invariant-loop-len : goal.invariant-loop-len
invariant-loop-len l = counted l.len (rest_of_text l.closed (drop l.len l.bytes)) ≡ rest_of_text false l.bytes
