use Rattle.std.proofs.Common.{◌≡◌, ◌++◌, false, length}
use Rattle.std.specs.Prelude.{string_bytes, IsUtf8}
use Rattle.tl_tokens.specs.Lexemes.{without_doubles}
use Rattle.tl_tokens.proofs.text.unquoted.Given as goal

abbrev pub decreases-loop-before : goal.decreases-loop-before
decreases-loop-before l = length l.rest

abbrev pub invariant-loop-before : goal.invariant-loop-before
invariant-loop-before l = IsUtf8 l.rest × (string_bytes l.found ++ without_doubles l.rest l.after_quote ≡ without_doubles l.fn.quoted false)
