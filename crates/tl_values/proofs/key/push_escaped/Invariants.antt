use Rattle.std.proofs.Common.{◌≡◌, ◌++◌, drop}
use Rattle.tl_values.specs.Key.{text_key}
use Rattle.tl_values.proofs.key.push_escaped.Given as goal

-- what is written and the key of what is left are the key of all
abbrev pub invariant-loop-byte : goal.invariant-loop-byte
invariant-loop-byte l = l.key ++ text_key (drop l.byte-index l.text) ≡ l.fn.key ++ text_key l.text
