use Rattle.std.proofs.Common.{◌≡◌, length}
use Rattle.tl_values.specs.Reading.{read_escaped}
use Rattle.tl_values.proofs.EscapedOn.{with_front}
use Rattle.tl_values.proofs.reading.escaped_of.Given as goal

-- what was read before, and what is still read
abbrev pub invariant-loop-text : goal.invariant-loop-text
invariant-loop-text l = with_front l.text.items (read_escaped l.rest) ≡ read_escaped l.bytes

abbrev pub decreases-loop-text : goal.decreases-loop-text
decreases-loop-text l = length l.rest
