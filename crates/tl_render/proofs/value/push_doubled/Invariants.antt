use Rattle.std.proofs.Common.{◌≡◌, ◌++◌, drop}
use Rattle.std.specs.List.{flat_map}
use Rattle.tl_render.specs.Printed.{in_quotes}
use Rattle.tl_render.proofs.value.push_doubled.Given as goal

-- what is written and the text of what is left are the text of all
abbrev pub invariant-loop-byte : goal.invariant-loop-byte
invariant-loop-byte l = l.out ++ flat_map in_quotes (drop l.byte-index l.text) ≡ l.initial.out ++ flat_map in_quotes l.text
