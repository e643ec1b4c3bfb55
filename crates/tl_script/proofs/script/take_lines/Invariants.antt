use Rattle.std.proofs.Common.{◌≡◌, ◌+◌, ◌≤◌, length}
use Rattle.tl_script.specs.Lines.{lines_of}
use Rattle.tl_script.specs.Script.{parts_in}
use Rattle.tl_script.specs.Seen.{names_of, parts_of}
use Rattle.tl_script.proofs.script.take_lines.Given as goal

abbrev pub invariant-loop-line : goal.invariant-loop-line
invariant-loop-line l = record {
  parts : parts_in (names_of l.fn.reader) l.number (lines_of l.rest) (parts_of l.reader) ≡ parts_in (names_of l.fn.reader) 2 (lines_of l.bytes) (parts_of l.fn.reader);
  names : names_of l.reader ≡ names_of l.fn.reader;
  number : l.number + length l.rest ≤ 2 + length l.bytes;
}

abbrev pub decreases-loop-line : goal.decreases-loop-line
decreases-loop-line l = length l.rest
