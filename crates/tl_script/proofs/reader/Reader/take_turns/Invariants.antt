use Rattle.std.proofs.Common.{◌≡◌, length}
use Rattle.tl_script.specs.Fields.{fields_of}
use Rattle.tl_script.specs.Parts.{take_items, take_turns}
use Rattle.tl_script.specs.Seen.{names_of, parts_of}
use Rattle.tl_script.proofs.reader.Reader.take_turns.Given as goal

abbrev pub invariant-loop-field : goal.invariant-loop-field
invariant-loop-field l = record {
  turns : take_items (fields_of l.rest) (parts_of l.self) ≡ take_turns (fields_of l.fields) (parts_of l.fn.self);
  names : names_of l.self ≡ names_of l.fn.self;
}

abbrev pub decreases-loop-field : goal.decreases-loop-field
decreases-loop-field l = length l.rest
