use Rattle.std.proofs.Common.{◌≡◌, length}
use Rattle.tl_lines.specs.Directive.{items_in}
use Rattle.tl_lines.specs.Fields.{fields_of}
use Rattle.tl_lines.proofs.Items.{prepended}
use Rattle.tl_lines.proofs.directive.items_in.Given as goal

abbrev pub invariant-loop-field : goal.invariant-loop-field
invariant-loop-field l = items_in (fields_of l.fn.fields) ≡ prepended l.items (items_in (fields_of l.rest))

abbrev pub decreases-loop-field : goal.decreases-loop-field
decreases-loop-field l = length l.rest
