use Rattle.std.proofs.Common.{◌≡◌, ◌++◌, drop}
use Rattle.std.specs.List.{flat_map}
use Rattle.tl_render.specs.Printed.{row_text}
use Rattle.tl_render.proofs.value.push_rows.Given as goal

-- what is written and the text of what is left are the text of all
abbrev pub invariant-loop-row : goal.invariant-loop-row
invariant-loop-row l = l.out ++ flat_map row_text (drop l.row-index l.row-items) ≡ l.initial.out ++ flat_map row_text l.row-items
