use Rattle.std.proofs.Common.{◌≡◌, ◌++◌, drop, take}
use Rattle.std.specs.List.{AllByRecursion, flat_map}
use Rattle.tl_values.specs.Key.{AreValues}
use Rattle.tl_schema.specs.Row.{IsShort, row_spelling, value_spelling}
use Rattle.tl_schema.proofs.spelling.row_bytes.Given as goal

-- what is written and the spelling of what is left are the spelling of all
abbrev pub invariant-loop-value : goal.invariant-loop-value
invariant-loop-value l = record {
  bytes : l.bytes ++ flat_map value_spelling (drop l.value-index l.value-items) ≡ row_spelling l.value-items;
  short : AllByRecursion IsShort (drop l.value-index l.value-items);
  values : AreValues (take l.value-index l.value-items);
}
