use Rattle.std.proofs.Common.{◌≡◌, ◌++◌, drop}
use Rattle.std.specs.List.{flat_map, enumerate_from}
use Rattle.tl_render.specs.Printed.{table_text, tables_text}
use Rattle.tl_render.proofs.table.push_tables.Given as goal

-- what is written and the text of what is left are the text of all
abbrev pub invariant-loop-number : goal.invariant-loop-number
invariant-loop-number l = l.out ++ flat_map (table_text l.rows) (enumerate_from l.number (drop l.number l.catalog)) ≡ l.initial.out ++ tables_text l.catalog l.rows
