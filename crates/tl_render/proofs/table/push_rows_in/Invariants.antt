use Rattle.std.proofs.Common.{◌≡◌, ◌++◌, [], map, filter, nat_eq}
use Rattle.std.specs.List.{starts_with}
use Rattle.tl_schema.specs.Record.{store_key}
use Rattle.tl_isolation.specs.Tables.{rows_in}
use Rattle.tl_render.specs.Printed.{rows_text}
use Rattle.tl_render.proofs.table.push_rows_in.Given as goal

-- what is written and the text of what is left are the text of all
abbrev pub invariant-loop-key : goal.invariant-loop-key
invariant-loop-key l =
    l.out ++ rows_text (map (λ e. e.1) (filter (λ e. starts_with nat_eq e.0 (store_key l.number [])) l.key-iterator))
    ≡ l.initial.out ++ rows_text (rows_in l.number l.rows)
