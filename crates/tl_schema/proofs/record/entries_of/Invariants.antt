use Rattle.std.proofs.Common.{◌≡◌, map, take}
use Rattle.tl_schema.specs.Record.{entry_key}
use Rattle.tl_schema.proofs.record.entries_of.Given as goal

abbrev pub invariant-loop-index : goal.invariant-loop-index
invariant-loop-index l = l.keys ≡ map (λ index. entry_key l.table index l.row) (take l.index-index l.table.indexes)
