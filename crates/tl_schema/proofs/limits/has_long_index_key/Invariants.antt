use Rattle.std.proofs.Common.{◌≡◌, drop}
use Rattle.std.specs.Prelude.{nat_lt}
use Rattle.std.specs.List.{list_any}
use Rattle.tl_schema.specs.Limits.{index_key_length}
use Rattle.tl_schema.proofs.limits.has_long_index_key.Given as goal

-- what is left decides
abbrev pub invariant-loop-index : goal.invariant-loop-index
invariant-loop-index l =
    list_any (λ index. nat_lt 255 (index_key_length l.row index.columns)) (drop l.index-index l.indexes)
    ≡ list_any (λ index. nat_lt 255 (index_key_length l.row index.columns)) l.indexes
