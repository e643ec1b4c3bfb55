use Rattle.std.proofs.Common.{◌≡◌, ◌++◌, ◌^◌, drop}
use Rattle.std.specs.Prelude.{nat_lt}
use Rattle.std.specs.List.{list_any}
use Rattle.tl_recover.proofs.finding.known.Given as goal

-- none so far is above those of a run
abbrev pub invariant-loop-tid : goal.invariant-loop-tid
invariant-loop-tid l =
    (l.ids ++ drop l.tid-index l.tids ≡ l.tids)
    × (list_any (nat_lt (2 ^ 62)) (drop l.tid-index l.tids) ≡ list_any (nat_lt (2 ^ 62)) l.tids)
