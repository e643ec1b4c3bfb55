use Rattle.std.proofs.Common.{◌≡◌, map, take}
use Rattle.tl_algebra.specs.declared.query.Join.{Join}
use Rattle.tl_write.specs.Tables.{laid_over}
use Rattle.tl_isolation.specs.State.{tables_after}
use Rattle.tl_isolation.specs.Tables.{rows_in}
use Rattle.tl_si.proofs.seen.tables_seen.Given as goal

abbrev pub invariant-loop-join : goal.invariant-loop-join
invariant-loop-join l =
    l.seen ≡ map (λ (join : Join). rows_in join.table (laid_over (tables_after (take l.first l.past)) l.own)) (take l.join-index l.join-items)
