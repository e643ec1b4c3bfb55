use Rattle.std.proofs.Common.{◌≡◌, ◌+◌, ◌<◌, ◌^◌, ◌++◌, drop, map}
use Rattle.tl_algebra.specs.declared.query.Join.{Join}
use Rattle.tl_isolation.specs.Tables.{table_of}
use Rattle.tl_plan.specs.Access.{accesses_of}
use Rattle.tl_plan.specs.Plan.{query_accesses}
use Rattle.tl_plan.specs.Steps.{width}
use Rattle.tl_plan.proofs.planned.query_accesses.Given as goal

-- the accesses so far and those of the FROM items that are left are all
abbrev pub invariant-loop-join : goal.invariant-loop-join
invariant-loop-join l = record {
  made :
      l.accesses ++ accesses_of (map (table_of l.catalog) (map (λ (join : Join). join.table) (drop l.join-index l.join-items))) l.offset l.query.filter
      ≡ query_accesses l.catalog l.query;
  places : l.offset + width (map (table_of l.catalog) (map (λ (join : Join). join.table) (drop l.join-index l.join-items))) < 2 ^ 64;
}
