use Rattle.std.proofs.Common.{◌≡◌, ◌++◌, map}
use Rattle.std.specs.Vec.Iter.{into_iter_items}
use Rattle.std.specs.List.{AllByRecursion}
use Rattle.tl_algebra.specs.declared.query.Join.{Join}
use Rattle.tl_isolation.specs.Tables.{HasTable}
use Rattle.tl_journal.specs.Takes.{tables_seen}
use Rattle.tl_answer.proofs.seen.tables_seen.Given as goal

-- there is each table that is left; what is seen, and then what is left to see, is all
abbrev pub invariant-loop-found : goal.invariant-loop-found
invariant-loop-found l = record {
  tables : AllByRecursion (λ (join : Join). HasTable l.catalog join.table) l.left;
  made :
      l.seen ++ tables_seen l.catalog (map (λ (join : Join). join.table) l.left) l.own (into_iter_items l.found-iterator)
      ≡ tables_seen l.catalog (map (λ (join : Join). join.table) l.fn.from) l.own l.fn.rows;
}
