use Rattle.std.proofs.Common.{◌≡◌, ◌+◌, ◌^◌, ◌<◌, ◌++◌, drop}
use Rattle.tl_plan.specs.Access.{accesses_of}
use Rattle.tl_plan.specs.Steps.{these, width}
use Rattle.tl_plan.proofs.access.accesses_of.Given as goal

-- the accesses so far and those of the tables that are left are all
abbrev pub invariant-loop-table : goal.invariant-loop-table
invariant-loop-table l = record {
  made : l.accesses ++ accesses_of (these (drop l.table-index l.tables)) l.offset l.filter ≡ accesses_of (these l.tables) 0 l.filter;
  short : l.offset + width (these (drop l.table-index l.tables)) < 2 ^ 64;
}
