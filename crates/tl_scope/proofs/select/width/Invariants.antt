use Rattle.std.proofs.Common.{◌≡◌, ◌≤◌, ◌+◌, ◌*◌, ◌^◌, drop}
use Rattle.tl_scope.specs.Select.{width}
use Rattle.tl_scope.proofs.select.width.Given as goal

-- the columns so far and those that are left
abbrev pub invariant-loop-source : goal.invariant-loop-source
invariant-loop-source l = record {
  whole : l.width + width (drop l.source-index l.source-items) ≡ width l.scope;
  bound : l.width ≤ 2 ^ 64 * l.source-index;
}
