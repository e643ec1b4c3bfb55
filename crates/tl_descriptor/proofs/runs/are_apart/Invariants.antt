use Rattle.std.proofs.Common.{◌≡◌, ◌≤◌, ◌^◌, drop}
use Rattle.tl_descriptor.specs.Runs.{are_apart}
use Rattle.tl_descriptor.proofs.runs.are_apart.Given as goal

abbrev pub invariant-loop-run : goal.invariant-loop-run
invariant-loop-run l = record {
  so_far : are_apart l.below (drop l.run-index l.runs) ≡ are_apart l.base l.runs;
  fits : l.below ≤ 2 ^ 62;
}
