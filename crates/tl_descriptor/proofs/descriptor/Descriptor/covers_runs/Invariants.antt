use Rattle.std.proofs.Common.{◌≡◌, drop}
use Rattle.std.specs.List.{list_all}
use Rattle.tl_descriptor.specs.Tids.{covers}
use Rattle.tl_descriptor.proofs.descriptor.Descriptor.covers_runs.Given as goal

abbrev pub invariant-loop-run : goal.invariant-loop-run
invariant-loop-run l = list_all (covers l.self) (drop l.run-index l.runs) ≡ list_all (covers l.self) l.runs
