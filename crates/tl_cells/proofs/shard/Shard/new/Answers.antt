use Rattle.std.proofs.Common.{ap, arith, unwrap_or, ◌∙◌}
use Rattle.std.specs.FinMap as map
use Rattle.tl_cells.proofs.shard.Shard.new.Goals as goal

pub returns-clause-opens : goal.returns-clause-opens
returns-clause-opens c = record {
  cells = c.new.ensures;
  counters = λ key. ap (λ m. unwrap_or (map.get m key) 0) c.new-2.ensures ∙ ap (λ o. unwrap_or o 0) (map.get-empty _ key);
  last = omega arith;
}
