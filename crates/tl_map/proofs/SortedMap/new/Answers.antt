use Rattle.std.proofs.Common.{ap}
use Rattle.std.specs.FinMap.{is_sorted}
use Rattle.tl_map.proofs.Entries.{seen-none, by_bytes}
use Rattle.tl_map.proofs.SortedMap.new.Goals as goal

pub returns : goal.returns
returns g c = seen-none _ (ap (is_sorted by_bytes) c.new.ensures.empty) c.new.ensures.len
