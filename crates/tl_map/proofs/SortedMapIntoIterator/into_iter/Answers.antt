use Rattle.std.proofs.Common.{sym, ◌∙◌}
use Rattle.tl_map.proofs.Entries.{entries-seen}
use Rattle.tl_map.proofs.SortedMapIntoIterator.into_iter.Goals as goal

pub returns : goal.returns
returns g c = record { into_iter_gives = rw (← c.self.view_is) (c.into_iter.ensures.into_iter_gives.0 ∙ sym (entries-seen _ c.self.invariant)) }
