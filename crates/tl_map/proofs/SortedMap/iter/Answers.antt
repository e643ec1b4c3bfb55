use Rattle.std.proofs.Common.{sym, ◌∙◌}
use Rattle.tl_map.proofs.Entries.{entries-seen}
use Rattle.tl_map.proofs.SortedMap.iter.Goals as goal

pub returns-clause-entries : goal.returns-clause-entries
returns-clause-entries g c = rw (← c.self.view_is) (c.iter.ensures.rest ∙ sym (entries-seen _ c.self.invariant))
