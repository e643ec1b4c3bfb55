use Rattle.std.proofs.Common.{sym, ◌∙◌}
use Rattle.tl_map.proofs.Entries.{get-seen}
use Rattle.tl_map.proofs.SortedMap.get.Goals as goal

pub returns : goal.returns
returns g c = rw (← c.self.view_is) (c.get.ensures.value ∙ sym (get-seen _ _ c.self.invariant))
