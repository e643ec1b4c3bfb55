use Rattle.std.proofs.Common.{sym, ap, ◌∙◌}
use Rattle.std.specs.Prelude.{is_some}
use Rattle.tl_map.proofs.Entries.{get-seen}
use Rattle.tl_map.proofs.SortedMap.contains_key.Goals as goal

pub returns : goal.returns
returns g c = rw (← c.self.view_is) (c.contains_key.ensures ∙ ap is_some (sym (get-seen _ _ c.self.invariant)))
