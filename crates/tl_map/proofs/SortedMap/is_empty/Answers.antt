use Rattle.std.proofs.Common.{sym, ap, ◌∙◌}
use Rattle.std.specs.FinMap as map
use Rattle.tl_map.proofs.Entries.{seen-none, len-seen, by_bytes}
use Rattle.tl_map.proofs.SortedMap.is_empty.Goals as goal

pub returns : goal.returns
returns g c =
    rw (← c.self.view_is)
    (λ empty. seen-none _ c.self.invariant (c.is_empty.ensures.0 empty), λ none. c.is_empty.ensures.1 (sym (len-seen _ c.self.invariant) ∙ ap map.len none ∙ map.len-empty by_bytes _))
