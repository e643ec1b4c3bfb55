use Rattle.std.proofs.Common.{sym, ◌∙◌}
use Rattle.tl_map.proofs.Entries.{get-seen, sorted-remove, seen-remove}
use Rattle.tl_map.proofs.SortedMap.remove.Goals as goal

pub invariant_of-self : goal.invariant_of-self
invariant_of-self g c = rw c.remove.ensures.entries (sorted-remove _ c.args.key.now c.self.invariant)

pub returns-clause-found : goal.returns-clause-found
returns-clause-found g c = rw (← c.self.view_is) (c.remove.ensures.value ∙ sym (get-seen _ c.args.key.now c.self.invariant))

pub returns-clause-removed : goal.returns-clause-removed
returns-clause-removed g c = rw (c.remove.ensures.entries, ← c.self.view_is) (seen-remove _ c.args.key.now c.self.invariant)
