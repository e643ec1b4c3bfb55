use Rattle.std.proofs.Common.{sym, ◌∙◌}
use Rattle.tl_map.proofs.Entries.{get-seen, sorted-insert, seen-insert}
use Rattle.tl_map.proofs.SortedMap.insert.Goals as goal

pub invariant_of-self-2 : goal.invariant_of-self-2
invariant_of-self-2 g c = rw c.in_ok-found.ensures.entries (sorted-insert _ c.args.key c.args.value c.self.invariant)

pub returns-clause-found : goal.returns-clause-found
returns-clause-found g c = rw (← c.self.view_is) (c.in_ok-found.ensures.old ∙ sym (get-seen _ c.args.key c.self.invariant))

pub returns-clause-ok : goal.returns-clause-ok
returns-clause-ok g c = rw (c.in_ok-found.ensures.entries, ← c.self.view_is) (seen-insert _ c.args.key c.args.value c.self.invariant)
