use Rattle.std.proofs.Common.{sym, ap, ◌∙◌, refl, Some}
use Rattle.tl_map.proofs.Entries.{get-seen, sorted-set_value, seen-set_value}
use Rattle.tl_map.proofs.SortedMap.replace.Goals as goal

pub returns-in_default-clause-absent : goal.returns-in_default-clause-absent
returns-in_default-clause-absent g c = (refl, rw (← c.self.view_is) (get-seen _ c.args.key.now c.self.invariant ∙ sym c.in_default.ensures.value))

pub invariant_of-self-2 : goal.invariant_of-self-2
invariant_of-self-2 g c =
    sorted-set_value _ _ c.args.key.now c.replace.new.dest _ c.self.invariant c.in-Some.ensures.value (c.get_mut.follows.holds c.replace.new.dest).0

pub returns-clause-found : goal.returns-clause-found
returns-clause-found g c =
    rw (← c.self.view_is) (get-seen _ c.args.key.now c.self.invariant ∙ sym c.in-Some.ensures.value ∙ ap Some (sym c.replace.ensures.value))

pub returns-clause-replaced : goal.returns-clause-replaced
returns-clause-replaced g c =
    rw (← c.self.view_is, ← c.replace.ensures.after)
    (seen-set_value _ _ c.args.key.now c.replace.new.dest _ c.self.invariant c.in-Some.ensures.value (c.get_mut.follows.holds c.replace.new.dest).0)
