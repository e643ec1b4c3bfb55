use Rattle.std.proofs.Common.{◌+◌, List, take, sym, subst}
use Rattle.std.specs.List.{AllByRecursion}
use Rattle.tl_schema.specs.declared.catalog.Catalog.{Catalog}
use Rattle.tl_isolation.specs.declared.script.Session.{Session}
use Rattle.tl_node.specs.Named.{AreNamed}
use Rattle.tl_world.specs.Opening.{AreOpened, IsOpened}
use Rattle.tl_world.specs.Stands.{SlotValue}
use Rattle.tl_world.proofs.AtFirst.{at_each, opened_next}
use Rattle.tl_world.proofs.opening.open_slots.Goals as goal

pub loop-session-preserved : goal.loop-session-preserved
loop-session-preserved c =
    let l = c.loop-session in
    let script = c.args.script.now in
    let settings = c.args.settings.now in
    let items = c.as_slice-session-items.result.now in
    let slot : SlotValue = c.in_ok-open_slot.field-0 in
    subst (λ (slots : List SlotValue). AreOpened script settings script.catalog (take (l.session-index + 1) items) slots) (sym c.in_ok-push.ensures.items)
    (opened_next script settings script.catalog items l.slots.items l.session-index c.session-item.result slot c.loop-session-test.true c.session-item.is
    (subst (λ (catalog : Catalog). IsOpened script settings catalog c.session-item.result slot) c.in_ok-copy.ensures c.in_ok-open_slot.ensures) l.invariant)

pub open_slot-requires-clause-named : goal.open_slot-requires-clause-named
open_slot-requires-clause-named c =
    let l = c.loop-session in
    let items = c.as_slice-session-items.result.now in
    subst (λ (catalog : Catalog). AreNamed catalog c.session-item.result.statements) (sym c.in_ok-copy.ensures)
    (at_each (λ (s : Session). AreNamed c.args.script.now.catalog s.statements) items l.session-index c.session-item.result
    (subst (λ (sessions : List Session). AllByRecursion (λ (s : Session). AreNamed c.args.script.now.catalog s.statements) sessions) (sym c.as_slice-session-items.ensures) c.requires.named)
    c.loop-session-test.true c.session-item.is)
