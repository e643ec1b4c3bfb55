use Rattle.std.proofs.Common.{take}
use Rattle.tl_world.specs.Opening.{AreOpened}
use Rattle.tl_world.proofs.opening.open_slots.Given as goal

abbrev pub invariant-loop-session : goal.invariant-loop-session
invariant-loop-session l = AreOpened l.script l.settings l.script.catalog (take l.session-index l.session-items) l.slots.items
