use Rattle.tl_render.specs.Stored.{last_stored}
use Rattle.tl_render.proofs.Taken.{pointed, stored_none}
use Rattle.tl_render.proofs.stored.last_stores.Goals as goal

pub loop-event-init : goal.loop-event-init
loop-event-init c = λ key. stored_none c.new-stores.result pointed (last_stored c.args.events.now key) key c.new-stores.ensures
