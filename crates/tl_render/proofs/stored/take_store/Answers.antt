use Rattle.tl_render.specs.Stored.{stored_by}
use Rattle.tl_render.proofs.Taken.{pointed, takes_store}
use Rattle.tl_render.proofs.stored.take_store.Goals as goal

pub returns-in-Some : goal.returns-in-Some
returns-in-Some c =
    takes_store c.put.result (stored_by c.args.event.now.request c.args.event.now.reply) c.args.stores.now c.put.new.self pointed c.in-Some.key.now c.in-Some.value
    c.in-Some.ensures c.put.ensures.ok
