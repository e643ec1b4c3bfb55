use Rattle.std.proofs.Common.{◌<◌, length, arith}
use Rattle.tl_places.proofs.Events.{store_served}
use Rattle.tl_places.proofs.places.Places.serve_store.Goals as goal

pub returns-clause-served : goal.returns-clause-served
returns-clause-served c =
    let whole = c.self.inside.shards.ok.0 in
    let len = c.len.ensures in
    let within : c.from-at.result < length c.self.inside.shards.items = omega (arith, c.if-at-len.false) in
    store_served c.args.self.now c.self.inside.shards.items c.self.inside.managers.items c.args.shard c.from-at.result c.index_mut.result.now c.apply.new.self
    c.args.request.now c.in_ok-reply.reply c.self.view_is c.from-at.ensures within c.index_mut.ensures.value c.in_ok-reply.ensures.replied c.in_ok-reply.ensures.changed
