use Rattle.std.proofs.Common.{sym, subst}
use Rattle.tl_base.specs.declared.place.PlaceId.{PlaceId}
use Rattle.tl_base.specs.declared.place.PlaceId.TheVariants as place
use Rattle.tl_manager.specs.declared.request.Request.{Request}
use Rattle.tl_manager.specs.declared.request.Reply.TheVariants as reply
use Rattle.tl_places.specs.Places.{HaveServed}
use Rattle.tl_places.proofs.places.Places.serve.Goals as goal

pub returns-in_ok-copy-in-Shard-Store-clause-served : goal.returns-in_ok-copy-in-Shard-Store-clause-served
returns-in_ok-copy-in-Shard-Store-clause-served c =
    let answer = reply.Store c.in_ok-copy-in-Shard-Store.reply in
    subst (λ (at : PlaceId). HaveServed at c.args.request.now answer c.args.self.now c.serve_store.new.self) (sym c.in-Shard-Store.is-0)
    (subst (λ (r : Request). HaveServed (place.Shard c.in-Shard-Store.shard) r answer c.args.self.now c.serve_store.new.self) (sym c.in-Shard-Store.is-1)
    c.in_ok-copy-in-Shard-Store.ensures.served)

pub returns-in_ok-copy-in-Manager-Manager-clause-served : goal.returns-in_ok-copy-in-Manager-Manager-clause-served
returns-in_ok-copy-in-Manager-Manager-clause-served c =
    let answer = reply.Manager c.in_ok-copy-in-Manager-Manager.reply in
    subst (λ (at : PlaceId). HaveServed at c.args.request.now answer c.args.self.now c.serve_manager.new.self) (sym c.in-Manager-Manager.is-0)
    (subst (λ (r : Request). HaveServed (place.Manager c.in-Manager-Manager.manager) r answer c.args.self.now c.serve_manager.new.self) (sym c.in-Manager-Manager.is-1)
    c.in_ok-copy-in-Manager-Manager.ensures.served)
