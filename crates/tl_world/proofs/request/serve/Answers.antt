use Rattle.std.proofs.Common.{rules, sym, subst}
use Rattle.tl_journal.specs.Journal.{IsCall}
use Rattle.tl_places.specs.Places.{HaveServed}
use Rattle.tl_manager.specs.declared.request.Request.{Request}
use Rattle.tl_world.proofs.request.serve.Goals as goal

-- src/request.rt:32:1
pub returns-in-Ok : goal.returns-in-Ok
returns-in-Ok c = (
  c.in_ok-node.node.now,
  search rules,
  record {
    asks_so = search rules;
    call = subst (λ (r : Request). IsCall c.in_ok-place.place r c.in-Ok.reply) (sym c.in-Ok.ensures.copied) c.in-Ok.ensures.call;
    served = subst (λ (r : Request). HaveServed c.in_ok-place.place r c.in-Ok.reply c.args.places.now c.serve.new.self) (sym c.in-Ok.ensures.copied) c.in-Ok.ensures.served;
  },
)
