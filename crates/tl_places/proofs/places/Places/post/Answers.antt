use Rattle.std.proofs.Common.{ℕ, ◌<◌, length, sym, subst}
use Rattle.tl_places.specs.Places.{PlacesState}
use Rattle.tl_places.proofs.Events.{manager_served}
use Rattle.tl_places.proofs.places.Places.post.Goals as goal

pub returns-clause-served : goal.returns-clause-served
returns-clause-served c =
    let within : c.from.result < length c.self.inside.managers.items =
    subst (λ (p : PlacesState). c.from.result < length p.managers) (sym c.self.view_is)
    (subst (λ (m : ℕ). m < length c.args.self.now.managers) (sym c.from.ensures) c.requires.manager) in
    manager_served c.args.self.now c.self.inside.shards.items c.self.inside.managers.items c.args.manager c.from.result c.index_mut.result.now c.apply.new.self
    c.args.notice.now c.in-Ok.reply c.self.view_is c.from.ensures within c.index_mut.ensures.value c.in-Ok.ensures.replied c.in-Ok.ensures.changed
