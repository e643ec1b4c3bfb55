use Rattle.std.proofs.Common.{List, ℕ, ap, subst, ◌∙◌}
use Rattle.std.specs.Prelude.{Option, unwrap_or}
use Rattle.std.specs.FinMap as finmap
use Rattle.tl_si.specs.declared.past.Place.{Place}
use Rattle.tl_si.specs.Places.{HasMore}
use Rattle.tl_si.proofs.Found.{has_more}
use Rattle.tl_si.proofs.past.with_place.Goals as goal

pub returns : goal.returns
returns c =
    let found = c.unwrap_or-found.ensures
    ∙ ap (λ (o : Option (List Place)). unwrap_or o c.new.result) c.remove.ensures.found
    ∙ ap (λ (ps : List Place). unwrap_or (finmap.get c.args.records c.in_ok-key.key) ps) c.new.ensures in
    subst (λ (key : List ℕ). HasMore c.args.records key c.args.place c.insert.new.self) c.in_ok-key.ensures
    (has_more c.args.records c.remove.new.self c.insert.new.self c.in_ok-key.key c.unwrap_or-found.result c.args.place c.remove.ensures.removed found
    (c.in_ok-insert.ensures.ok ∙ ap (λ (ps : List Place). finmap.insert c.remove.new.self c.in_ok-key.key ps) c.in_ok-push.ensures.ok))
