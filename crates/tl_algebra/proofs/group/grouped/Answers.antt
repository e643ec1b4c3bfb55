use Rattle.std.proofs.Common.{List, [], ap, map, ◌∙◌}
use Rattle.std.specs.Vec.Iter.{into_iter_items}
use Rattle.tl_values.specs.declared.value.Value.{Value}
use Rattle.tl_algebra.specs.declared.group.Group.{Group}
use Rattle.tl_algebra.proofs.Growing.{added_all, are_grouped}
use Rattle.tl_algebra.proofs.group.grouped.Goals as goal

pub loop-row-init : goal.loop-row-init
loop-row-init c =
    let places = c.args.places.now in
    ap (λ (groups : List Group). map (λ (group : Group). group.rows) (added_all places (into_iter_items c.into_iter-row-iterator.result) groups)) c.new-groups.ensures.items
    ∙ ap (λ (rows : List (List Value)). map (λ (group : Group). group.rows) (added_all places rows [])) (c.into_iter-row-iterator.ensures.into_iter_gives.0 ∙ c.into_vec-row-items.ensures)
    ∙ are_grouped places c.args.rows
