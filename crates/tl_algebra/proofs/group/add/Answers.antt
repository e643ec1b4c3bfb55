use Rattle.std.proofs.Common.{List, [], ◌∷◌, ◌++◌, ap, sym, ◌∙◌}
use Rattle.std.specs.List.{position}
use Rattle.tl_values.specs.Value.{values_at}
use Rattle.tl_algebra.specs.declared.group.Group.{Group}
use Rattle.tl_algebra.specs.Group.{same_row}
use Rattle.tl_algebra.proofs.Groups.{added_at, added_new}
use Rattle.tl_algebra.proofs.group.add.Goals as goal

pub returns-in_ok-push-in-Some : goal.returns-in_ok-push-in-Some
returns-in_ok-push-in-Some c =
    let at_group = λ (groups : List Group). position (λ (g : Group). same_row g.values (values_at c.args.places.now c.args.row)) groups in
    added_at c.args.places.now c.args.row c.args.groups.now.items c.in-Some.at c.index_mut.result.now c.push.new.self
    (sym (c.in-Some.ensures ∙ ap at_group c.as_slice.ensures.value)) c.index_mut.ensures.value c.in_ok-push-in-Some.ensures.ok

pub returns-in_ok-push-in-None : goal.returns-in_ok-push-in-None
returns-in_ok-push-in-None c =
    let at_group = λ (groups : List Group). position (λ (g : Group). same_row g.values (values_at c.args.places.now c.args.row)) groups in
    c.in_ok-push-in-None.ensures.items
    ∙ ap (λ (g : Group). c.args.groups.now.items ++ g ∷ []) c.in_ok-new_group-in-None.ensures
    ∙ added_new c.args.places.now c.args.row c.args.groups.now.items (sym (c.in-None.ensures ∙ ap at_group c.as_slice.ensures.value))
