use Rattle.std.proofs.Common.{◌≡◌, ◌==◌, List, [], ◌∷◌, ap, arith, length, refl, sym, ◌∙◌}
use Rattle.std.proofs.lemmas.Bool.Decides.{nat_tests}
use Rattle.std.proofs.lemmas.List.{drop_all}
use Rattle.tl_values.specs.declared.value.Value.{Value}
use Rattle.tl_values.specs.Value.{values_at}
use Rattle.tl_algebra.specs.Group.{same_row}
use Rattle.tl_algebra.proofs.group.has_values.Goals as goal

ended : (rest : List Value) → (length rest == 0) ≡ same_row rest []
ended [] = refl
ended (x ∷ xs) = grind (arith, nat_tests)

pub returns : goal.returns
returns c =
    let rest = c.loop-place.rest.now in
    let places = c.as_slice-place-items.result.now in
    c.is_empty.ensures ∙ ended rest
    ∙ ap (λ (l : List _). same_row rest (values_at l c.args.row.now)) (sym (drop_all c.loop-place.place-index places c.loop-place-test.false))
    ∙ c.loop-place.invariant
