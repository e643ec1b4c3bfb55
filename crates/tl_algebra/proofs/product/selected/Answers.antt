use Rattle.std.proofs.Common.{◌∙◌, ap, rules}
use Rattle.std.specs.List.{filter}
use Rattle.std.proofs.lemmas.Fn.{filter_same}
use Rattle.tl_algebra.specs.Select.{passes}
use Rattle.tl_algebra.proofs.product.selected.Goals as goal

pub returns : goal.returns
returns c =
    c.from_vec.ensures ∙ filter_same _ (passes c.args.query.now) _ (λ x b f k. search rules) _ _ c.retain.ensures.filtered
    ∙ ap (filter (passes c.args.query.now)) (c.into_vec-rows.ensures ∙ c.in_ok-product.ensures)
