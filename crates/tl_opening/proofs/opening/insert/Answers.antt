use Rattle.std.proofs.Common.{ap, ◌∙◌}
use Rattle.std.proofs.lemmas.Result.{err_from_is_err_and}
use Rattle.tl_opening.specs.Insert.{found_under}
use Rattle.tl_opening.proofs.Found.{inserted, refused}
use Rattle.tl_opening.proofs.opening.insert.Goals as goal

pub returns-in_err-effect : goal.returns-in_err-effect
returns-in_err-effect c =
    let p = err_from_is_err_and c.from_residual-in_err-effect.result c.from_residual-in_err-effect.ensures.1 in
    let fault = c.in_err-effect.field-0.0 in
    rw (p.1, p.2)
    (refused c.args.number c.args.table.now c.args.opening.now c.requires fault c.args.rows c.in_ok-view.view
    (c.in_ok-view.ensures ∙ ap (found_under c.args.number c.args.table.now c.args.opening.now) c.as_slice.ensures) c.in_err-effect.ensures)

pub returns : goal.returns
returns c =
    inserted c.args.number c.args.table.now c.args.opening.now c.requires c.args.rows c.in_ok-view.view c.in_ok-effect.effect c.lay_over.new.opening
    (c.in_ok-view.ensures ∙ ap (found_under c.args.number c.args.table.now c.args.opening.now) c.as_slice.ensures) c.in_ok-effect.ensures c.in_ok-lay_over.ensures
