use Rattle.std.proofs.Common.{List, Option, ap, sym, ◌∙◌}
use Rattle.tl_values.specs.declared.value.Value.{Value}
use Rattle.tl_versions.specs.Reading.{read_cell}
use Rattle.tl_render.specs.Stored.{put_row, row_in}
use Rattle.tl_render.proofs.stored.show_row.Goals as goal

pub returns : goal.returns
returns c =
    c.in_ok-put_row.ensures
    ∙ ap (λ (row : Option (List Value)). put_row c.args.key.now row c.args.rows.now)
    (c.row_shown-row.ensures ∙ ap (row_in c.args.finished.now) (sym c.in_ok-versions.ensures ∙ ap read_cell c.as_slice.ensures))
