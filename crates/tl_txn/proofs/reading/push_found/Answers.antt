use Rattle.std.proofs.Common.{◌++◌, List, get_or, take, sym, ap, ◌∙◌, append_assoc}
use Rattle.std.specs.Option.{option_to_list}
use Rattle.tl_values.specs.declared.value.Value.{Value}
use Rattle.tl_versions.specs.declared.version.Version.{Version}
use Rattle.tl_protocol.specs.Store.{row_shown}
use Rattle.tl_journal.specs.Ask.{Found}
use Rattle.tl_journal.specs.Reads.{rows_found}
use Rattle.tl_txn.proofs.Pages.{shown_more}
use Rattle.tl_txn.proofs.reading.push_found.Goals as goal

pub loop-cell-preserved : goal.loop-cell-preserved
loop-cell-preserved c =
    let set = c.args.snapshot.now in
    let found = c.args.found.now in
    let i = c.loop-cell.cell-index in
    let one = get_or found i c.cell-item.result in
    let shown = option_to_list (row_shown set one.versions) in
    let is_one = ap (λ (f : Found). f.versions) (c.cell.view_is ∙ c.cell-item.is) in
    c.in_ok-push_shown.ensures
    ∙ ap (λ (versions : List Version). c.loop-cell.rows ++ option_to_list (row_shown set versions)) is_one
    ∙ ap (λ (rows : List (List Value)). rows ++ shown) c.loop-cell.invariant
    ∙ append_assoc c.args.rows.now (rows_found set (take i found)) shown
    ∙ ap (λ (rows : List (List Value)). c.args.rows.now ++ rows) (sym (shown_more set found i c.cell-item.result c.loop-cell-test.true))
