use Rattle.std.proofs.Common.{sym, ◌∙◌}
use Rattle.tl_si.proofs.Changes.{effect_is}
use Rattle.tl_si.proofs.statement.effect_on.Goals as goal

pub returns : goal.returns
returns c =
    effect_is c.rows_suffice.ensures c.args.catalog.now c.args.edit.now c.args.past.now _ c.args.t.now c.number_of-number.result c.table_of-table.result.now c.in_ok-view.view c.change-effect.result
    c.requires c.t.view_is c.number_of-number.ensures c.table_of-table.ensures c.in_ok-view.ensures (sym c.wants_memory.ensures ∙ c.if-wants_memory.false) c.change-effect.ensures.told
