use Rattle.std.proofs.Common.{◌∙◌}
use Rattle.tl_values.specs.Value.{row_cmp}
use Rattle.tl_si.proofs.Ties.{tied_when, tied_unless}
use Rattle.tl_si.proofs.answer.same_rows.Goals as goal

pub returns-then-a-b : goal.returns-then-a-b
returns-then-a-b c = c.each_row_same.ensures ∙ tied_when row_cmp c.args.a.now c.args.b.now c.if-a-b.true

pub returns-else-a-b : goal.returns-else-a-b
returns-else-a-b c = tied_unless row_cmp c.args.a.now c.args.b.now c.if-a-b.false
