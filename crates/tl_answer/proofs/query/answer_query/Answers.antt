use Rattle.std.proofs.Common.{List, map, ap, subst, ◌∙◌}
use Rattle.tl_algebra.specs.declared.query.Join.{Join}
use Rattle.tl_algebra.specs.Select.{Tells}
use Rattle.tl_plan.specs.Plan.{numbers_of}
use Rattle.tl_journal.specs.Takes.{tables_seen}
use Rattle.tl_answer.proofs.query.answer_query.Goals as goal

pub returns : goal.returns
returns c =
    c.answer_of.ensures c.args.query.now (tables_seen c.args.catalog.now (numbers_of c.args.query.now) c.args.own.now c.args.rows)
    (subst (λ tables. Tells c.args.query.now tables c.rows_of.result)
    (c.as_slice-2.ensures ∙ c.in_ok-seen.ensures
    ∙ ap (λ (from : List Join). tables_seen c.args.catalog.now (map (λ (join : Join). join.table) from) c.args.own.now c.args.rows) c.as_slice.ensures)
    c.rows_of.ensures)
