use Rattle.std.proofs.Common.{◌≤◌, List, length, ap, sym, subst, ◌∙◌}
use Rattle.tl_grammar.specs.declared.statement.ColumnForm.{ColumnForm}
use Rattle.tl_scope.specs.Statement.{statement_faults}
use Rattle.tl_names.specs.Define.{defined, index_defined}
use Rattle.tl_names.proofs.Within.{table_few}
use Rattle.tl_names.proofs.create.add.Goals as goal

pub table_made-requires : goal.table_made-requires
table_made-requires c =
    let catalog = c.args.catalog.now in
    let s = c.in-CreateTable in
    subst (λ (columns : List ColumnForm). length columns ≤ 256) (sym c.as_slice.ensures)
    (table_few catalog s.name s.columns s.key (sym (ap (statement_faults catalog) s.is) ∙ c.requires.faults))

pub returns-in-None-clause-ok : goal.returns-in-None-clause-ok
returns-in-None-clause-ok c =
    let catalog = c.args.catalog.now in
    let s = c.in-CreateIndex in
    ap (index_defined catalog s.name s.columns) (sym c.in-None.is ∙ c.table_place.ensures.value) ∙ sym (ap (defined catalog) s.is)
