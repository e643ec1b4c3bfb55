use Rattle.std.proofs.Common.{◌≤◌, List, length, ap, sym, subst, ◌∙◌}
use Rattle.tl_grammar.specs.declared.select.FromItem.{FromItem}
use Rattle.tl_scope.specs.Scope.{scope_of}
use Rattle.tl_scope.specs.Statement.{statement_faults}
use Rattle.tl_bind.specs.Place.{columns_in}
use Rattle.tl_names.proofs.Within.{select_few}
use Rattle.tl_names.proofs.statement.bound_of.Goals as goal

pub query_of-requires-clause-columns : goal.query_of-requires-clause-columns
query_of-requires-clause-columns c =
    let catalog = c.args.catalog.now in
    let s = c.in-Select in
    subst (λ (from : List FromItem). length (columns_in (scope_of catalog from)) ≤ 256) (sym c.as_slice-in-Select.ensures)
    (select_few catalog s.items s.from s.filter s.group s.order (sym (ap (statement_faults catalog) s.is) ∙ c.requires.faults) c.requires.within)
