use Rattle.std.proofs.Common.{List, Option, Some, ap, sym, ◌∙◌}
use Rattle.tl_grammar.specs.declared.name.Name.{Name}
use Rattle.tl_bind.specs.Change.{source}
use Rattle.tl_bind.proofs.change.source.Goals as goal

pub returns-in-Some : goal.returns-in-Some
returns-in-Some c =
    c.source_of.ensures
    ∙ ap (λ (ns : List Name). source c.args.columns.now (Some ns) c.args.at) c.as_slice.ensures
    ∙ ap (λ (o : Option (List Name)). source c.args.columns.now o c.args.at) (sym c.in-Some.is)
