use Rattle.std.proofs.Common.{List, sym, subst}
use Rattle.tl_schema.specs.declared.catalog.Catalog.{Catalog}
use Rattle.tl_isolation.specs.declared.bound.Bound.{Bound}
use Rattle.tl_node.specs.Named.{AreNamed}
use Rattle.tl_node.proofs.node.opening_core.Goals as goal

pub invariant_of-result : goal.invariant_of-result
invariant_of-result c = record {
  named =
      subst (λ (catalog : Catalog). AreNamed catalog c.in_ok-statements.statements) (sym c.in_ok-catalog.ensures)
      (subst (λ (statements : List Bound). AreNamed c.args.setup.now.catalog statements) (sym c.in_ok-statements.ensures) c.requires.named);
}
