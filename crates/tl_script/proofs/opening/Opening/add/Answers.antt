use Rattle.std.proofs.Common.{refl, sym, w64, ◌∙◌}
use Rattle.std.proofs.lemmas.Int.{to_z-of_z}
use Rattle.tl_script.proofs.opening.Opening.add.Goals as goal

pub returns-then-contains : goal.returns-then-contains
returns-then-contains c =
    let found = rw (to_z-of_z w64 c.args.key c.ranges.key) at c.contains.ensures in
    rw (c.not_built.ensures, sym c.self.view_is) (refl, sym (c.self.invariant c.args.key) ∙ sym found ∙ c.if-contains.true)
