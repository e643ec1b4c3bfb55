use Rattle.std.proofs.Common.{ℕ, List, Bool, Option, ap, sym, ◌∙◌}
use Rattle.tl_scope.specs.declared.fault.BindKind.TheVariants as kind
use Rattle.tl_scope.specs.Change.{is_in_key, set_place_faults}
use Rattle.tl_scope.specs.Fault.{fault_if, least}
use Rattle.tl_scope.proofs.change.set_place_fault.Goals as goal

pub returns-in-Some : goal.returns-in-Some
returns-in-Some c =
    let table = c.args.table.now in
    let at = c.args.at in
    c.fault_if.ensures
    ∙ ap (λ (b : Bool). least (fault_if b at kind.KeyChange)) (c.is_in_key.ensures ∙ ap (λ (key : List ℕ). is_in_key key c.in-Some.place) c.as_slice.ensures)
    ∙ ap (λ (o : Option ℕ). least (set_place_faults table at o)) (sym c.in-Some.is)
