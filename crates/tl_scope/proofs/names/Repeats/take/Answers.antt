use Rattle.std.proofs.Common.{Bool, ap, ◌∙◌}
use Rattle.tl_scope.specs.declared.fault.BindKind.TheVariants as kind
use Rattle.tl_scope.specs.Fault.{earliest, fault_if, least}
use Rattle.tl_scope.proofs.Repeated.{name_taken}
use Rattle.tl_scope.proofs.names.Repeats.take.Goals as goal

pub returns : goal.returns
returns c =
    let old = c.args.self.now in
    let name = c.args.name.now in
    name_taken old.fault c.earliest-self.result old.seen c.insert.new.self name c.in_ok-insert.ensures
    (c.earliest-self.ensures ∙ ap (earliest old.fault) (c.fault_if-again.ensures ∙ ap (λ (b : Bool). least (fault_if b name.at kind.Twice)) c.contains.ensures))
