use Rattle.std.proofs.Common.{sym, ◌∙◌}
use Rattle.std.proofs.lemmas.Bool.{ne_eqb}
use Rattle.tl_descriptor.specs.Tids.{TidSet}
use Rattle.tl_descriptor.proofs.Members.{is_new, put_apart}
use Rattle.tl_descriptor.proofs.descriptor.Descriptor.insert.Goals as goal

pub invariant_of-self : goal.invariant_of-self
invariant_of-self c =
    let set : TidSet = record { base = c.self.inside.base; runs = c.self.inside.runs } in
    let absent = rw (← c.self.view_is) at (sym c.has.ensures ∙ c.if-has.false) in
    let new = is_new set c.args.tid c.self.invariant c.requires absent (ne_eqb _ _ c.if-tid-self.false) in
    record { base_fits = c.self.invariant.base_fits; apart = rw c.in_ok-put.ensures.ok (put_apart c.self.inside.base c.args.tid c.self.inside.runs new) }
