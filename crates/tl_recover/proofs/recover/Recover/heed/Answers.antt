use Rattle.std.proofs.Common.{refl, subst}
use Rattle.tl_recover.specs.declared.phase.Phase.{Phase}
use Rattle.tl_recover.specs.Heeds.{IsAfter, hears}
use Rattle.tl_recover.specs.Taken.{takes}
use Rattle.tl_recover.proofs.Steps.{given}
use Rattle.tl_recover.proofs.recover.Recover.heed.Goals as goal

pub returns-in-Ok : goal.returns-in-Ok
returns-in-Ok c =
    let before = c.args.self.now in
    let after = c.in-Ok.field-0 in
    let now = c.replace-phase.result in
    record {
      alloc = refl;
      layout = refl;
      all = refl;
      after = subst
          (λ (p : Phase). IsAfter before.layout (takes before.layout before.all p (hears c.args.catalog.now p c.args.reply.now)) after.phase after.next after.step)
          c.replace-phase.ensures.value
          (given before.layout before.all now (hears c.args.catalog.now now c.args.reply.now) after c.in-Ok.ensures);
    }
