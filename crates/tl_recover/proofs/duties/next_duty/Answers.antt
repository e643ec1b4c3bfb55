use Rattle.std.proofs.Common.{Some, None, ap, ◌∙◌, ◌≡◌}
use Rattle.tl_recover.specs.Duties.{first_of}
use Rattle.tl_recover.specs.Heeds.{written}
use Rattle.tl_recover.specs.Taken.{duties_after}
use Rattle.tl_recover.proofs.NextDuty.{to_end, to_first}
use Rattle.tl_recover.proofs.duties.next_duty.Goals as goal

pub returns-in-Some : goal.returns-in-Some
returns-in-Some c =
    let left = duties_after c.args.node c.args.all in
    let first : Some c.in-Some.duty ≡ first_of left = c.in-Some.ensures ∙ ap (λ n. first_of (duties_after n c.args.all)) c.number.ensures.value in
    c.finding.ensures ∙ ap (written c.args.layout) (to_first c.args.layout c.in-Some.duty left first)

pub returns-in-None : goal.returns-in-None
returns-in-None c =
    let left = duties_after c.args.node c.args.all in
    let first : None ≡ first_of left = c.in-None.ensures ∙ ap (λ n. first_of (duties_after n c.args.all)) c.number.ensures.value in
    ap (written c.args.layout) (to_end c.args.layout left first)
