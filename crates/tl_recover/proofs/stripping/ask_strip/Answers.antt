use Rattle.std.proofs.Common.{ap, ◌∙◌}
use Rattle.std.specs.Prelude.{slice_get}
use Rattle.tl_logrec.specs.declared.entry.Flag.TheVariants as flag
use Rattle.tl_protocol.specs.Next.{marked}
use Rattle.tl_protocol.specs.Store.{LogCell}
use Rattle.tl_recover.proofs.Strip.{marks}
use Rattle.tl_recover.proofs.stripping.ask_strip.Goals as goal

pub returns-in_ok-value-in-None-clause-next : goal.returns-in_ok-value-in-None-clause-next
returns-in_ok-value-in-None-clause-next c =
    let log : LogCell = c.args.log.now in
    let again = c.log-in-None.view_is ∙ c.in_ok-value-in-None.ensures.kept in
    marks c.args.layout log (slice_get log.entry.writes c.args.at) c.log-in-None.inside.stamp c.store_log.result
    (c.in-None.ensures.value ∙ ap (λ (cell : LogCell). slice_get cell.entry.writes c.args.at) c.log.view_is)
    (ap (λ (cell : LogCell). cell.stamp) again)
    (c.store_log.ensures (marked 0 flag.Undone log).entry c.in_ok-value-in-None.ensures.bytes (ap (λ (cell : LogCell). cell.entry.tid) again))
