use Rattle.std.proofs.Common.{ap, ◌∙◌}
use Rattle.std.specs.Prelude.{slice_get}
use Rattle.tl_protocol.specs.Store.{LogCell}
use Rattle.tl_recover.proofs.Strip.{takes_mark}
use Rattle.tl_recover.proofs.stripping.takes_loaded.Goals as goal

pub returns-in-None : goal.returns-in-None
returns-in-None c =
    takes_mark c.args.catalog.now c.args.layout c.args.lost c.args.log c.args.at (slice_get c.args.log.entry.writes c.args.at) c.args.reply.now c.takes_marked.result
    (c.in-None.ensures.value ∙ ap (λ (cell : LogCell). slice_get cell.entry.writes c.args.at) c.log.view_is)
    (c.takes_marked.ensures c.args.log c.args.at)
