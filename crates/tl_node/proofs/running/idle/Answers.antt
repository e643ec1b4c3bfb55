use Rattle.std.proofs.Common.{ap, ◌∙◌}
use Rattle.tl_manager.specs.declared.request.ManagerRequest.TheVariants as request
use Rattle.tl_descriptor.specs.Tids.{TidSet}
use Rattle.tl_journal.specs.Ask.{AskManager}
use Rattle.tl_journal.specs.Bytes.{home_of}
use Rattle.tl_ask.specs.Asked.{asked}
use Rattle.tl_node.proofs.Leads.{leads_idle}
use Rattle.tl_node.proofs.running.idle.Goals as goal

pub returns : goal.returns
returns c = λ statement to.
    let core = c.args.core.now in
    leads_idle core statement c.args.txn c.args.stage c.running.result c.requires.own c.ask_floor-asked.result to
    (c.ask_floor-asked.ensures
    ∙ ap (λ (seen : TidSet). asked core.layout (AskManager (home_of core.layout core.number) (request.Floor seen))) (c.in_ok-seen.ensures ∙ c.snapshot.ensures))
    c.running.ensures
