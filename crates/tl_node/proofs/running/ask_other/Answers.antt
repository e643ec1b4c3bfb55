use Rattle.std.proofs.Common.{◌≡◌, Bool, true, false, sym, ap, ◌∙◌}
use Rattle.std.specs.Prelude.{◌||◌, nat_le}
use Rattle.tl_lemmas.proofs.Tests.{or_second}
use Rattle.tl_descriptor.specs.Tids.{TidSet}
use Rattle.tl_manager.specs.declared.request.ManagerRequest.TheVariants as request
use Rattle.tl_protocol.specs.Move.{is_empty}
use Rattle.tl_journal.specs.Ask.{AskManager}
use Rattle.tl_ask.specs.Asked.{asked}
use Rattle.tl_txn.specs.Calls.{own_in}
use Rattle.tl_txn.specs.declared.phase.Phase.{Phase}
use Rattle.tl_node.specs.Leads.{is_at_once}
use Rattle.tl_node.proofs.Leads.{leads_other}
use Rattle.tl_node.proofs.running.ask_other.Goals as goal

pub returns : goal.returns
returns c = λ statement to.
    let core = c.args.core.now in
    leads_other core statement c.args.txn c.args.stage c.running.result c.requires.own c.other_manager-manager.result c.ask_manager-asked.result to
    (λ live is. ap (λ (p : Phase). is_at_once core.layout (own_in p)) (sym is) ∙ c.requires.other)
    (c.other_manager-manager.ensures (or_second (is_empty (own_in c.args.txn.phase)) (nat_le core.layout.managers 1) c.requires.other))
    (c.ask_manager-asked.ensures
    ∙ ap (λ (seen : TidSet). asked core.layout (AskManager c.other_manager-manager.result (request.Floor seen))) (c.in_ok-seen.ensures ∙ c.snapshot.ensures))
    c.running.ensures
