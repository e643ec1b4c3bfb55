use Rattle.std.proofs.Common.{Some, None, sym, ap, ◌∙◌}
use Rattle.tl_descriptor.specs.Tids.{TidSet}
use Rattle.tl_ask.specs.Asked.{asked}
use Rattle.tl_txn.specs.Calls.{ask_commit, commits, own_in}
use Rattle.tl_txn.specs.declared.phase.Phase.{Phase}
use Rattle.tl_txn.specs.declared.txn.Txn.{Txn}
use Rattle.tl_node.specs.Leads.{is_at_once}
use Rattle.tl_node.specs.declared.work.Course.TheVariants as way
use Rattle.tl_node.specs.declared.work.Work.TheVariants as work
use Rattle.tl_node.proofs.Leads.{leads_at_once}
use Rattle.tl_node.proofs.running.commit_at_once.Goals as goal

pub returns : goal.returns
returns c = λ statement to.
    let core = c.args.core.now in
    let txn = c.args.txn in
    leads_at_once core statement txn c.args.stage c.running.result c.requires.own to
    (λ live is. ap (λ (p : Phase). is_at_once core.layout (own_in p)) (sym is) ∙ c.requires.once)
    (c.running.ensures
    ∙ ap (λ (t : Txn). work.Runs (record { txn = t; stage = c.args.stage; course = way.Ends None })) c.in_ok-commit.ensures.ok
    ∙ ap
    (λ (floor : TidSet).
    work.Runs
    (record {
      txn = record txn { phase = commits txn.node floor txn.phase; next = Some (asked txn.layout (ask_commit txn.node floor txn.phase)) };
      stage = c.args.stage;
      course = way.Ends None;
    })) c.least.ensures.exact)
