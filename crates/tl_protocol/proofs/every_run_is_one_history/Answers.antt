use Rattle.tl_protocol.proofs.Reached.{reached}
use Rattle.tl_protocol.proofs.Standing.{nodes_know, one_mender, stands_for}
use Rattle.tl_protocol.proofs.every_run_is_one_history.Goals as goal

pub returns : goal.returns
returns c = record {
  history = λ layout setup w s es fits r. let p = reached fits r in (p.history, p.state);
  stands = λ layout setup w s es fits r. stands_for setup w s es (reached fits r);
  knows = λ layout setup w s es fits r. nodes_know setup w s es (reached fits r);
  mended = λ layout setup w s es fits r. one_mender setup w s es (reached fits r);
}
