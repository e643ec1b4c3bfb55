use Rattle.std.proofs.Common.{◌==◌, not, rules}
use Rattle.std.proofs.lemmas.Fn.{filter_same}
use Rattle.tl_isolation.specs.declared.state.Transaction.{Transaction}
use Rattle.tl_si.proofs.undo.drop_held.Goals as goal

pub returns : goal.returns
returns c = filter_same _ (λ (t : Transaction). not (t.tid == c.args.tid)) _ (λ x b f k. search rules) _ _ c.retain.ensures.filtered
