use Rattle.std.proofs.Common.{◌==◌, sym, ◌∙◌}
use Rattle.tl_isolation.specs.declared.state.Transaction.{Transaction}
use Rattle.tl_si.specs.Shown.{shown}
use Rattle.tl_si.proofs.Alone.{same_held}
use Rattle.tl_si.proofs.Sayings.{recover_may}
use Rattle.tl_si.proofs.said.recover.Goals as goal

pub returns-then-may_answer_recover : goal.returns-then-may_answer_recover
returns-then-may_answer_recover c catalog = (
  recover_may catalog (shown c.args.state.now) c.args.node c.args.said.now.answered c.args.gone c.if-said.true c.args.said.now.answer
      (sym c.may_answer_recover.ensures ∙ c.if-may_answer_recover.true),
  sym (same_held (λ (t : Transaction). t.node == c.args.node) (shown c.args.state.now) c.requires),
)
