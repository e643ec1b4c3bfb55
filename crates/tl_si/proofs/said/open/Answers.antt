use Rattle.std.proofs.Common.{ℕ, ◌==◌, Option, subst, sym, ◌∙◌}
use Rattle.tl_isolation.specs.declared.state.Transaction.{Transaction}
use Rattle.tl_isolation.specs.Step.{open_by_begin}
use Rattle.tl_si.specs.Shown.{IsOut, TakesOut, shown}
use Rattle.tl_si.proofs.Alone.{put_changed}
use Rattle.tl_si.proofs.Sayings.{begin_may}
use Rattle.tl_si.proofs.Stays.{opened_tid}
use Rattle.tl_si.proofs.said.open.Goals as goal

out : (c : goal.In_ok-put_back) → IsOut (λ (t : Transaction). t.node == c.args.node) c.args.state.now c.in-Some.at c.in-Some.t c.take_by.new.self
out c = subst (λ (o : Option (ℕ × Transaction)). TakesOut (λ (t : Transaction). t.node == c.args.node) c.args.state.now o c.take_by.new.self) c.in-Some.is c.take_by.ensures

pub returns : goal.returns
returns c catalog = (
  begin_may catalog (shown c.args.state.now) c.args.node c.args.said.now.answered c.in-Some.t (out c).first c.if-not-said.false c.args.said.now.answer
      (sym c.may_answer_begin.ensures ∙ c.if-not-may_answer_begin.false),
  put_changed (λ (t : Transaction). t.node == c.args.node) open_by_begin c.args.state.now c.take_by.new.self c.put_back.new.self c.in-Some.at c.in-Some.t c.open_by_begin.result
      c.requires (out c) c.open_by_begin.ensures (opened_tid c.in-Some.t) c.in_ok-put_back.ensures,
)
