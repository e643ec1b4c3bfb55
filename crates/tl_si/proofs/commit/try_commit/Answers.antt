use Rattle.std.proofs.Common.{ℕ, ◌==◌, Option, refl, subst, sym, ◌∙◌}
use Rattle.tl_isolation.specs.declared.state.Transaction.{Transaction}
use Rattle.tl_si.specs.Shown.{IsOut, TakesOut}
use Rattle.tl_isolation.specs.Step.{try_commit}
use Rattle.tl_si.proofs.Alone.{put_changed}
use Rattle.tl_si.proofs.commit.try_commit.Goals as goal

out : (c : goal.In_ok-put_back) → IsOut (λ (t : Transaction). t.tid == c.args.tid) c.args.state.now c.in-Some.at c.in-Some.t c.take_as.new.self
out c = subst (λ (o : Option (ℕ × Transaction)). TakesOut (λ (t : Transaction). t.tid == c.args.tid) c.args.state.now o c.take_as.new.self) c.in-Some.is c.take_as.ensures

pub returns : goal.returns
returns c catalog = (
  (c.in-Some.t, (out c).first, sym c.may_try.ensures ∙ c.if-not-may_try.false),
  put_changed (λ (t : Transaction). t.tid == c.args.tid) try_commit c.args.state.now c.take_as.new.self c.put_back.new.self c.in-Some.at c.in-Some.t c.trying.result
      c.requires (out c) c.trying.ensures refl c.in_ok-put_back.ensures,
)
