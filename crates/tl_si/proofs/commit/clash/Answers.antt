use Rattle.std.proofs.Common.{ℕ, ◌==◌, Option, refl, subst}
use Rattle.std.proofs.lemmas.Bool.{both_ways}
use Rattle.tl_isolation.specs.declared.state.Transaction.{Transaction}
use Rattle.tl_si.specs.Shown.{IsOut, TakesOut}
use Rattle.tl_isolation.specs.Step.{meet_rival}
use Rattle.tl_si.proofs.Alone.{put_changed}
use Rattle.tl_si.proofs.commit.clash.Goals as goal

pub returns-then-not-may_clash : goal.returns-then-not-may_clash
returns-then-not-may_clash c catalog a = both_ways c.may_clash.result c.if-not-may_clash.true ((c.may_clash.ensures catalog).1 a)

out : (c : goal.In_ok-put_back) → IsOut (λ (t : Transaction). t.tid == c.args.tid) c.args.state.now c.in-Some.place c.in-Some.t c.take_as.new.self
out c = subst (λ (o : Option (ℕ × Transaction)). TakesOut (λ (t : Transaction). t.tid == c.args.tid) c.args.state.now o c.take_as.new.self) c.in-Some.is c.take_as.ensures

pub returns : goal.returns
returns c catalog = (
  (c.may_clash.ensures catalog).0 c.if-not-may_clash.false,
  put_changed (λ (t : Transaction). t.tid == c.args.tid) (meet_rival c.args.rival) c.args.state.now c.take_as.new.self c.put_back.new.self c.in-Some.place c.in-Some.t c.meet_rival.result
      c.requires (out c) c.meet_rival.ensures refl c.in_ok-put_back.ensures,
)
