use Rattle.std.proofs.Common.{ℕ, ◌==◌, Option, subst, ◌∙◌}
use Rattle.std.proofs.lemmas.Bool.{both_ways}
use Rattle.tl_isolation.specs.declared.state.Transaction.{Transaction}
use Rattle.tl_si.specs.Shown.{IsOut, TakesOut, shown}
use Rattle.tl_si.proofs.Endings.{committed_is, may_commit_is, only_commit}
use Rattle.tl_si.proofs.commit.commit.Goals as goal

pub returns-then-not-may_commit : goal.returns-then-not-may_commit
returns-then-not-may_commit c catalog a =
    let out : IsOut (λ (t : Transaction). t.tid == c.args.tid) c.args.state.now c.in-Some.field-0-0 c.in-Some.t c.take_as.new.self =
    subst (λ (o : Option (ℕ × Transaction)). TakesOut (λ (t : Transaction). t.tid == c.args.tid) c.args.state.now o c.take_as.new.self) c.in-Some.is c.take_as.ensures in
    both_ways c.may_commit.result c.if-not-may_commit.true
    (only_commit c.args.tid c.args.state.now c.take_as.new.self c.in-Some.field-0-0 c.in-Some.t out c.may_commit.result c.may_commit.ensures a)

pub returns : goal.returns
returns c catalog =
    let out : IsOut (λ (t : Transaction). t.tid == c.args.tid) c.args.state.now c.in-Some.field-0-0 c.in-Some.t c.take_as.new.self =
    subst (λ (o : Option (ℕ × Transaction)). TakesOut (λ (t : Transaction). t.tid == c.args.tid) c.args.state.now o c.take_as.new.self) c.in-Some.is c.take_as.ensures in (
      may_commit_is c.args.tid c.args.state.now c.take_as.new.self c.in-Some.field-0-0 c.in-Some.t out c.may_commit.result c.may_commit.ensures c.if-not-may_commit.false,
      committed_is c.args.tid c.args.state.now c.take_as.new.self c.in-Some.field-0-0 c.in-Some.t out _ c.commit_answer.result c.from_vec-writes.result c.replace-past.result c.in_ok-state.field-0 (shown c.end_with.new.state) c.t.view_is c.commit_answer.ensures
          (c.from_vec-writes.ensures ∙ c.into_vec.ensures.writes) c.replace-past.ensures.value c.in_ok-state.ensures c.in_ok-end_with.ensures,
    )
