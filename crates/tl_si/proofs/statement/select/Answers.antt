use Rattle.std.proofs.Common.{◌≡◌, ℕ, ◌==◌, List, Option, ap, subst, sym, ◌∙◌}
use Rattle.tl_isolation.specs.declared.bound.Bound.TheVariants as bound
use Rattle.tl_isolation.specs.declared.state.Commit.{Commit}
use Rattle.tl_isolation.specs.declared.state.SiState.{SiState}
use Rattle.tl_isolation.specs.declared.state.Transaction.{Transaction}
use Rattle.tl_isolation.specs.Meaning.{SelectAnswers}
use Rattle.tl_isolation.specs.Step.{take_statement}
use Rattle.tl_si.specs.Shown.{IsOut, TakesOut, shown}
use Rattle.tl_si.specs.Statements.{view}
use Rattle.tl_si.proofs.Alone.{put_changed}
use Rattle.tl_si.proofs.Stays.{said_tid}
use Rattle.tl_si.proofs.statement.select.Goals as goal

out : (c : goal.In_ok-put_back) → IsOut (λ (t : Transaction). t.node == c.args.node) c.args.state.now c.in-Some.at c.in-Some.t c.take_by.new.self
out c = subst (λ (o : Option (ℕ × Transaction)). TakesOut (λ (t : Transaction). t.node == c.args.node) c.args.state.now o c.take_by.new.self) c.in-Some.is c.take_by.ensures

pub returns : goal.returns
returns c catalog =
    let commits : c.take_by.new.self.commits ≡ c.args.state.now.commits = ap (λ (s : SiState). s.commits) (out c).rest in (
      (
        c.in-Some.t,
        (out c).first,
        (
          sym c.takes_statement.ensures ∙ c.if-not-takes_statement.false,
          subst (λ (cs : List Commit). SelectAnswers c.args.query.now (view cs c.in-Some.t) c.args.said.now.answer) commits (c.in_ok-tells_query.ensures.0 c.if-not-branch.false),
        ),
      ),
      put_changed (λ (t : Transaction). t.node == c.args.node) (take_statement catalog (shown c.args.state.now) (bound.Select c.args.query.now) c.args.said.now)
          c.args.state.now c.take_by.new.self c.put_back.new.self c.in-Some.at c.in-Some.t c.in_ok-keep_answer.field-0
          c.requires (out c) c.in_ok-keep_answer.ensures (said_tid catalog (shown c.args.state.now) (bound.Select c.args.query.now) c.args.said.now c.in-Some.t) c.in_ok-put_back.ensures,
    )
