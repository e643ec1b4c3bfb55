use Rattle.std.proofs.Common.{◌≡◌, ℕ, ◌==◌, List, Option, Some, Result, ap, subst, sym, ◌∙◌}
use Rattle.tl_write.specs.declared.fault.ChangeFault.{ChangeFault}
use Rattle.tl_write.specs.declared.write.Effect.{Effect}
use Rattle.tl_isolation.specs.declared.bound.Bound.TheVariants as bound
use Rattle.tl_isolation.specs.declared.state.Commit.{Commit}
use Rattle.tl_isolation.specs.declared.state.SiState.{SiState}
use Rattle.tl_isolation.specs.declared.state.Transaction.{Transaction}
use Rattle.tl_isolation.specs.Meaning.{change_of, told_of}
use Rattle.tl_isolation.specs.Step.{effect_on, take_statement}
use Rattle.tl_si.specs.Shown.{IsOut, TakesOut, shown}
use Rattle.tl_si.specs.Sound.{AreHome}
use Rattle.tl_si.specs.Statements.{view}
use Rattle.tl_si.proofs.Alone.{put_changed}
use Rattle.tl_si.proofs.Changes.{changed_is}
use Rattle.tl_si.proofs.Stays.{own_of, said_tid, view_home}
use Rattle.tl_si.proofs.statement.take_change.Goals as goal

out : (c : goal.In_ok-put_back) → IsOut (λ (t : Transaction). t.node == c.args.node) c.args.state.now c.in-Some.at c.in-Some.t c.take_by.new.self
out c = subst (λ (o : Option (ℕ × Transaction)). TakesOut (λ (t : Transaction). t.node == c.args.node) c.args.state.now o c.take_by.new.self) c.in-Some.is c.take_by.ensures

pub effect_on-requires : goal.effect_on-requires
effect_on-requires c =
    let out : IsOut (λ (t : Transaction). t.node == c.args.node) c.args.state.now c.in-Some.at c.in-Some.t c.take_by.new.self =
    subst (λ (o : Option (ℕ × Transaction)). TakesOut (λ (t : Transaction). t.node == c.args.node) c.args.state.now o c.take_by.new.self) c.in-Some.is c.take_by.ensures in
    subst (λ (cs : List Commit). AreHome c.args.catalog.now (view cs c.in-Some.t)) (sym (ap (λ (s : SiState). s.commits) out.rest))
    (view_home c.args.catalog.now (shown c.args.state.now) c.in-Some.t c.requires
    (own_of c.args.catalog.now (shown c.args.state.now) c.requires (λ (t : Transaction). t.node == c.args.node) c.in-Some.t out.first))

pub returns : goal.returns
returns c =
    let commits : c.take_by.new.self.commits ≡ c.args.state.now.commits = ap (λ (s : SiState). s.commits) (out c).rest in
    let effect : c.in_ok-effect.effect ≡ effect_on c.args.catalog.now (shown c.args.state.now) c.in-Some.t c.args.edit.now =
    c.in_ok-effect.ensures ∙ ap (λ (cs : List Commit). change_of c.args.catalog.now c.args.edit.now (view cs c.in-Some.t) c.in-Some.t.own) commits in (
      (
        c.in-Some.t,
        (out c).first,
        (
          sym c.takes_statement.ensures ∙ c.if-not-takes_statement.false,
          subst (λ (r : Result Effect ChangeFault). told_of r ≡ Some c.args.said.now.answer) effect (c.tells_change.ensures.0 c.if-not-tells_change.false),
        ),
      ),
      put_changed (λ (t : Transaction). t.node == c.args.node) (take_statement c.args.catalog.now (shown c.args.state.now) (bound.Change c.args.edit.now) c.args.said.now)
          c.args.state.now c.take_by.new.self c.put_back.new.self c.in-Some.at c.in-Some.t c.in_ok-with_effect.field-0 c.requires.alone (out c)
          (changed_is c.args.said.now.answer c.args.said.now.answered c.in-Some.t c.in_ok-kept.kept c.in_ok-with_effect.field-0 c.in_ok-effect.effect
          (effect_on c.args.catalog.now (shown c.args.state.now) c.in-Some.t c.args.edit.now) c.in_ok-kept.ensures effect c.in_ok-with_effect.ensures)
          (said_tid c.args.catalog.now (shown c.args.state.now) (bound.Change c.args.edit.now) c.args.said.now c.in-Some.t) c.in_ok-put_back.ensures,
    )
