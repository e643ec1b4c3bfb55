use Rattle.std.proofs.Common.{ℕ, ◌==◌, Option, subst, sym, ◌∙◌}
use Rattle.tl_isolation.specs.declared.state.Transaction.{Transaction}
use Rattle.tl_si.specs.Shown.{IsOut, TakesOut, shown}
use Rattle.tl_si.proofs.Endings.{undone_is}
use Rattle.tl_si.proofs.undo.undo.Goals as goal

pub returns : goal.returns
returns c catalog =
    let out : IsOut (λ (t : Transaction). t.tid == c.args.tid) c.args.state.now c.in-Some.field-0-0 c.in-Some.t c.take_as.new.self =
    subst (λ (o : Option (ℕ × Transaction)). TakesOut (λ (t : Transaction). t.tid == c.args.tid) c.args.state.now o c.take_as.new.self) c.in-Some.is c.take_as.ensures in (
      (c.in-Some.t, out.first, sym c.may_undo.ensures ∙ c.if-not-may_undo.false),
      undone_is c.args.tid c.args.state.now c.take_as.new.self c.in-Some.field-0-0 c.in-Some.t out _ c.undo_answer.result (shown c.end_with.new.state) c.t.view_is c.undo_answer.ensures
          c.in_ok-end_with.ensures,
    )
