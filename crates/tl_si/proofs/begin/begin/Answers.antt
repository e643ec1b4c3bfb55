use Rattle.std.proofs.Common.{ℕ, List, [], ◌∷◌, ◌++◌, ap, ◌∙◌}
use Rattle.std.proofs.lemmas.Bool.{both_ways}
use Rattle.tl_isolation.specs.declared.state.Transaction.{Transaction}
use Rattle.tl_si.specs.Shown.{shown}
use Rattle.tl_si.proofs.Endings.{began_is}
use Rattle.tl_si.proofs.begin.begin.Goals as goal

pub returns-then-not-may_begin : goal.returns-then-not-may_begin
returns-then-not-may_begin c catalog a = both_ways c.may_begin.result c.if-not-may_begin.true ((c.may_begin.ensures catalog).1 a)

pub returns : goal.returns
returns c catalog = (
  (c.may_begin.ensures catalog).0 c.if-not-may_begin.false,
  began_is (shown c.args.state.now) c.args.node c.args.tid c.args.first c.in_ok-state.field-0 c.push.new.self.items c.note.new.nodes.items
      (c.in_ok-state.ensures ∙ ap (λ (ns : List ℕ). ns ++ c.args.tid ∷ []) c.replace-begun.ensures.value)
      (c.in_ok-push.ensures.items ∙ ap (λ (t : Transaction). c.args.state.now.held.items ++ t ∷ []) c.new-2.ensures)
      c.in_ok-note.ensures,
)
