use Rattle.std.proofs.Common.{◌≡◌, drop, length, refl, sym, ap, ◌∙◌, subst}
use Rattle.tl_node.specs.After.{IsTold}
use Rattle.tl_node.specs.Fits.{IsFit}
use Rattle.tl_node.specs.View.{NodeValue, value_of}
use Rattle.tl_node.specs.declared.work.Work.{Work}
use Rattle.tl_node.proofs.node.Node.take.Goals as goal

pub take_given-work-requires : goal.take_given-work-requires
take_given-work-requires c = subst (λ (w : Work). IsFit c.self.inside.core w) (sym c.replace-work.ensures.value) c.self.invariant

pub invariant_of-self : goal.invariant_of-self
invariant_of-self c = c.take_given-work.ensures.fits

pub returns-clause-told : goal.returns-clause-told
returns-clause-told c =
    subst (λ (v : NodeValue). IsTold v c.args.reply.now (value_of c.take_given-work.new.core c.take_given-work.result.0) c.take_given-work.result.1.mark c.take_given-work.result.1.rest)
    c.self.view_is
    (subst (λ (w : Work). IsTold (value_of c.self.inside.core w) c.args.reply.now (value_of c.take_given-work.new.core c.take_given-work.result.0) c.take_given-work.result.1.mark c.take_given-work.result.1.rest)
    c.replace-work.ensures.value c.take_given-work.ensures.told)

pub returns-clause-session : goal.returns-clause-session
returns-clause-session c = c.take_given-work.ensures.stays.statements ∙ ap (λ (v : NodeValue). v.session) c.self.view_is

pub returns-clause-todo : goal.returns-clause-todo
returns-clause-todo c = subst (λ (v : NodeValue). v.node.todo ≡ drop (length v.node.answers) v.session) c.self.view_is refl
