use Rattle.std.proofs.Common.{sym, ◌∙◌, subst}
use Rattle.tl_manager.specs.declared.mark.Mark.TheVariants as mark
use Rattle.tl_node.specs.After.{IsTold}
use Rattle.tl_node.specs.Fits.{IsFit}
use Rattle.tl_node.specs.View.{value_of}
use Rattle.tl_node.specs.declared.told.Rest.TheVariants as rest
use Rattle.tl_node.specs.declared.work.Work.{Work}
use Rattle.tl_node.proofs.Stopping.{given_told, refused_fits, refused_told}
use Rattle.tl_node.proofs.node.take_given.Goals as goal

pub returns-then-may_be_given-clause-told : goal.returns-then-may_be_given-clause-told
returns-then-may_be_given-clause-told c =
    given_told c.args.core.now c.take_reply.new.core c.args.work c.take_reply.result.0 c.args.reply.now c.take_reply.result.1.mark c.take_reply.result.1.rest
    (sym c.may_be_given.ensures ∙ c.if-may_be_given.true) c.take_reply.ensures.told

pub returns-else-may_be_given-clause-told : goal.returns-else-may_be_given-clause-told
returns-else-may_be_given-clause-told c =
    subst (λ (w : Work). IsTold (value_of c.args.core.now c.args.work) c.args.reply.now (value_of c.args.core.now w) mark.Quiet rest.Strange) (sym c.stopped.ensures)
    (refused_told c.args.core.now c.args.work c.args.reply.now c.requires (sym c.may_be_given.ensures ∙ c.if-may_be_given.false))

pub returns-else-may_be_given-clause-fits : goal.returns-else-may_be_given-clause-fits
returns-else-may_be_given-clause-fits c =
    subst (λ (w : Work). IsFit c.args.core.now w) (sym c.stopped.ensures)
    (refused_fits c.args.core.now c.args.work c.args.reply.now c.requires (sym c.may_be_given.ensures ∙ c.if-may_be_given.false))
