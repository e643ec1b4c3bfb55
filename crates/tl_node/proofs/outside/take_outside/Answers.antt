use Rattle.tl_node.proofs.OutsideReplies.{claims_so, idles_so}
use Rattle.tl_node.proofs.outside.take_outside.Goals as goal

pub returns-in-Idles-clause-after : goal.returns-in-Idles-clause-after
returns-in-Idles-clause-after c =
    idles_so c.args.core.now c.answer_outside.new.core c.args.outside c.in-Idles.field-0 c.args.reply.now c.answer_outside.result c.in-Idles.is c.requires
    c.answer_outside.ensures.after

pub returns-clause-after : goal.returns-clause-after
returns-clause-after c =
    claims_so c.args.core.now c.take_claim.new.core c.args.outside c.in-Claims.gone c.in-Claims.asked c.args.reply.now c.take_claim.result c.in-Claims.is c.requires
    c.take_claim.ensures.after
