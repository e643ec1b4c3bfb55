use Rattle.tl_isolation.specs.declared.entry.Answer.TheVariants as answer
use Rattle.tl_node.proofs.Leaving.{stays_left}
use Rattle.tl_node.proofs.OutsideReplies.{claim_given, claim_strange, claim_there}
use Rattle.tl_node.proofs.outside.take_claim.Goals as goal

pub returns-in-Some-There-clause-after : goal.returns-in-Some-There-clause-after
returns-in-Some-There-clause-after c =
    claim_there c.args.core.now c.answer_and_leave.new.core c.args.gone c.args.reply.now c.answer_and_leave.result c.requires (rw c.in-Some-There.field-0-is at c.in-Some-There.ensures) c.answer_and_leave.ensures

pub returns-in-Some-There-clause-stays : goal.returns-in-Some-There-clause-stays
returns-in-Some-There-clause-stays c =
    stays_left c.args.core.now c.answer_and_leave.new.core (answer.There c.args.gone) c.answer_and_leave.result c.answer_and_leave.ensures

pub returns-in-Some-Given-clause-after : goal.returns-in-Some-Given-clause-after
returns-in-Some-Given-clause-after c =
    claim_given c.recoveries_follow_the_node.ensures.begins c.args.core.now c.args.gone c.in-Some-Given.also c.args.reply.now c.recovers.result c.requires (rw c.in-Some-Given.field-0-is at c.in-Some-Given.ensures) c.recovers.ensures

pub returns-in-None-clause-after : goal.returns-in-None-clause-after
returns-in-None-clause-after c = claim_strange c.args.core.now c.args.gone c.args.reply.now c.requires c.in-None.ensures
