use Rattle.std.proofs.Common.{Some, None, refl}
use Rattle.tl_manager.specs.declared.mark.TxnStep.TheVariants as step
use Rattle.tl_isolation.specs.declared.entry.Answer.TheVariants as answer
use Rattle.tl_node.proofs.Leaving.{stays_left}
use Rattle.tl_node.proofs.Recovering.{FollowsLaw, ended_after, going_after, refused_after, wanting_after}
use Rattle.tl_node.proofs.outside.take_recovery.Goals as goal

pub returns-in-Some-Going-clause-after : goal.returns-in-Some-Going-clause-after
returns-in-Some-Going-clause-after c =
    let law : FollowsLaw = record {
      goes_on = c.recoveries_follow_the_node.ensures.goes_on;
      awaits = c.recoveries_follow_the_node.ensures.awaits;
      ends = c.recoveries_follow_the_node.ensures.ends;
      steps = c.recoveries_follow_the_node.ensures.steps;
      strange_alike = c.recoveries_follow_the_node.ensures.strange;
      not_odd = c.recoveries_follow_the_node.ensures.not_odd;
    } in
    going_after law c.args.core.now c.args.gone c.args.recover c.heed.new.self c.args.reply.now (Some (step.Going c.in-Some-Going.mark)) c.requires
    (rw c.in-Some-Going.field-0-is at c.in-Some-Going.ensures) c.in-Some-Going.mark refl

pub returns-in-Some-Ended-clause-after : goal.returns-in-Some-Ended-clause-after
returns-in-Some-Ended-clause-after c =
    let law : FollowsLaw = record {
      goes_on = c.recoveries_follow_the_node.ensures.goes_on;
      awaits = c.recoveries_follow_the_node.ensures.awaits;
      ends = c.recoveries_follow_the_node.ensures.ends;
      steps = c.recoveries_follow_the_node.ensures.steps;
      strange_alike = c.recoveries_follow_the_node.ensures.strange;
      not_odd = c.recoveries_follow_the_node.ensures.not_odd;
    } in
    ended_after law c.args.core.now c.args.gone c.args.recover c.heed.new.self c.args.reply.now (Some (step.Ended c.in-Some-Ended.mark)) c.requires
    (rw c.in-Some-Ended.field-0-is at c.in-Some-Ended.ensures) c.answer_and_leave.new.core c.in-Some-Ended.mark c.answer_and_leave.result refl c.answer_and_leave.ensures

pub returns-in-Some-Ended-clause-stays : goal.returns-in-Some-Ended-clause-stays
returns-in-Some-Ended-clause-stays c =
    stays_left c.args.core.now c.answer_and_leave.new.core (answer.Recovered c.args.gone) c.answer_and_leave.result c.answer_and_leave.ensures

pub returns-in-Some-NoMemory-clause-after : goal.returns-in-Some-NoMemory-clause-after
returns-in-Some-NoMemory-clause-after c =
    let law : FollowsLaw = record {
      goes_on = c.recoveries_follow_the_node.ensures.goes_on;
      awaits = c.recoveries_follow_the_node.ensures.awaits;
      ends = c.recoveries_follow_the_node.ensures.ends;
      steps = c.recoveries_follow_the_node.ensures.steps;
      strange_alike = c.recoveries_follow_the_node.ensures.strange;
      not_odd = c.recoveries_follow_the_node.ensures.not_odd;
    } in
    wanting_after law c.args.core.now c.args.gone c.args.recover c.heed.new.self c.args.reply.now (Some (step.NoMemory c.in-Some-NoMemory.mark)) c.requires
    (rw c.in-Some-NoMemory.field-0-is at c.in-Some-NoMemory.ensures) _ c.in-Some-NoMemory.mark refl

pub returns-in-Some-Ready-clause-after : goal.returns-in-Some-Ready-clause-after
returns-in-Some-Ready-clause-after c =
    let law : FollowsLaw = record {
      goes_on = c.recoveries_follow_the_node.ensures.goes_on;
      awaits = c.recoveries_follow_the_node.ensures.awaits;
      ends = c.recoveries_follow_the_node.ensures.ends;
      steps = c.recoveries_follow_the_node.ensures.steps;
      strange_alike = c.recoveries_follow_the_node.ensures.strange;
      not_odd = c.recoveries_follow_the_node.ensures.not_odd;
    } in
    refused_after law c.args.core.now c.args.gone c.args.recover c.heed.new.self c.args.reply.now (Some c.in-Some-Ready.field-0) c.requires
    c.in-Some-Ready.ensures (Some c.in-Some-Ready.field-0) refl (rw c.in-Some-Ready.field-0-is refl)

pub returns-in-Some-Leaf-clause-after : goal.returns-in-Some-Leaf-clause-after
returns-in-Some-Leaf-clause-after c =
    let law : FollowsLaw = record {
      goes_on = c.recoveries_follow_the_node.ensures.goes_on;
      awaits = c.recoveries_follow_the_node.ensures.awaits;
      ends = c.recoveries_follow_the_node.ensures.ends;
      steps = c.recoveries_follow_the_node.ensures.steps;
      strange_alike = c.recoveries_follow_the_node.ensures.strange;
      not_odd = c.recoveries_follow_the_node.ensures.not_odd;
    } in
    refused_after law c.args.core.now c.args.gone c.args.recover c.heed.new.self c.args.reply.now (Some c.in-Some-Leaf.field-0) c.requires
    c.in-Some-Leaf.ensures (Some c.in-Some-Leaf.field-0) refl (rw c.in-Some-Leaf.field-0-is refl)

pub returns-in-None-clause-after : goal.returns-in-None-clause-after
returns-in-None-clause-after c =
    let law : FollowsLaw = record {
      goes_on = c.recoveries_follow_the_node.ensures.goes_on;
      awaits = c.recoveries_follow_the_node.ensures.awaits;
      ends = c.recoveries_follow_the_node.ensures.ends;
      steps = c.recoveries_follow_the_node.ensures.steps;
      strange_alike = c.recoveries_follow_the_node.ensures.strange;
      not_odd = c.recoveries_follow_the_node.ensures.not_odd;
    } in
    refused_after law c.args.core.now c.args.gone c.args.recover c.heed.new.self c.args.reply.now None c.requires c.in-None.ensures None refl refl
