use Rattle.std.proofs.Common.{Ok, ap, ◌∙◌}
use Rattle.tl_node.proofs.Stopping.{goes_fits, goes_told, says_fits, says_told, strange_fits, strange_told, wants_fits, wants_told}
use Rattle.tl_node.proofs.node.take_reply.Goals as goal

pub returns-in-Ok-Goes-clause-told : goal.returns-in-Ok-Goes-clause-told
returns-in-Ok-Goes-clause-told c =
    goes_told c.args.core.now c.take_work-mark.new.core c.args.work c.args.reply.now c.take_work-mark.result.0 c.take_work-mark.result.1 c.take_work-mark.ensures.after
    c.in-Ok-Goes.work (c.in-Ok-Goes.is ∙ ap Ok c.in-Ok-Goes.field-0-is)

pub returns-in-Ok-Goes-clause-fits : goal.returns-in-Ok-Goes-clause-fits
returns-in-Ok-Goes-clause-fits c =
    goes_fits c.args.core.now c.take_work-mark.new.core c.args.work c.args.reply.now c.take_work-mark.result.0 c.take_work-mark.result.1 c.take_work-mark.ensures.after
    c.in-Ok-Goes.work (c.in-Ok-Goes.is ∙ ap Ok c.in-Ok-Goes.field-0-is)

pub returns-in-Ok-Says-clause-told : goal.returns-in-Ok-Says-clause-told
returns-in-Ok-Says-clause-told c =
    says_told c.args.core.now c.take_work-mark.new.core c.args.work c.args.reply.now c.take_work-mark.result.0 c.take_work-mark.result.1 c.take_work-mark.ensures.after
    c.in-Ok-Says.work c.in-Ok-Says.said (c.in-Ok-Says.is ∙ ap Ok c.in-Ok-Says.field-0-is)

pub returns-in-Ok-Says-clause-fits : goal.returns-in-Ok-Says-clause-fits
returns-in-Ok-Says-clause-fits c =
    says_fits c.args.core.now c.take_work-mark.new.core c.args.work c.args.reply.now c.take_work-mark.result.0 c.take_work-mark.result.1 c.take_work-mark.ensures.after
    c.in-Ok-Says.work c.in-Ok-Says.said (c.in-Ok-Says.is ∙ ap Ok c.in-Ok-Says.field-0-is)

pub returns-in-Ok-Strange-clause-told : goal.returns-in-Ok-Strange-clause-told
returns-in-Ok-Strange-clause-told c =
    strange_told c.args.core.now c.take_work-mark.new.core c.args.work c.args.reply.now c.take_work-mark.result.0 c.take_work-mark.result.1 c.take_work-mark.ensures.after
    c.owed_after-owed.result c.requires c.take_work-mark.ensures.stays c.owed_after-owed.ensures (c.in-Ok-Strange.is ∙ ap Ok c.in-Ok-Strange.field-0-is)

pub returns-in-Ok-Strange-clause-fits : goal.returns-in-Ok-Strange-clause-fits
returns-in-Ok-Strange-clause-fits c =
    strange_fits c.args.core.now c.take_work-mark.new.core c.args.work c.args.reply.now c.take_work-mark.result.0 c.take_work-mark.result.1 c.take_work-mark.ensures.after
    c.owed_after-owed.result c.take_work-mark.ensures.stays (c.in-Ok-Strange.is ∙ ap Ok c.in-Ok-Strange.field-0-is)

pub returns-in-Err-clause-told : goal.returns-in-Err-clause-told
returns-in-Err-clause-told c =
    wants_told c.args.core.now c.take_work-mark.new.core c.args.work c.args.reply.now c.take_work-mark.result.0 c.take_work-mark.result.1 c.take_work-mark.ensures.after
    c.owed_after-owed.result c.in-Err.field-0 c.requires c.take_work-mark.ensures.stays c.owed_after-owed.ensures c.in-Err.is

pub returns-in-Err-clause-fits : goal.returns-in-Err-clause-fits
returns-in-Err-clause-fits c =
    wants_fits c.args.core.now c.take_work-mark.new.core c.args.work c.args.reply.now c.take_work-mark.result.0 c.take_work-mark.result.1 c.take_work-mark.ensures.after
    c.owed_after-owed.result c.in-Err.field-0 c.take_work-mark.ensures.stays c.in-Err.is
