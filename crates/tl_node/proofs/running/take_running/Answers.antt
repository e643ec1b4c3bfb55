use Rattle.tl_manager.specs.declared.mark.Mark.TheVariants as mark
use Rattle.tl_node.specs.declared.work.Course.TheVariants as way
use Rattle.tl_node.proofs.Courses.{after_first, after_idle, after_on, fits_first, fits_on, idling, idling_ready}
use Rattle.tl_node.proofs.running.take_running.Goals as goal

pub take_begin-requires : goal.take_begin-requires
take_begin-requires c = fits_first c.args.core.now c.args.run c.in-Begins.is c.requires

pub returns-in-Begins-clause-after : goal.returns-in-Begins-clause-after
returns-in-Begins-clause-after c =
    after_first c.args.core.now c.args.run c.args.reply.now c.take_begin.new.core c.take_begin.result.0 c.take_begin.result.1 c.in-Begins.is c.take_begin.ensures.after

pub take_read-requires : goal.take_read-requires
take_read-requires c = fits_on c.args.core.now c.args.run (way.Reads c.in-Reads.reading) c.in-Reads.is c.requires

pub returns-in-Reads-clause-after : goal.returns-in-Reads-clause-after
returns-in-Reads-clause-after c =
    after_on c.args.core.now c.args.run c.args.reply.now c.take_read.new.core c.take_read.result.0 c.take_read.result.1 (way.Reads c.in-Reads.reading) c.in-Reads.is
    c.take_read.ensures.after

pub take_idle-requires-clause-ready : goal.take_idle-requires-clause-ready
take_idle-requires-clause-ready c = idling_ready c.args.core.now c.args.run c.in-Idles.field-0 c.in-Idles.is c.requires

pub take_idle-requires-clause-own : goal.take_idle-requires-clause-own
take_idle-requires-clause-own c = (idling c.args.core.now c.args.run c.in-Idles.field-0 c.in-Idles.is c.requires).own

pub take_idle-requires-clause-present : goal.take_idle-requires-clause-present
take_idle-requires-clause-present c = (idling c.args.core.now c.args.run c.in-Idles.field-0 c.in-Idles.is c.requires).present

pub returns-in-Idles-clause-after : goal.returns-in-Idles-clause-after
returns-in-Idles-clause-after c =
    after_idle c.args.core.now c.args.run c.in-Idles.field-0 c.in-Idles.is c.requires c.args.reply.now c.take_idle.new.core mark.Quiet c.take_idle.result c.take_idle.ensures.after

pub take_other-requires : goal.take_other-requires
take_other-requires c = fits_on c.args.core.now c.args.run (way.AsksOther c.in-AsksOther.manager c.in-AsksOther.asked) c.in-AsksOther.is c.requires

pub returns-in-AsksOther-clause-after : goal.returns-in-AsksOther-clause-after
returns-in-AsksOther-clause-after c =
    after_on c.args.core.now c.args.run c.args.reply.now c.take_other.new.core mark.Quiet c.take_other.result (way.AsksOther c.in-AsksOther.manager c.in-AsksOther.asked)
    c.in-AsksOther.is c.take_other.ensures.after

pub take_end-requires : goal.take_end-requires
take_end-requires c = fits_on c.args.core.now c.args.run (way.Ends c.in-Ends.last) c.in-Ends.is c.requires

pub returns-in-Ends-clause-after : goal.returns-in-Ends-clause-after
returns-in-Ends-clause-after c =
    after_on c.args.core.now c.args.run c.args.reply.now c.take_end.new.core c.take_end.result.0 c.take_end.result.1 (way.Ends c.in-Ends.last) c.in-Ends.is c.take_end.ensures.after
