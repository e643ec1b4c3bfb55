use Rattle.std.proofs.Common.{◌≡◌, Some, subst}
use Rattle.tl_base.specs.declared.place.Settings.{Settings}
use Rattle.tl_manager.specs.declared.mark.TxnStep.{TxnStep}
use Rattle.tl_txn.specs.After.{IsTaken}
use Rattle.tl_txn.specs.Taken.{Taken}
use Rattle.tl_txn.specs.declared.txn.Txn.{Txn}
use Rattle.tl_node.proofs.ReadAfter.{never_ended, never_leaf, read_going, take_ready, take_strange, take_wants}
use Rattle.tl_node.proofs.ReadsOn.{reads_own, reads_present, reads_ready, reads_take}
use Rattle.tl_node.proofs.reads.take_read.Goals as goal

-- the step of this arm was taken
step_is : (settings : Settings) (taken : Taken) (after : Txn) (a b : TxnStep) → IsTaken settings taken (record { phase = after.phase; next = after.next; step = Some a }) → a ≡ b
    → IsTaken settings taken (record { phase = after.phase; next = after.next; step = Some b })
step_is settings taken after a b h e = subst (λ (s : TxnStep). IsTaken settings taken (record { phase = after.phase; next = after.next; step = Some s })) e h

pub returns-in-Some-Going-clause-after : goal.returns-in-Some-Going-clause-after
returns-in-Some-Going-clause-after c =
    read_going c.args.core.now c.args.txn c.args.stage c.args.reading c.args.reply.now c.requires c.reads_follow.ensures.on c.heed.new.self c.in-Some-Going.mark c.running.result
    c.in-Some-Going.ensures.stays (step_is c.args.txn.layout _ c.heed.new.self c.in-Some-Going.field-0 _ c.in-Some-Going.ensures.taken c.in-Some-Going.field-0-is) c.running.ensures

pub read_on-requires-clause-ready : goal.read_on-requires-clause-ready
read_on-requires-clause-ready c =
    reads_ready c.args.core.now c.args.txn c.args.stage c.args.reading c.args.reply.now c.requires c.reads_follow.ensures.all c.heed.new.self c.in-Some-Ready.mark
    (step_is c.args.txn.layout _ c.heed.new.self c.in-Some-Ready.field-0 _ c.in-Some-Ready.ensures.taken c.in-Some-Ready.field-0-is)

pub read_on-requires-clause-own : goal.read_on-requires-clause-own
read_on-requires-clause-own c =
    reads_own c.args.core.now c.args.txn c.args.stage c.args.reading c.args.reply.now c.requires c.heed.new.self c.in-Some-Ready.ensures.stays

pub read_on-requires-clause-takes : goal.read_on-requires-clause-takes
read_on-requires-clause-takes c = reads_take c.args.core.now c.args.txn c.args.stage c.args.reading c.args.reply.now c.requires

pub read_on-requires-clause-present : goal.read_on-requires-clause-present
read_on-requires-clause-present c = reads_present c.args.core.now c.args.txn c.args.stage c.args.reading c.args.reply.now c.requires

pub returns-in-Some-Ready-clause-after : goal.returns-in-Some-Ready-clause-after
returns-in-Some-Ready-clause-after c =
    take_ready c.args.core.now c.args.txn c.args.stage c.args.reading c.args.reply.now c.requires c.reads_follow.ensures.all c.heed.new.self c.in-Some-Ready.mark c.read_on.new.core
    c.read_on.result (step_is c.args.txn.layout _ c.heed.new.self c.in-Some-Ready.field-0 _ c.in-Some-Ready.ensures.taken c.in-Some-Ready.field-0-is) c.read_on.ensures.after

pub returns-in-Some-NoMemory-clause-after : goal.returns-in-Some-NoMemory-clause-after
returns-in-Some-NoMemory-clause-after c =
    let f = c.reads_follow.ensures in
    take_wants c.args.core.now c.args.txn c.args.stage c.args.reading c.args.reply.now c.requires f.on f.all f.stop f.never_end f.steps c.heed.new.self c.in-Some-NoMemory.mark (record {})
    (step_is c.args.txn.layout _ c.heed.new.self c.in-Some-NoMemory.field-0 _ c.in-Some-NoMemory.ensures.taken c.in-Some-NoMemory.field-0-is)

pub returns-in-Some-Leaf-clause-after : goal.returns-in-Some-Leaf-clause-after
returns-in-Some-Leaf-clause-after c =
    absurd
    (never_leaf c.args.core.now c.args.txn c.args.stage c.args.reading c.args.reply.now c.requires c.reads_follow.ensures.steps c.heed.new.self _
    (step_is c.args.txn.layout _ c.heed.new.self c.in-Some-Leaf.field-0 _ c.in-Some-Leaf.ensures.taken c.in-Some-Leaf.field-0-is))

pub returns-in-Some-Ended-clause-after : goal.returns-in-Some-Ended-clause-after
returns-in-Some-Ended-clause-after c =
    absurd
    (never_ended c.args.core.now c.args.txn c.args.stage c.args.reading c.args.reply.now c.requires c.reads_follow.ensures.never_end c.heed.new.self _
    (step_is c.args.txn.layout _ c.heed.new.self c.in-Some-Ended.field-0 _ c.in-Some-Ended.ensures.taken c.in-Some-Ended.field-0-is))

pub returns-in-None-clause-after : goal.returns-in-None-clause-after
returns-in-None-clause-after c =
    take_strange c.args.core.now c.args.txn c.args.stage c.args.reading c.args.reply.now c.requires c.reads_follow.ensures.stop c.heed.new.self c.in-None.ensures.taken
