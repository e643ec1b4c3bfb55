use Rattle.std.proofs.Common.{◌≡◌, Some, subst}
use Rattle.tl_base.specs.declared.place.Settings.{Settings}
use Rattle.tl_manager.specs.declared.mark.TxnStep.{TxnStep}
use Rattle.tl_txn.specs.After.{IsTaken}
use Rattle.tl_txn.specs.Taken.{Taken}
use Rattle.tl_txn.specs.declared.txn.Txn.{Txn}
use Rattle.tl_node.proofs.BeginAfter.{never_ended, never_leaf, ready_begun, take_going, take_ready, take_strange, take_wants}
use Rattle.tl_node.proofs.Courses.{beginning_for}
use Rattle.tl_node.proofs.running.take_begin.Goals as goal

-- the step of this arm was taken
step_is : (settings : Settings) (taken : Taken) (after : Txn) (a b : TxnStep) → IsTaken settings taken (record { phase = after.phase; next = after.next; step = Some a }) → a ≡ b
    → IsTaken settings taken (record { phase = after.phase; next = after.next; step = Some b })
step_is settings taken after a b h e = subst (λ (s : TxnStep). IsTaken settings taken (record { phase = after.phase; next = after.next; step = Some s })) e h

pub returns-in-Some-Going-clause-after : goal.returns-in-Some-Going-clause-after
returns-in-Some-Going-clause-after c =
    take_going c.args.core.now c.args.txn c.args.reply.now c.requires c.heed.new.self c.in-Some-Going.mark c.running.result c.in-Some-Going.ensures.stays
    (step_is c.args.txn.layout _ c.heed.new.self c.in-Some-Going.field-0 _ c.in-Some-Going.ensures.taken c.in-Some-Going.field-0-is) c.running.ensures

pub begun-requires-clause-present : goal.begun-requires-clause-present
begun-requires-clause-present c = (beginning_for c.args.core.now c.args.txn c.heed.new.self c.requires c.in-Some-Ready.ensures.stays).present

pub begun-requires-clause-own : goal.begun-requires-clause-own
begun-requires-clause-own c = (beginning_for c.args.core.now c.args.txn c.heed.new.self c.requires c.in-Some-Ready.ensures.stays).own

pub begun-requires-clause-begun : goal.begun-requires-clause-begun
begun-requires-clause-begun c =
    ready_begun c.args.core.now c.args.txn c.args.reply.now c.requires c.heed.new.self c.in-Some-Ready.mark (step_is c.args.txn.layout _ c.heed.new.self c.in-Some-Ready.field-0 _ c.in-Some-Ready.ensures.taken c.in-Some-Ready.field-0-is)

pub returns-in-Some-Ready-clause-after : goal.returns-in-Some-Ready-clause-after
returns-in-Some-Ready-clause-after c =
    take_ready c.args.core.now c.args.txn c.args.reply.now c.requires c.heed.new.self c.in-Some-Ready.mark c.begun.new.core c.begun.result
    (step_is c.args.txn.layout _ c.heed.new.self c.in-Some-Ready.field-0 _ c.in-Some-Ready.ensures.taken c.in-Some-Ready.field-0-is) c.begun.ensures.after

pub returns-in-Some-NoMemory-clause-after : goal.returns-in-Some-NoMemory-clause-after
returns-in-Some-NoMemory-clause-after c =
    take_wants c.args.core.now c.args.txn c.args.reply.now c.requires c.heed.new.self c.in-Some-NoMemory.mark (record {})
    (step_is c.args.txn.layout _ c.heed.new.self c.in-Some-NoMemory.field-0 _ c.in-Some-NoMemory.ensures.taken c.in-Some-NoMemory.field-0-is)

pub returns-in-Some-Leaf-clause-after : goal.returns-in-Some-Leaf-clause-after
returns-in-Some-Leaf-clause-after c =
    absurd
    (never_leaf c.args.core.now c.args.txn c.args.reply.now c.requires c.heed.new.self _ (step_is c.args.txn.layout _ c.heed.new.self c.in-Some-Leaf.field-0 _ c.in-Some-Leaf.ensures.taken c.in-Some-Leaf.field-0-is))

pub returns-in-Some-Ended-clause-after : goal.returns-in-Some-Ended-clause-after
returns-in-Some-Ended-clause-after c =
    absurd
    (never_ended c.args.core.now c.args.txn c.args.reply.now c.requires c.heed.new.self _
    (step_is c.args.txn.layout _ c.heed.new.self c.in-Some-Ended.field-0 _ c.in-Some-Ended.ensures.taken c.in-Some-Ended.field-0-is))

pub returns-in-None-clause-after : goal.returns-in-None-clause-after
returns-in-None-clause-after c = take_strange c.args.core.now c.args.txn c.args.reply.now c.requires c.heed.new.self c.in-None.ensures.taken
