use Rattle.std.proofs.Common.{Some, None, refl, ap}
use Rattle.tl_node.proofs.Ending.{EndLaw, end_going, end_other, end_wanting, readied_stays}
use Rattle.tl_node.proofs.ends.end_on.Goals as goal

pub returns-in-Some-Going-clause-after : goal.returns-in-Some-Going-clause-after
returns-in-Some-Going-clause-after c =
    let law : EndLaw = record {
      keeps = c.transactions_follow_the_node.ensures.keeps;
      going = c.transactions_follow_the_node.ensures.going;
      tells_so = c.transactions_follow_the_node.ensures.said;
      stops_so = c.transactions_follow_the_node.ensures.strange;
      not_odd = c.transactions_follow_the_node.ensures.not_odd;
      hears_commits = c.transactions_follow_the_node.ensures.hears_commits;
      commits_nothing = c.transactions_follow_the_node.ensures.commits_nothing;
      gives_up = c.transactions_follow_the_node.ensures.gives_up;
    } in
    end_going law c.args.core.now c.args.txn c.heed.new.self c.args.stage c.args.reply.now (Some c.in-Some-Going.field-0) c.requires
    c.in-Some-Going.ensures.taken c.in-Some-Going.ensures.stays c.go_to_end.new.core c.in-Some-Going.mark c.go_to_end.result (ap Some c.in-Some-Going.field-0-is)
    c.go_to_end.ensures

pub returns-in-Some-Going-clause-stays : goal.returns-in-Some-Going-clause-stays
returns-in-Some-Going-clause-stays c =
    readied_stays c.args.core.now c.go_to_end.new.core c.heed.new.self c.args.stage c.in-Some-Going.mark c.go_to_end.result c.go_to_end.ensures

pub returns-in-Some-NoMemory-clause-after : goal.returns-in-Some-NoMemory-clause-after
returns-in-Some-NoMemory-clause-after c =
    let law : EndLaw = record {
      keeps = c.transactions_follow_the_node.ensures.keeps;
      going = c.transactions_follow_the_node.ensures.going;
      tells_so = c.transactions_follow_the_node.ensures.said;
      stops_so = c.transactions_follow_the_node.ensures.strange;
      not_odd = c.transactions_follow_the_node.ensures.not_odd;
      hears_commits = c.transactions_follow_the_node.ensures.hears_commits;
      commits_nothing = c.transactions_follow_the_node.ensures.commits_nothing;
      gives_up = c.transactions_follow_the_node.ensures.gives_up;
    } in
    end_wanting law c.args.core.now c.args.txn c.heed.new.self c.args.stage c.args.reply.now (Some c.in-Some-NoMemory.field-0) c.requires
    c.in-Some-NoMemory.ensures.taken c.in-Some-NoMemory.ensures.stays _ c.in-Some-NoMemory.mark (ap Some c.in-Some-NoMemory.field-0-is)

pub returns-in-Some-Ready-clause-after : goal.returns-in-Some-Ready-clause-after
returns-in-Some-Ready-clause-after c =
    let law : EndLaw = record {
      keeps = c.transactions_follow_the_node.ensures.keeps;
      going = c.transactions_follow_the_node.ensures.going;
      tells_so = c.transactions_follow_the_node.ensures.said;
      stops_so = c.transactions_follow_the_node.ensures.strange;
      not_odd = c.transactions_follow_the_node.ensures.not_odd;
      hears_commits = c.transactions_follow_the_node.ensures.hears_commits;
      commits_nothing = c.transactions_follow_the_node.ensures.commits_nothing;
      gives_up = c.transactions_follow_the_node.ensures.gives_up;
    } in
    end_other law c.args.core.now c.args.txn c.heed.new.self c.args.stage c.args.reply.now (Some c.in-Some-Ready.field-0) c.requires
    c.in-Some-Ready.ensures.taken c.in-Some-Ready.ensures.stays (Some c.in-Some-Ready.field-0) refl (rw c.in-Some-Ready.field-0-is refl)

pub returns-in-Some-Leaf-clause-after : goal.returns-in-Some-Leaf-clause-after
returns-in-Some-Leaf-clause-after c =
    let law : EndLaw = record {
      keeps = c.transactions_follow_the_node.ensures.keeps;
      going = c.transactions_follow_the_node.ensures.going;
      tells_so = c.transactions_follow_the_node.ensures.said;
      stops_so = c.transactions_follow_the_node.ensures.strange;
      not_odd = c.transactions_follow_the_node.ensures.not_odd;
      hears_commits = c.transactions_follow_the_node.ensures.hears_commits;
      commits_nothing = c.transactions_follow_the_node.ensures.commits_nothing;
      gives_up = c.transactions_follow_the_node.ensures.gives_up;
    } in
    end_other law c.args.core.now c.args.txn c.heed.new.self c.args.stage c.args.reply.now (Some c.in-Some-Leaf.field-0) c.requires
    c.in-Some-Leaf.ensures.taken c.in-Some-Leaf.ensures.stays (Some c.in-Some-Leaf.field-0) refl (rw c.in-Some-Leaf.field-0-is refl)

pub returns-in-Some-Ended-clause-after : goal.returns-in-Some-Ended-clause-after
returns-in-Some-Ended-clause-after c =
    let law : EndLaw = record {
      keeps = c.transactions_follow_the_node.ensures.keeps;
      going = c.transactions_follow_the_node.ensures.going;
      tells_so = c.transactions_follow_the_node.ensures.said;
      stops_so = c.transactions_follow_the_node.ensures.strange;
      not_odd = c.transactions_follow_the_node.ensures.not_odd;
      hears_commits = c.transactions_follow_the_node.ensures.hears_commits;
      commits_nothing = c.transactions_follow_the_node.ensures.commits_nothing;
      gives_up = c.transactions_follow_the_node.ensures.gives_up;
    } in
    end_other law c.args.core.now c.args.txn c.heed.new.self c.args.stage c.args.reply.now (Some c.in-Some-Ended.field-0) c.requires
    c.in-Some-Ended.ensures.taken c.in-Some-Ended.ensures.stays (Some c.in-Some-Ended.field-0) refl (rw c.in-Some-Ended.field-0-is refl)

pub returns-in-None-clause-after : goal.returns-in-None-clause-after
returns-in-None-clause-after c =
    let law : EndLaw = record {
      keeps = c.transactions_follow_the_node.ensures.keeps;
      going = c.transactions_follow_the_node.ensures.going;
      tells_so = c.transactions_follow_the_node.ensures.said;
      stops_so = c.transactions_follow_the_node.ensures.strange;
      not_odd = c.transactions_follow_the_node.ensures.not_odd;
      hears_commits = c.transactions_follow_the_node.ensures.hears_commits;
      commits_nothing = c.transactions_follow_the_node.ensures.commits_nothing;
      gives_up = c.transactions_follow_the_node.ensures.gives_up;
    } in
    end_other law c.args.core.now c.args.txn c.heed.new.self c.args.stage c.args.reply.now None c.requires c.in-None.ensures.taken c.in-None.ensures.stays
    None refl refl
