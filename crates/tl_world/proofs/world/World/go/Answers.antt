use Rattle.std.proofs.Common.{◌≡◌, ◌<◌, length, false, sym, ◌∙◌, arith}
use Rattle.tl_world.specs.Turns.{due_by}
use Rattle.tl_world.proofs.Parts.{due_again, room_for_notice, runs_any, runs_so, turns_due, turns_on, turns_spent, turns_wanting}
use Rattle.tl_world.proofs.Serving.{is_within}
use Rattle.tl_world.proofs.world.World.go.Goals as goal
use Rattle.tl_world.proofs.world.World.go.Goals.{After-is_spent}

pub index-requires : goal.index-requires
index-requires c =
    let whole = c.args.self.now.slots.ok.0 in
    let within : c.args.at < length c.args.self.now.slots.items = is_within c.args.self.now.slots.items c.args.node c.args.at c.requires.there.spot_is in
    omega arith

pub index-requires-2 : goal.index-requires-2
index-requires-2 c =
    let whole = c.args.self.now.slots.ok.0 in
    let within : c.args.at < length c.args.self.now.slots.items = is_within c.args.self.now.slots.items c.args.node c.args.at c.requires.there.spot_is in
    omega arith

pub end-requires : goal.end-requires
end-requires c = record { there = c.requires.there; room = room_for_notice c.args.self.now c.requires.room }

pub end-requires-then-is_spent : goal.end-requires-then-is_spent
end-requires-then-is_spent c = record { there = c.requires.there; room = room_for_notice c.args.self.now c.requires.room }

-- its count isn't reached
not_due : (c : After-is_spent) → due_by c.index-2.result.now.vanish c.index-2.result.now.counted ≡ false
not_due c =
    due_again c.args.self.now.slots.items c.args.node c.args.at c.requires.there.spot_is c.index.result.now c.index.ensures c.index-2.result.now c.index-2.ensures false
    (sym c.is_due.ensures ∙ c.if-is_due.false)

pub request-requires : goal.request-requires
request-requires c =
    let slot = c.index-2.result.now in
    record {
      there = c.requires.there;
      room = c.requires.room;
      runs = runs_any c.args.self.now c.args.node c.args.at c.requires.there c.requires.more slot c.index-2.ensures
          (runs_so c.args.self.now c.args.node c.args.at c.requires.there c.requires.more slot c.index-2.ensures (not_due (goal.at.request-requires c).After-is_spent)
          c.budget.result c.budget.ensures (omega arith) (sym c.is_spent.ensures ∙ c.if-is_spent.false));
    }

pub end-requires-in-None : goal.end-requires-in-None
end-requires-in-None c = record { there = c.in-None.ensures.there; room = c.in-None.ensures.room }

pub go_on-requires : goal.go_on-requires
go_on-requires c = record { there = c.in-Some.ensures.there; room = c.in-Some.ensures.room }

pub returns-then-is_due : goal.returns-then-is_due
returns-then-is_due c =
    turns_due c.args.self.now c.args.node c.args.at c.requires.there c.requires.more c.index.result.now c.index.ensures c.end.result c.end.new.self
    (sym c.is_due.ensures ∙ c.if-is_due.true) c.end.ensures

pub returns-then-is_spent : goal.returns-then-is_spent
returns-then-is_spent c =
    turns_spent c.args.self.now c.args.node c.args.at c.requires.there c.requires.more c.index-2.result.now c.index-2.ensures c.end-then-is_spent.result c.end-then-is_spent.new.self
    (not_due (goal.at.returns-then-is_spent c).After-is_spent) c.budget.result c.budget.ensures (sym c.is_spent.ensures ∙ c.if-is_spent.true) c.end-then-is_spent.ensures

pub returns-in-Some : goal.returns-in-Some
returns-in-Some c =
    let slot = c.index-2.result.now in
    turns_on c.args.self.now c.args.node c.args.at c.requires.there c.requires.more slot c.index-2.ensures c.go_on.result c.go_on.new.self
    (runs_so c.args.self.now c.args.node c.args.at c.requires.there c.requires.more slot c.index-2.ensures (not_due (goal.at.returns-in-Some c).After-is_spent)
    c.budget.result c.budget.ensures (omega arith) (sym c.is_spent.ensures ∙ c.if-is_spent.false))
    c.request.new.self c.in-Some.wants c.in-Some.ensures.went c.go_on.ensures

pub returns-in-None : goal.returns-in-None
returns-in-None c =
    let slot = c.index-2.result.now in
    turns_wanting c.args.self.now c.args.node c.args.at c.requires.there c.requires.more slot c.index-2.ensures c.end-in-None.result c.end-in-None.new.self
    (runs_so c.args.self.now c.args.node c.args.at c.requires.there c.requires.more slot c.index-2.ensures (not_due (goal.at.returns-in-None c).After-is_spent)
    c.budget.result c.budget.ensures (omega arith) (sym c.is_spent.ensures ∙ c.if-is_spent.false))
    c.request.new.self c.in-None.ensures.went c.end-in-None.ensures
