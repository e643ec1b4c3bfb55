use Rattle.std.proofs.Common.{◌≡◌, ◌<◌, length, false, sym, ◌∙◌, arith}
use Rattle.tl_world.specs.Turns.{due_by}
use Rattle.tl_world.proofs.Parts.{due_again, goes_due, goes_spent, goes_wanting, goes_went}
use Rattle.tl_world.proofs.Serving.{is_within}
use Rattle.tl_world.proofs.world.World.go_on.Goals as goal
use Rattle.tl_world.proofs.world.World.go_on.Goals.{After-is_spent}

pub index-requires : goal.index-requires
index-requires c =
    let whole = c.args.self.now.slots.ok.0 in
    let within : c.args.at < length c.args.self.now.slots.items = is_within c.args.self.now.slots.items c.args.node c.args.at c.requires.there.spot_is in
    omega arith

pub index-requires-2 : goal.index-requires-2
index-requires-2 c =
    let whole = c.args.self.now.slots.ok.0 in
    let within : c.args.at < length c.args.self.now.slots.items = is_within c.args.self.now.slots.items c.args.node c.args.at c.requires.there.spot_is in
    omega arith

pub end-requires : goal.end-requires
end-requires c = record { there = c.requires.there; room = c.requires.room }

pub end-requires-then-wants : goal.end-requires-then-wants
end-requires-then-wants c = record { there = c.requires.there; room = c.requires.room }

pub end-requires-then-is_spent : goal.end-requires-then-is_spent
end-requires-then-is_spent c = record { there = c.requires.there; room = c.requires.room }

pub returns-then-is_due : goal.returns-then-is_due
returns-then-is_due c =
    goes_due c.args.self.now c.args.node c.args.at c.requires.there c.index.result.now c.index.ensures c.args.wants c.end.result c.end.new.self
    (sym c.is_due.ensures ∙ c.if-is_due.true) c.end.ensures

pub returns-then-wants : goal.returns-then-wants
returns-then-wants c =
    goes_wanting c.args.self.now c.args.node c.args.at c.requires.there c.index.result.now c.index.ensures c.args.wants c.end-then-wants.result c.end-then-wants.new.self c.if-wants.true
    (sym c.is_due.ensures ∙ c.if-is_due.false) c.end-then-wants.ensures

-- its count isn't reached
not_due : (c : After-is_spent) → due_by c.index-2.result.now.vanish c.index-2.result.now.counted ≡ false
not_due c =
    due_again c.args.self.now.slots.items c.args.node c.args.at c.requires.there.spot_is c.index.result.now c.index.ensures c.index-2.result.now c.index-2.ensures false
    (sym c.is_due.ensures ∙ c.if-is_due.false)

pub returns-then-is_spent : goal.returns-then-is_spent
returns-then-is_spent c =
    goes_spent c.args.self.now c.args.node c.args.at c.requires.there c.index-2.result.now c.index-2.ensures c.args.wants c.end-then-is_spent.result c.end-then-is_spent.new.self c.if-wants.false
    (not_due (goal.at.returns-then-is_spent c).After-is_spent) c.budget.result c.budget.ensures (sym c.is_spent.ensures ∙ c.if-is_spent.true) c.end-then-is_spent.ensures

pub returns : goal.returns
returns c =
    goes_went c.args.self.now c.args.node c.args.at c.requires.there c.index-2.result.now c.index-2.ensures c.args.wants c.if-wants.false
    (not_due (goal.at.returns c).After-is_spent) c.budget.result c.budget.ensures (sym c.is_spent.ensures ∙ c.if-is_spent.false)
