use Rattle.std.proofs.Common.{◌≡◌, ◌<◌, length, true, sym, ◌∙◌, arith}
use Rattle.tl_world.specs.Seen.{seen_as}
use Rattle.tl_world.specs.Slot.{has_more}
use Rattle.tl_world.proofs.Parts.{is_there_so, more_so, turned_from}
use Rattle.tl_world.proofs.Serving.{is_within, slot_there}
use Rattle.tl_world.proofs.Spots.{spot_gone, spot_none, spot_there}
use Rattle.tl_world.proofs.Turning.{is_over_so, more_there, none_over}
use Rattle.tl_world.proofs.world.World.turn.Goals as goal

pub index-requires : goal.index-requires
index-requires c =
    let whole = c.args.self.now.slots.ok.0 in
    let within : c.in-Some.at < length c.args.self.now.slots.items = is_within c.args.self.now.slots.items c.args.node c.in-Some.at (spot_there c.args.self.now.slots.items c.as_slice.result.now c.as_slice.ensures.value c.args.node c.in-Some.at c.in-Some.ensures) in
    omega arith

pub go-requires : goal.go-requires
go-requires c =
    let slots = c.args.self.now.slots.items in
    let slot = c.index.result.now in
    let more : has_more slot.node ≡ true = sym c.has_more.ensures ∙ c.if-not-has_more.false in
    let v = more_there slot.node more in
    record {
      there = is_there_so c.args.self.now c.make_room.new.self c.make_room.ensures.kept c.args.node c.in-Some.at (spot_there c.args.self.now.slots.items c.as_slice.result.now c.as_slice.ensures.value c.args.node c.in-Some.at c.in-Some.ensures) slot c.index.ensures v.0 v.1;
      room = c.in_ok-make_room.ensures.room;
      more = more_so c.args.self.now c.make_room.new.self c.make_room.ensures.kept c.args.node c.in-Some.at (spot_there c.args.self.now.slots.items c.as_slice.result.now c.as_slice.ensures.value c.args.node c.in-Some.at c.in-Some.ensures) slot c.index.ensures more;
    }

pub returns-in_default : goal.returns-in_default
returns-in_default c =
    record {
      turns = λ script s. none_over script (seen_as c.args.self.now) s c.args.node (spot_none c.args.self.now.slots.items c.args.node 0 (spot_gone c.args.self.now.slots.items c.as_slice.result.now c.as_slice.ensures.value c.args.node c.in_default.ensures));
      kept = tt;
    }

pub returns-then-not-has_more : goal.returns-then-not-has_more
returns-then-not-has_more c =
    let slots = c.args.self.now.slots.items in
    let slot = c.index.result.now in
    record {
      turns = λ script s.
          is_over_so script (seen_as c.args.self.now) s c.args.node slot (slot_there slots c.args.node c.in-Some.at (spot_there c.args.self.now.slots.items c.as_slice.result.now c.as_slice.ensures.value c.args.node c.in-Some.at c.in-Some.ensures) slot c.index.ensures)
          (sym c.has_more.ensures ∙ c.if-not-has_more.true);
      kept = tt;
    }

pub returns : goal.returns
returns c =
    record {
      turns = λ script s.
          turned_from c.args.self.now c.make_room.new.self c.go.new.self c.make_room.ensures.kept c.args.node c.go.result c.go.ensures c.places_serve_their_logs.ensures script s;
      kept = tt;
    }
