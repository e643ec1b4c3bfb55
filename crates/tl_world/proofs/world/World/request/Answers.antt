use Rattle.std.proofs.Common.{◌≡◌, ◌+◌, ◌<◌, length, slice_index_or, ap, ◌∙◌, arith}
use Rattle.std.proofs.lemmas.List.{length_push}
use Rattle.tl_world.specs.Stands.{SlotValue}
use Rattle.tl_world.specs.declared.request.Served.{Served}
use Rattle.tl_world.specs.Turns.{due_by}
use Rattle.tl_world.specs.Seen.{seen_as}
use Rattle.tl_world.proofs.Serving.{again_due, again_made, is_within, node_counted, request_made, spot_counted}
use Rattle.tl_world.proofs.Steps.{served_event}
use Rattle.tl_world.proofs.world.World.request.Goals as goal

pub index-requires : goal.index-requires
index-requires c =
    let whole = c.args.self.now.slots.ok.0 in
    let within : c.args.at < length c.args.self.now.slots.items = is_within c.args.self.now.slots.items c.args.number c.args.at c.requires.there.spot_is in
    omega arith

pub index_mut-requires : goal.index_mut-requires
index_mut-requires c =
    let whole = c.args.self.now.slots.ok.0 in
    let within : c.args.at < length c.args.self.now.slots.items = is_within c.args.self.now.slots.items c.args.number c.args.at c.requires.there.spot_is in
    omega arith

pub index_mut-requires-2 : goal.index_mut-requires-2
index_mut-requires-2 c =
    let whole = c.args.self.now.slots.ok.0 in
    let within : c.args.at < length c.args.self.now.slots.items = is_within c.args.self.now.slots.items c.args.number c.args.at c.requires.there.spot_is in
    omega arith

pub count_request-requires-clause-made : goal.count_request-requires-clause-made
count_request-requires-clause-made c =
    let slot = c.index_mut.result.now in
    let v = c.requires.there.node in
    let hears = c.hear-wants.ensures.hears v (ap (λ (x : SlotValue). x.node) c.index_mut.ensures.value ∙ c.requires.there.node_is slot) in
    let again : c.index_mut-2.result.now.made ≡ slot.made =
    again_made c.args.self.now.slots.items c.args.self.now.commits.items c.args.number c.args.at c.requires.there.spot_is slot c.index_mut.ensures.value v c.in_ok-place.field-0.reply
    c.hear-wants.new.slot c.hear-wants.new.commits.items c.hear-wants.new.spare.items c.hear-wants.result hears c.index_mut-2.result.now c.index_mut-2.ensures.value in
    let first : slot.made ≡ (slice_index_or c.args.self.now.slots.items c.args.at slot).made = ap (λ (x : SlotValue). x.made) c.index_mut.ensures.value in
    let runs = c.requires.runs slot in
    omega (arith, runs.made, runs.fits)

pub count_request-requires-clause-counted : goal.count_request-requires-clause-counted
count_request-requires-clause-counted c =
    let slot = c.index_mut.result.now in
    let v = c.requires.there.node in
    let hears = c.hear-wants.ensures.hears v (ap (λ (x : SlotValue). x.node) c.index_mut.ensures.value ∙ c.requires.there.node_is slot) in
    let runs = c.requires.runs slot in
    again_due c.args.self.now.slots.items c.args.self.now.commits.items c.args.number c.args.at c.requires.there.spot_is slot c.index_mut.ensures.value v c.in_ok-place.field-0.reply
    c.hear-wants.new.slot c.hear-wants.new.commits.items c.hear-wants.new.spare.items c.hear-wants.result hears c.index_mut-2.result.now c.index_mut-2.ensures.value
    ∙ ap (λ (x : SlotValue). due_by x.vanish x.counted) c.index_mut.ensures.value ∙ runs.due

pub returns : goal.returns
returns c =
    let slot = c.index_mut.result.now in
    let v = c.requires.there.node in
    let hears = c.hear-wants.ensures.hears v (ap (λ (x : SlotValue). x.node) c.index_mut.ensures.value ∙ c.requires.there.node_is slot) in
    let call : Served = c.in_ok-place.field-0 in
    let more : length c.push_reserved.new.self.items ≡ length c.args.self.now.events.items + 1 =
    ap length c.push_reserved.ensures.items ∙ length_push c.args.self.now.events.items (served_event c.args.number call c.take_all-entries.result) in
    record {
      went = λ logs script s.
          request_made logs script (seen_as c.args.self.now) s (omega (arith, c.requires.room.few_events)) c.args.number c.args.at c.requires.there.spot_is c.index.result.now c.index.ensures call
          c.serve.new.places c.in_ok-place.ensures slot c.index_mut.ensures.value c.hear-wants.new.slot c.hear-wants.new.commits.items c.hear-wants.new.spare.items
          c.hear-wants.result c.hear-wants.ensures.hears c.index_mut-2.result.now c.index_mut-2.ensures.value c.count_request.new.slot c.count_request.ensures
          c.take_all-entries.result c.take_all-entries.ensures.taken c.push_reserved.new.self.items c.push_reserved.ensures.items;
      there = record {
        spot_is = spot_counted c.args.self.now.slots.items c.args.self.now.commits.items c.args.number c.args.at c.requires.there.spot_is slot c.index_mut.ensures.value v
            c.in_ok-place.field-0.reply c.hear-wants.new.slot c.hear-wants.new.commits.items c.hear-wants.new.spare.items c.hear-wants.result hears c.index_mut-2.result.now
            c.index_mut-2.ensures.value call c.count_request.new.slot c.count_request.ensures;
        node = hears.after;
        node_is = node_counted c.args.self.now.slots.items c.args.self.now.commits.items c.args.number c.args.at c.requires.there.spot_is slot c.index_mut.ensures.value v
            c.in_ok-place.field-0.reply c.hear-wants.new.slot c.hear-wants.new.commits.items c.hear-wants.new.spare.items c.hear-wants.result hears c.index_mut-2.result.now
            c.index_mut-2.ensures.value call c.count_request.new.slot c.count_request.ensures;
      };
      room = record {
        events = omega (arith, c.push_reserved.ensures.len, c.push_reserved.ensures.capacity, c.requires.room.events);
        last = c.requires.room.last;
        last_empty = c.requires.room.last_empty;
        few_events = omega (arith, more, c.requires.room.few_events);
      };
    }
