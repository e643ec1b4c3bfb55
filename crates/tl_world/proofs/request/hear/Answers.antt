use Rattle.std.proofs.Common.{◌≡◌, ◌<◌, ℕ, true, length, sym, subst, ap, ◌∙◌}
use Rattle.std.specs.Prelude.{not}
use Rattle.tl_protocol.specs.Move.{is_empty}
use Rattle.tl_world.specs.Slot.{has_more}
use Rattle.tl_world.proofs.Said.{more_within}
use Rattle.tl_world.proofs.request.hear.Goals as goal

-- src/request.rt:72:35
pub say-requires : goal.say-requires
say-requires c =
    let more : not (is_empty c.in-Some.node.node.todo) ≡ true = sym (ap has_more c.in-Some.is) ∙ c.requires.more in
    let within : length c.in-Some.node.node.answers < length c.in-Some.node.session =
    more_within c.in-Some.node.session c.in-Some.node.node.todo (length c.in-Some.node.node.answers) c.take-mark.ensures.todo more in
    record {
      left = subst (λ (k : ℕ). k < length c.take-mark.new.self.session) (ap length (sym c.replies-present.ensures))
          (subst (λ (k : ℕ). length c.in-Some.node.node.answers < k) (ap length (sym c.take-mark.ensures.session)) within);
    }
