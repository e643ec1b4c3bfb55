use Rattle.std.proofs.Common.{ap, ◌∙◌}
use Rattle.tl_write.proofs.Placed.{stands, written_place}
use Rattle.tl_write.proofs.place.is_written.Goals as goal

pub returns : goal.returns
returns c =
    c.has_key_at.ensures.value ∙ ap (λ n. stands c.args.key.now n c.args.writes.now) c.place_of.ensures ∙ written_place c.args.key.now c.args.writes.now c.requires
