use Rattle.std.proofs.Common.{[], ◌∷◌, ap, subst, ◌∙◌}
use Rattle.tl_descriptor.specs.Reading as sets
use Rattle.tl_places.specs.Opening.{HaveStored, Stored, commits_cell}
use Rattle.tl_places.proofs.Stores.{same_cell}
use Rattle.tl_places.proofs.Room.{room_first}
use Rattle.tl_places.proofs.opening.store_commits.Goals as goal

pub returns : goal.returns
returns c =
    subst (λ (cell : Stored). HaveStored c.args.layout.shards (cell ∷ []) c.store.new.shards.items)
    (same_cell c.in_ok-key.key c.in_ok-value.value commits_cell c.in_ok-key.ensures (c.in_ok-value.ensures.bytes ∙ ap sets.spelling c.new.ensures))
    (c.in_ok-store.ensures [] c.requires)

pub store-requires-clause-room : goal.store-requires-clause-room
store-requires-clause-room c = room_first c.args.layout.shards c.args.shards.now.items c.in_ok-key.key c.requires
