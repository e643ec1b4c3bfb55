use Rattle.std.proofs.Common.{◌≡◌, ◌<◌, length, ◌∙◌, arith}
use Rattle.tl_cells.specs.Place.{shard_of_key}
use Rattle.tl_places.proofs.Stores.{have_stored_at}
use Rattle.tl_places.proofs.opening.store.Goals as goal

pub returns : goal.returns
returns c =
    let same : c.from.result ≡ shard_of_key c.args.key c.args.layout.shards =
    c.from.ensures ∙ c.shard_of-at.ensures.shard ∙ (λ i. shard_of_key (c.as_slice.ensures i) (c.shards.ensures.value i)) in
    let below = c.shard_of-at.ensures.within in
    let all = c.requires.count in
    let count = c.shards.ensures.value in
    let at = c.from.ensures in
    let within : c.from.result < length c.args.shards.now.items = omega arith in
    have_stored_at c.args.layout.shards c.args.shards.now.items (c.args.key, c.args.value) c.from.result c.index_mut.result.now c.store_at.new.shard same within
    c.index_mut.ensures.value c.in_ok-store_at.ensures
