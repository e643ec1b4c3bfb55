use Rattle.std.proofs.Common.{rules}
use Rattle.std.specs.Ordering.{is_lt}
use Rattle.std.proofs.lemmas.List.Sorted.{IsPartitionPoint-from_clause}
use Rattle.tl_write.specs.Own.{key_cmp}
use Rattle.tl_write.proofs.Placed.{parted_place}
use Rattle.tl_write.proofs.Rising.{parted}
use Rattle.tl_write.proofs.place.place_of.Goals as goal

pub returns : goal.returns
returns c =
    parted_place c.args.key.now c.args.writes.now c.partition_point.result c.partition_point.ensures.bound
    (IsPartitionPoint-from_clause (λ w. is_lt (key_cmp w.key c.args.key.now)) c.args.writes.now c.partition_point.result c.partition_point.ensures.partitioned (parted c.args.key.now c.args.writes.now c.requires) (search rules))
