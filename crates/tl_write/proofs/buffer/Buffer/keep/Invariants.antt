use Rattle.std.proofs.Common.{◌≡◌, ◌+◌, ◌≤◌, length, true, vec_len, vec_capacity}
use Rattle.std.specs.Vec.Iter.{into_iter_items}
use Rattle.tl_write.specs.Own.{is_rising, put_writes}
use Rattle.tl_write.proofs.buffer.Buffer.keep.Given as goal

-- the rest over what is kept are all, and there is room for them
abbrev pub invariant-loop-write : goal.invariant-loop-write
invariant-loop-write l = record {
  kept : put_writes (into_iter_items l.write-iterator) l.self-inside.writes.items ≡ put_writes l.fn.effect.writes l.fn.self;
  rising : is_rising l.self-inside.writes.items ≡ true;
  room : vec_len l.self-inside.writes + length (into_iter_items l.write-iterator) ≤ vec_capacity l.self-inside.writes;
}
