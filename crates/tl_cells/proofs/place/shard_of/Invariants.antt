use Rattle.std.proofs.Common.{◌≡◌, ◌<◌, take}
use Rattle.tl_cells.specs.Place.{key_hash}
use Rattle.tl_cells.proofs.place.shard_of.Given as goal

abbrev pub invariant-loop-byte : goal.invariant-loop-byte
invariant-loop-byte l = (l.hash ≡ key_hash 0 (take l.byte-index l.key)) × (l.hash < 65521)
