-- Where a key lives.
use Rattle.std.specs.Prelude.{ℕ, ◌+◌, ◌*◌, ◌%◌, List, fold}

-- the hash of a key, from a hash of what stands before it
abbrev pub key_hash : ℕ → List ℕ → ℕ
key_hash = fold (λ h byte. (h * 31 + byte) % 65521)

-- the shard of a key, where there are so many
abbrev pub shard_of_key : List ℕ → ℕ → ℕ
shard_of_key key count = key_hash 0 key % count
