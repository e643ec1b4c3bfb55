-- The keys of a transaction's writes, each behind the number of its bytes.
use Rattle.std.specs.Prelude.{◌<◌, ℕ, ◌^◌, List, length}

-- the number has two bytes
abbrev pub IsKey : List ℕ → Type 0
IsKey key = length key < 2 ^ 16
