-- Runs of tids, in rising order.
use Rattle.std.specs.Prelude.{ℕ, suc, ◌+◌, ◌^◌, Bool, true, ◌&&◌, ◌==◌, nat_lt, nat_le, List, [], ◌∷◌, if◌then◌else◌}
use Rattle.tl_descriptor.specs.declared.run.Run.{Run}

-- the first run lies in the second
abbrev pub holds : Run → Run → Bool
holds run other = nat_le other.low run.low && nat_le run.high other.high

-- each run begins above the number after the end of the one before it, the first above the number after this one
abbrev pub are_apart : ℕ → List Run → Bool
are_apart below [] = true
are_apart below (run ∷ runs) = nat_lt (below + 1) run.low && nat_le run.low run.high && nat_le run.high (2 ^ 62) && are_apart run.high runs

-- how many of the first runs end below the tid
abbrev pub count_below : ℕ → List Run → ℕ
count_below tid [] = 0
count_below tid (run ∷ runs) = if nat_lt run.high tid then suc (count_below tid runs) else 0

-- a run in front of others, one with the first where that begins right after it
abbrev pub join : ℕ → ℕ → List Run → List Run
join low high [] = record { low = low; high = high } ∷ []
join low high (run ∷ runs) =
    if run.low == high + 1 then record { low = low; high = run.high } ∷ runs else record { low = low; high = high } ∷ run ∷ runs

-- the runs with a tid more that lies in none of them
abbrev pub put : ℕ → List Run → List Run
put tid [] = record { low = tid; high = tid } ∷ []
put tid (run ∷ runs) =
    if nat_lt run.high tid then (if tid == run.high + 1 then join run.low tid runs else run ∷ put tid runs) else join tid tid (run ∷ runs)
