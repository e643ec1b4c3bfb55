-- The counts of failed calls, which are 64-bit numbers and stand still at their greatest.
use Rattle.std.specs.Prelude.{◌≡◌, ℕ, ◌+◌, ◌-◌, ◌^◌, ◌<◌, ◌⊎◌, min}

-- a count rose: it is greater than before, or stands at its greatest
abbrev pub Rose : ℕ → ℕ → Type 0
Rose before after = (before < after) ⊎ (after ≡ 2 ^ 64 - 1)

-- the count after one more
abbrev pub next : ℕ → ℕ
next count = min (count + 1) (2 ^ 64 - 1)
