-- A set of tids: all of them up to a base, and those in the runs above it.
use Rattle.std.specs.Prelude.{◌≡◌, ◌≤◌, ℕ, ◌+◌, ◌^◌, Bool, true, ◌&&◌, ◌||◌, ◌==◌, nat_le, List, [], ◌∷◌, if◌then◌else◌}
use Rattle.std.specs.List.{list_all, list_any}
use Rattle.tl_descriptor.specs.declared.run.Run.{Run}
use Rattle.tl_descriptor.specs.Runs.{are_apart, holds, put}

pub record TidSet : Type 0 where
  pub base : ℕ
  pub runs : List Run

abbrev pub has : TidSet → ℕ → Bool
has set tid = nat_le tid set.base || list_any (holds (record { low = tid; high = tid })) set.runs

-- a set is written in one way alone: its base is as high as it can be, and its runs are as few as they can be
pub record IsCanonical (set : TidSet) : Type 0 where
  pub base_fits : set.base ≤ 2 ^ 62
  pub apart : are_apart set.base set.runs ≡ true

-- each tid of the first set is in the second
pub record IsWithin (set other : TidSet) : Type 0 where
  pub by : (tid : ℕ) → has set tid ≡ true → has other tid ≡ true

abbrev pub covers : TidSet → Run → Bool
covers set run = nat_le run.high set.base || list_any (holds run) set.runs

abbrev pub begins : TidSet → TidSet → Bool
begins set other = nat_le set.base other.base && list_all (covers other) set.runs

-- all up to tid, and the runs above it
abbrev pub raised : ℕ → List Run → TidSet
raised tid [] = record { base = tid; runs = [] }
raised tid (run ∷ runs) = if run.low == tid + 1 then record { base = run.high; runs = runs } else record { base = tid; runs = run ∷ runs }

-- the set with one tid more
abbrev pub inserted : TidSet → ℕ → TidSet
inserted set tid =
    if has set tid then set else (if tid == set.base + 1 then raised tid set.runs else record { base = set.base; runs = put tid set.runs })
