-- The bytes of a set of tids, and reading them from left to right.
use Rattle.std.specs.Prelude.{◌<◌, ℕ, ◌^◌, ◌&&◌, nat_le, List, ◌++◌, length, Option, Some, None, if◌then◌else◌}
use Rattle.std.specs.Int.{w32, w64, to_be_bytes}
use Rattle.std.specs.List.{flat_map}
use Rattle.tl_codec.specs.Reading.{◌>>=◌, all_read, read_many, read_number}
use Rattle.tl_descriptor.specs.declared.run.Run.{Run}
use Rattle.tl_descriptor.specs.Runs.{are_apart}
use Rattle.tl_descriptor.specs.Tids.{IsCanonical, TidSet}

-- the lowest and the highest number
abbrev pub run_spelling : Run → List ℕ
run_spelling run = to_be_bytes w64 run.low ++ to_be_bytes w64 run.high

-- a number has eight bytes
pub record FitsRun (run : Run) : Type 0 where
  pub low : run.low < 2 ^ 64
  pub high : run.high < 2 ^ 64

-- the base, the number of runs, and the runs
abbrev pub spelling : TidSet → List ℕ
spelling set = to_be_bytes w64 set.base ++ to_be_bytes w32 (length set.runs) ++ flat_map run_spelling set.runs

-- what a set has to be to have a spelling: the number of its runs has four bytes
pub record FitsSet (set : TidSet) : Type 0 where
  pub canonical : IsCanonical set
  pub count : length set.runs < 2 ^ 32

unfoldable pub read_run : List ℕ → Option (Run × List ℕ)
read_run bytes = do
  low ← read_number w64 bytes
  high ← read_number w64 low.1
  Some (record { low = low.0; high = high.0 }, high.1)

-- the set, where it is written in the one way
abbrev pub checked : ℕ → List Run → Option TidSet
checked base runs = if nat_le base (2 ^ 62) && are_apart base runs then Some (record { base = base; runs = runs }) else None

-- all of the bytes
unfoldable pub read_set : List ℕ → Option TidSet
read_set bytes = do
  base ← read_number w64 bytes
  count ← read_number w32 base.1
  runs ← read_many read_run count.0 count.1
  whole ← all_read runs
  checked base.0 whole
