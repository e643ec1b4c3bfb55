-- Reading a log cell from left to right.
use Rattle.std.specs.Prelude.{ℕ, zero, suc, ◌&&◌, nat_le, List, [], ◌∷◌, Option, Some, None, if◌then◌else◌}
use Rattle.std.specs.Int.{w32, w64}
use Rattle.tl_codec.specs.Reading.{◌>>=◌, read_byte, read_many, read_number, read_sized}
use Rattle.tl_logrec.specs.declared.entry.Flag.{Flag}
use Rattle.tl_logrec.specs.declared.entry.Flag.TheVariants as flag
use Rattle.tl_logrec.specs.declared.entry.LogEntry.{LogEntry}
use Rattle.tl_logrec.specs.Entry.{are_rising}

-- the first byte is 1
unfoldable pub read_mark : List ℕ → Option (ℕ × List ℕ)
read_mark [] = None
read_mark (zero ∷ rest) = None
read_mark (suc zero ∷ rest) = Some (1, rest)
read_mark (suc (suc byte) ∷ rest) = None

-- a node's number is from 1 to 16
abbrev pub node_of : ℕ → Option ℕ
node_of number = if nat_le 1 number && nat_le number 16 then Some number else None

unfoldable pub read_flag : List ℕ → Option (Flag × List ℕ)
read_flag [] = None
read_flag (zero ∷ rest) = Some (flag.Trying, rest)
read_flag (suc zero ∷ rest) = Some (flag.Decided, rest)
read_flag (suc (suc zero) ∷ rest) = Some (flag.Undone, rest)
read_flag (suc (suc (suc byte)) ∷ rest) = None

-- the keys, where nothing is left behind them and they rise
abbrev pub rising_keys : List (List ℕ) × List ℕ → Option (List (List ℕ))
rising_keys (keys, []) = if are_rising keys then Some keys else None
rising_keys (keys, byte ∷ rest) = None

-- all of the bytes
unfoldable pub read_entry : List ℕ → Option LogEntry
read_entry bytes = do
  mark ← read_mark bytes
  tid ← read_number w64 mark.1
  number ← read_byte tid.1
  node ← node_of number.0
  flag ← read_flag number.1
  count ← read_number w32 flag.1
  writes ← read_many read_sized count.0 count.1
  keys ← rising_keys writes
  Some (record { tid = tid.0; node = node; flag = flag.0; writes = keys })
