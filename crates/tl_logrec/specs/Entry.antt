-- What a transaction's log cell says, and its bytes.
use Rattle.std.specs.Prelude.{◌≡◌, ◌<◌, ◌≤◌, ℕ, ◌^◌, Bool, true, ◌&&◌, List, [], ◌∷◌, ◌++◌, length}
use Rattle.std.specs.Int.{w32, w64, to_be_bytes}
use Rattle.std.specs.List.{All, flat_map}
use Rattle.std.specs.Ordering.{is_lt, nat_cmp}
use Rattle.std.specs.Cmp.Lexicographic.{slice_cmp}
use Rattle.tl_codec.specs.Taken.{sized}
use Rattle.tl_logrec.specs.Keys.{IsKey}
use Rattle.tl_logrec.specs.declared.entry.Flag.{Flag}
use Rattle.tl_logrec.specs.declared.entry.Flag.TheVariants as flag
use Rattle.tl_logrec.specs.declared.entry.LogEntry.{LogEntry}

abbrev pub flag_byte : Flag → ℕ
flag_byte flag.Trying = 0
flag_byte flag.Decided = 1
flag_byte flag.Undone = 2

-- each key stands behind the one before it, the first behind this one
abbrev pub rise_from : List ℕ → List (List ℕ) → Bool
rise_from key [] = true
rise_from key (next ∷ keys) = is_lt (slice_cmp nat_cmp key next) && rise_from next keys

abbrev pub are_rising : List (List ℕ) → Bool
are_rising [] = true
are_rising (key ∷ keys) = rise_from key keys

-- 1, the tid, the node, the flag, the number of writes, and their keys
abbrev pub spelling : LogEntry → List ℕ
spelling entry =
    (1 ∷ []) ++ to_be_bytes w64 entry.tid ++ (entry.node ∷ []) ++ (flag_byte entry.flag ∷ []) ++ to_be_bytes w32 (length entry.writes)
    ++ flat_map sized entry.writes

-- what the keys of the writes have to be: their number has four bytes, the length of each has two, and they rise strictly
pub record AreWrites (keys : List (List ℕ)) : Type 0 where
  pub count : length keys < 2 ^ 32
  pub short : All IsKey keys
  pub rising : are_rising keys ≡ true

-- what has a spelling
pub record FitsEntry (entry : LogEntry) : Type 0 where
  pub tid : entry.tid < 2 ^ 64
  pub least : 1 ≤ entry.node
  pub greatest : entry.node ≤ 16
  pub writes : AreWrites entry.writes
