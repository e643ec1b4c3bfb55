-- What is seen of a source and a sink in memory.
use Rattle.std.specs.Prelude.{ℕ, List, Bool, ◌==◌, if◌then◌else◌}
use Rattle.std.specs.List.{list_any}
use Rattle.tl_io.specs.Faults.{next}

-- the calls made, the numbers of those that are to fail, and how many failed
pub record CallsSeen : Type 0 where
  pub failing : List ℕ
  pub made : ℕ
  pub failed : ℕ

-- before the first call
abbrev pub none_made : List ℕ → CallsSeen
none_made failing = record { failing = failing; made = 0; failed = 0 }

-- after one call more, which failed or not
abbrev pub after_call : CallsSeen → Bool → CallsSeen
after_call calls failed = record calls { made = next calls.made; failed = (if failed then next calls.failed else calls.failed) }

-- the bytes not yet read, and the most that one call moves
pub record SourceSeen : Type 0 where
  pub left : List ℕ
  pub most : ℕ
  pub calls : CallsSeen

-- the bytes taken, how many there is room for in all, and the most that one call moves
pub record SinkSeen : Type 0 where
  pub held : List ℕ
  pub room : ℕ
  pub most : ℕ
  pub calls : CallsSeen

-- whether a call is one of those that are to fail
abbrev pub is_listed : List ℕ → ℕ → Bool
is_listed failing call = list_any (λ number. number == call) failing
