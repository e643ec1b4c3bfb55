-- A set of numbers beside their list.
use Rattle.std.specs.Prelude.{◌≡◌, ℕ, ◌==◌, List}
use Rattle.std.specs.BTreeSet.{BTreeSet, contains}
use Rattle.std.specs.List.{list_any}
use Rattle.std.specs.Ordering.{nat_cmp}

-- both have the same numbers
abbrev pub AreSame : List ℕ → BTreeSet ℕ → Type 0
AreSame numbers set = (n : ℕ) → contains nat_cmp set n ≡ list_any (λ number. number == n) numbers
