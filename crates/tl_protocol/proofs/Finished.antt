-- The sets of finished transactions are fronts of the order in which transactions finished.
use Rattle.std.proofs.Common.{◌≡◌, ℕ, ◌≤◌, Bool, true, false, List, [], ◌∷◌, length, Option, Some, None}
use Rattle.std.specs.Prelude.{◌==◌, nat_lt, if◌then◌else◌}
use Rattle.tl_descriptor.specs.Tids.{TidSet, IsCanonical, has}
use Rattle.tl_write.specs.declared.write.Write.{Write}
use Rattle.tl_isolation.specs.declared.state.Commit.{Commit}

-- a finished transaction, with its writes where it is committed
pub record Finished : Type 0 where
  pub tid : ℕ
  pub writes : Option (List Write)

abbrev pub is_done : ℕ → List Finished → Bool
is_done tid [] = false
is_done tid (d ∷ ds) = if d.tid == tid then true else is_done tid ds

-- no two of them have the same number
abbrev pub AreDistinct : List Finished → Type 0
AreDistinct [] = Unit {0}
AreDistinct (d ∷ ds) = (is_done d.tid ds ≡ false) × AreDistinct ds

abbrev pub commit_on : ℕ → Option (List Write) → List Commit → List Commit
commit_on tid None cs = cs
commit_on tid (Some writes) cs = record { tid = tid; writes = writes } ∷ cs

-- the commits among them, the newest first
abbrev pub commits_of : List Finished → List Commit
commits_of [] = []
commits_of (d ∷ ds) = commit_on d.tid d.writes (commits_of ds)

-- of these the set has exactly the first m
abbrev pub Agree : TidSet → ℕ → List Finished → Type 0
Agree s m [] = Unit {0}
Agree s m (d ∷ ds) = (has s d.tid ≡ nat_lt (length ds) m) × Agree s m ds

-- the set is the first m of those that finished
pub record Known (s : TidSet) (m : ℕ) (ds : List Finished) : Type 0 where
  pub canonical : IsCanonical s
  pub within : m ≤ length ds
  pub agree : Agree s m ds
  pub strange : (tid : ℕ) → is_done tid ds ≡ false → has s tid ≡ false

-- the set is the first ones, however many
pub record Snap (s : TidSet) (ds : List Finished) : Type 0 where
  pub m : ℕ
  pub known : Known s m ds

-- of the commits the set has exactly the first n
abbrev pub Fits : TidSet → ℕ → List Commit → Type 0
Fits s n [] = Unit {0}
Fits s n (c ∷ cs) = (has s c.tid ≡ nat_lt (length cs) n) × Fits s n cs

-- how many of the first m are committed
abbrev pub firsts : ℕ → List Finished → ℕ
firsts m [] = 0
firsts m (d ∷ ds) = if nat_lt (length ds) m then length (commits_of (d ∷ ds)) else firsts m ds

-- the first that finished was tid 0
abbrev pub OpensWith : List Finished → Type 0
OpensWith [] = ⊥
OpensWith (d ∷ []) = d.tid ≡ 0
OpensWith (d ∷ e ∷ ds) = OpensWith (e ∷ ds)
