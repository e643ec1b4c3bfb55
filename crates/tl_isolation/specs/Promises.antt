-- What a history promises the users of the database.
use Rattle.std.specs.Prelude.{◌≡◌, ◌<◌, ◌≤◌, ◌⊎◌, ℕ, ◌==◌, true, false, List, [], ◌∷◌, ◌++◌, Option, Some, None, Contains, slice_get, if◌then◌else◌}
use Rattle.tl_schema.specs.declared.catalog.Setup.{Setup}
use Rattle.tl_write.specs.declared.write.Write.{Write}
use Rattle.tl_write.specs.Own.{is_written}
use Rattle.tl_isolation.specs.declared.entry.Answer.TheVariants as answer
use Rattle.tl_isolation.specs.declared.entry.Entry.{Entry}
use Rattle.tl_isolation.specs.declared.entry.Entry.TheVariants as entry
use Rattle.tl_isolation.specs.declared.state.Commit.{Commit}
use Rattle.tl_isolation.specs.declared.state.SiState.{SiState}
use Rattle.tl_isolation.specs.declared.state.Transaction.{Transaction}
use Rattle.tl_isolation.specs.State.{held_as}
use Rattle.tl_isolation.specs.History.{IsHistory, state_after}

abbrev pub first_of : {A : Type 0} → Option A → Option A → Option A
first_of None later = later
first_of (Some x) later = Some x

-- how many commits the transaction sees, where this entry begins it
abbrev pub begun_with : ℕ → Entry → Option ℕ
begun_with tid (entry.Began node t first) = if t == tid then Some first else None
begun_with tid e = None

-- how many commits the transaction sees
abbrev pub seen_by : ℕ → List Entry → Option ℕ
seen_by tid [] = None
seen_by tid (e ∷ es) = first_of (begun_with tid e) (seen_by tid es)

-- of two committed transactions that wrote one record the later saw the earlier
abbrev pub NeverOverlap : Type 0
NeverOverlap = (setup : Setup) (entries : List Entry) → IsHistory setup entries
    → (i j : ℕ) (earlier later : Commit) (key : List ℕ)
    → slice_get (state_after setup entries).commits i ≡ Some earlier → slice_get (state_after setup entries).commits j ≡ Some later → i < j
    → is_written key earlier.writes ≡ true → is_written key later.writes ≡ true
    → (first : ℕ) × (seen_by later.tid entries ≡ Some first) × (i < first)

-- the rival has written the record, and the transaction doesn't see it: it committed after the snapshot, or has tried to commit
-- and hasn't ended
abbrev pub IsOutside : SiState → Transaction → ℕ → List ℕ → Type 0
IsOutside state t rival key =
    ((i : ℕ) × (c : Commit) × (slice_get state.commits i ≡ Some c) × (t.first ≤ i) × (c.tid ≡ rival) × (is_written key c.writes ≡ true))
    ⊎ ((other : Transaction) × (held_as rival state.held ≡ Some other) × (other.tried ≡ true) × (is_written key other.own ≡ true))

-- a transaction clashes only in a record of its own, which a rival outside its snapshot has written
abbrev pub ClashIsReal : Type 0
ClashIsReal = (setup : Setup) (past later : List Entry) (tid rival at : ℕ) → IsHistory setup (past ++ entry.Clash tid rival at ∷ later)
    → (t : Transaction) × (w : Write) × (held_as tid (state_after setup past).held ≡ Some t) × (slice_get t.own at ≡ Some w)
    × ((rival == tid) ≡ false) × IsOutside (state_after setup past) t rival w.key

-- the transaction that this entry begins at the node
abbrev pub begun_at : ℕ → Entry → Option ℕ
begun_at node (entry.Began n tid first) = if n == node then Some tid else None
begun_at node e = None

-- the node's last transaction so far
abbrev pub last_begun : ℕ → List Entry → Option ℕ
last_begun node [] = None
last_begun node (e ∷ es) = first_of (last_begun node es) (begun_at node e)

-- a conflict is answered only where the node's last transaction has clashed with this rival
abbrev pub ConflictIsReal : Type 0
ConflictIsReal = (setup : Setup) (past later : List Entry) (node statement rival : ℕ)
    → IsHistory setup (past ++ entry.Answered node statement (answer.Conflict rival) ∷ later)
    → (tid at : ℕ) × (last_begun node past ≡ Some tid) × Contains past (entry.Clash tid rival at)

-- a transaction ends once: it isn't committed and undone, nor either of them twice
abbrev pub ends : ℕ → Entry → Option ℕ
ends tid (entry.Committed t) = if t == tid then Some t else None
ends tid (entry.Undone t) = if t == tid then Some t else None
ends tid e = None

abbrev pub EndsOnce : Type 0
EndsOnce = (setup : Setup) (past between later : List Entry) (one other : Entry) (tid : ℕ)
    → IsHistory setup (past ++ one ∷ (between ++ other ∷ later)) → ends tid one ≡ Some tid → ends tid other ≡ Some tid → ⊥
