-- The low-water mark begins the copy and the active snapshots.
use Rattle.std.proofs.Common.{◌≡◌, ◌⊎◌, inl, inr, ℕ, Bool, true, false, cond, true≢false, List, [], ◌∷◌, ◌++◌, refl, sym, ◌∙◌}
use Rattle.std.specs.List.{AllByRecursion}
use Rattle.std.proofs.lemmas.List.Sums.{fold-append}
use Rattle.tl_descriptor.specs.Tids.{IsCanonical, TidSet, begins}
use Rattle.tl_manager.specs.declared.active.Active.{Active}
use Rattle.tl_manager.specs.Floor.{IsChain, floor_of, lowered}
use Rattle.tl_manager.specs.Transactions.{snapshots_of}
use Rattle.tl_descriptor.proofs.Order.{begins_both, begins_itself, begins_on}

either : (P : TidSet → Type 0) (t : Bool) (x y : TidSet) → P x → P y → P (cond t x y)
either P true x y p q = p
either P false x y p q = q

canonical : (floor : TidSet) (active : List Active) → AllByRecursion IsCanonical (floor ∷ snapshots_of active) → IsCanonical (floor_of floor active)
canonical floor [] h = h.0
canonical floor (a ∷ active) h = canonical (lowered floor a) active (either IsCanonical (begins a.snapshot floor) a.snapshot floor h.1.0 h.0, h.1.1)

-- one snapshot more is at most the floor before it
lowers : (floor snapshot : TidSet) (t : Bool) → begins snapshot floor ≡ t → IsCanonical floor → begins (cond t snapshot floor) floor ≡ true
lowers floor snapshot true e h = e
lowers floor snapshot false e h = begins_itself floor h

-- and it is at most the snapshot
reaches : (floor snapshot : TidSet) (t : Bool) → begins snapshot floor ≡ t → IsCanonical snapshot
    → (begins floor snapshot ≡ true) ⊎ (begins snapshot floor ≡ true) → begins (cond t snapshot floor) snapshot ≡ true
reaches floor snapshot true e h c = begins_itself snapshot h
reaches floor snapshot false e h (inl p) = p
reaches floor snapshot false e h (inr p) = absurd (true≢false (sym p ∙ e))

pub begins_copy : (floor : TidSet) (active : List Active) → AllByRecursion IsCanonical (floor ∷ snapshots_of active) → begins (floor_of floor active) floor ≡ true
begins_copy floor [] h = begins_itself floor h.0
begins_copy floor (a ∷ active) h =
    let next : TidSet = lowered floor a in
    let fits : IsCanonical next = either IsCanonical (begins a.snapshot floor) a.snapshot floor h.1.0 h.0 in
    begins_on (floor_of next active) next floor (canonical next active (fits, h.1.1)) fits h.0 (begins_copy next active (fits, h.1.1))
    (lowers floor a.snapshot (begins a.snapshot floor) refl h.0)

pub begins_each : (floor : TidSet) (active : List Active) → AllByRecursion IsCanonical (floor ∷ snapshots_of active) → IsChain (floor ∷ snapshots_of active)
    → AllByRecursion (λ snapshot. begins (floor_of floor active) snapshot ≡ true) (snapshots_of active)
begins_each floor [] h k = tt
begins_each floor (a ∷ active) h k =
    let next : TidSet = lowered floor a in
    let fits : IsCanonical next = either IsCanonical (begins a.snapshot floor) a.snapshot floor h.1.0 h.0 in
    let chain : AllByRecursion (λ other. (begins next other ≡ true) ⊎ (begins other next ≡ true)) (snapshots_of active) =
    either (λ set. AllByRecursion (λ other. (begins set other ≡ true) ⊎ (begins other set ≡ true)) (snapshots_of active)) (begins a.snapshot floor) a.snapshot floor k.1.0 k.0.1 in (
      begins_on (floor_of next active) next a.snapshot (canonical next active (fits, h.1.1)) fits h.1.0 (begins_copy next active (fits, h.1.1))
          (reaches floor a.snapshot (begins a.snapshot floor) refl h.1.0 k.0.0),
      begins_each next active (fits, h.1.1) (chain, k.1.1),
    )

kept : (copy floor : TidSet) (t : Bool) → begins copy floor ≡ t → IsCanonical copy → IsCanonical floor → begins floor copy ≡ true → cond t copy floor ≡ floor
kept copy floor true e c f below = begins_both copy floor c f e below
kept copy floor false e c f below = refl

pub stays : (copy : TidSet) (active : List Active) (tid node : ℕ) → AllByRecursion IsCanonical (copy ∷ snapshots_of active)
    → floor_of copy (active ++ record { tid = tid; node = node; snapshot = copy } ∷ []) ≡ floor_of copy active
stays copy active tid node h =
    fold-append lowered copy active (record { tid = tid; node = node; snapshot = copy } ∷ [])
    ∙ kept copy (floor_of copy active) (begins copy (floor_of copy active)) refl h.0 (canonical copy active h) (begins_copy copy active h)
