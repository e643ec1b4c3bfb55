-- The places at which versions are found, and what stays a cell.
use Rattle.std.proofs.Common.{◌≡◌, ℕ, zero, suc, ◌+◌, ◌≤◌, Bool, true, false, cond, eqb, List, [], ◌∷◌, length, take, Option, Some, None, refl, sym, ap, ◌∙◌, subst, arith}
use Rattle.std.specs.Prelude.{◌||◌, not, slice_get, remove}
use Rattle.std.specs.List.{AllByRecursion, prefix_len}
use Rattle.std.proofs.lemmas.Bool.{and_from, and_parts, both_ways, ne_eqb, not_from_false, not-true}
use Rattle.std.proofs.lemmas.List.Elements.{All-from_recursion, recursion_from_All}
use Rattle.tl_descriptor.specs.Tids.{IsWithin, TidSet, has}
use Rattle.tl_versions.specs.declared.version.Version.{Version}
use Rattle.tl_versions.specs.Cell.{FitsVersion, IsCell}
use Rattle.tl_versions.specs.Versions.{are_distinct, is_written, prune, stranger, strip, visible}

one_more : (n : ℕ) → 1 + n ≡ suc n
one_more n = omega arith

-- ---- found at a place

abbrev outside : TidSet → List Version → ℕ
outside set versions = prefix_len (λ version. not (has set version.tid)) versions

pub visible_at : (set : TidSet) (versions : List Version) → slice_get versions (outside set versions) ≡ visible set versions
visible_at set [] = refl
visible_at set (version ∷ versions) = by (has set version.tid) (visible_at set versions)
  where
    by : (b : Bool) → slice_get versions (outside set versions) ≡ visible set versions
        → slice_get (version ∷ versions) (cond (not b) (1 + outside set versions) 0) ≡ cond b (Some version) (visible set versions)
    by true h = refl
    by false h = rw (one_more (outside set versions)) h

pub prune_at : (set : TidSet) (versions : List Version) → take (suc (outside set versions)) versions ≡ prune set versions
prune_at set [] = refl
prune_at set (version ∷ versions) = by (has set version.tid) (prune_at set versions)
  where
    by : (b : Bool) → take (suc (outside set versions)) versions ≡ prune set versions
        → take (suc (cond (not b) (1 + outside set versions) 0)) (version ∷ versions) ≡ version ∷ cond b [] (prune set versions)
    by true h = refl
    by false h = rw (one_more (outside set versions)) (ap (λ (rest : List Version). version ∷ rest) h)

abbrev pub tid_at : Option Version → Option ℕ
tid_at None = None
tid_at (Some version) = Some version.tid

abbrev inside : TidSet → List Version → ℕ
inside set versions = prefix_len (λ version. has set version.tid) versions

pub stranger_at : (set : TidSet) (versions : List Version) → tid_at (slice_get versions (inside set versions)) ≡ stranger set versions
stranger_at set [] = refl
stranger_at set (version ∷ versions) = by (has set version.tid) (stranger_at set versions)
  where
    by : (b : Bool) → tid_at (slice_get versions (inside set versions)) ≡ stranger set versions
        → tid_at (slice_get (version ∷ versions) (cond b (1 + inside set versions) 0)) ≡ cond b (stranger set versions) (Some version.tid)
    by true h = rw (one_more (inside set versions)) h
    by false h = refl

abbrev others : ℕ → List Version → ℕ
others tid versions = prefix_len (λ version. not (eqb version.tid tid)) versions

pub strip_at : (tid : ℕ) (versions : List Version) → remove versions (others tid versions) ≡ strip tid versions
strip_at tid [] = refl
strip_at tid (version ∷ versions) = by (eqb version.tid tid) (strip_at tid versions)
  where
    by : (b : Bool) → remove versions (others tid versions) ≡ strip tid versions
        → remove (version ∷ versions) (cond (not b) (1 + others tid versions) 0) ≡ cond b versions (version ∷ strip tid versions)
    by true h = refl
    by false h = rw (one_more (others tid versions)) (ap (λ (rest : List Version). version ∷ rest) h)

-- a place past the end: nothing is dropped
pub removed_past : (versions : List Version) (place : ℕ) → length versions ≤ place → remove versions place ≡ versions
removed_past [] zero le = refl
removed_past [] (suc place) le = refl
removed_past (version ∷ versions) zero le = absurd (omega arith)
removed_past (version ∷ versions) (suc place) le = ap (λ (rest : List Version). version ∷ rest) (removed_past versions place (omega arith))

pub taken_past : (versions : List Version) (place : ℕ) → length versions ≤ place → take (suc place) versions ≡ versions
taken_past [] place le = refl
taken_past (version ∷ versions) zero le = absurd (omega arith)
taken_past (version ∷ versions) (suc place) le = ap (λ (rest : List Version). version ∷ rest) (taken_past versions place (omega arith))

-- ---- pruning

-- what the floor shows, a set above it shows too
kept_on : (here floor_here : Bool) (version : Version) (rest full : Option Version) → (floor_here ≡ true → here ≡ true) → (floor_here ≡ false → rest ≡ full) → cond here (Some version) (cond floor_here None rest) ≡ cond here (Some version) full
kept_on true f version rest full up down = refl
kept_on false true version rest full up down = absurd (both_ways false refl (up refl))
kept_on false false version rest full up down = down refl

visible_short : (set : TidSet) (b : Bool) (versions : List Version) → visible set (cond b [] versions) ≡ cond b None (visible set versions)
visible_short set true versions = refl
visible_short set false versions = refl

pub prune_keeps : (set floor : TidSet) (versions : List Version) → IsWithin floor set → visible set (prune floor versions) ≡ visible set versions
prune_keeps set floor [] within = refl
prune_keeps set floor (version ∷ versions) within =
    ap (λ (rest : Option Version). cond (has set version.tid) (Some version) rest) (visible_short set (has floor version.tid) (prune floor versions))
    ∙ kept_on (has set version.tid) (has floor version.tid) version (visible set (prune floor versions)) (visible set versions) (within.by version.tid) (λ e. prune_keeps set floor versions within)

-- ---- what stays a cell

fewer : (x y z : Bool) → (x || y) ≡ false → (y ≡ false → z ≡ false) → (x || z) ≡ false
fewer true y z e f = absurd (both_ways true e refl)
fewer false y z e f = f e

strip_absent : (tid other : ℕ) (versions : List Version) → is_written other versions ≡ false → is_written other (strip tid versions) ≡ false
strip_absent tid other [] e = refl
strip_absent tid other (version ∷ versions) e = by (eqb version.tid tid) (strip_absent tid other versions)
  where
    by : (b : Bool) → (is_written other versions ≡ false → is_written other (strip tid versions) ≡ false) → is_written other (cond b versions (version ∷ strip tid versions)) ≡ false
    by true h = later (eqb version.tid other) (is_written other versions) e
      where
        later : (x y : Bool) → (x || y) ≡ false → y ≡ false
        later true y e = absurd (both_ways true e refl)
        later false y e = e
    by false h = fewer (eqb version.tid other) (is_written other versions) (is_written other (strip tid versions)) e h

pub prune_absent : (floor : TidSet) (other : ℕ) (versions : List Version) → is_written other versions ≡ false → is_written other (prune floor versions) ≡ false
prune_absent floor other [] e = refl
prune_absent floor other (version ∷ versions) e = by (has floor version.tid) (prune_absent floor other versions)
  where
    by : (b : Bool) → (is_written other versions ≡ false → is_written other (prune floor versions) ≡ false) → is_written other (version ∷ cond b [] (prune floor versions)) ≡ false
    by true h = fewer (eqb version.tid other) (is_written other versions) false e (λ _. refl)
    by false h = fewer (eqb version.tid other) (is_written other versions) (is_written other (prune floor versions)) e h

strip_distinct : (tid : ℕ) (versions : List Version) → are_distinct versions ≡ true → are_distinct (strip tid versions) ≡ true
strip_distinct tid [] h = refl
strip_distinct tid (version ∷ versions) h = by (eqb version.tid tid) (strip_distinct tid versions) (and_parts (not (is_written version.tid versions)) (are_distinct versions) h)
  where
    by : (b : Bool) → (are_distinct versions ≡ true → are_distinct (strip tid versions) ≡ true) → (not (is_written version.tid versions) ≡ true) × (are_distinct versions ≡ true) → are_distinct (cond b versions (version ∷ strip tid versions)) ≡ true
    by true f parts = parts.1
    by false f parts = and_from _ _ (not_from_false _ (strip_absent tid version.tid versions (not-true _ parts.0))) (f parts.1)

prune_distinct : (floor : TidSet) (versions : List Version) → are_distinct versions ≡ true → are_distinct (prune floor versions) ≡ true
prune_distinct floor [] h = refl
prune_distinct floor (version ∷ versions) h = by (has floor version.tid) (prune_distinct floor versions) (and_parts (not (is_written version.tid versions)) (are_distinct versions) h)
  where
    by : (b : Bool) → (are_distinct versions ≡ true → are_distinct (prune floor versions) ≡ true) → (not (is_written version.tid versions) ≡ true) × (are_distinct versions ≡ true) → are_distinct (version ∷ cond b [] (prune floor versions)) ≡ true
    by true f parts = refl
    by false f parts = and_from _ _ (not_from_false _ (prune_absent floor version.tid versions (not-true _ parts.0))) (f parts.1)

abbrev Fit : List Version → Type 0
Fit = AllByRecursion FitsVersion

strip_fits : (tid : ℕ) (versions : List Version) → Fit versions → Fit (strip tid versions)
strip_fits tid [] h = tt
strip_fits tid (version ∷ versions) h = by (eqb version.tid tid) (strip_fits tid versions h.1)
  where
    by : (b : Bool) → Fit (strip tid versions) → Fit (cond b versions (version ∷ strip tid versions))
    by true f = h.1
    by false f = (h.0, f)

prune_fits : (floor : TidSet) (versions : List Version) → Fit versions → Fit (prune floor versions)
prune_fits floor [] h = tt
prune_fits floor (version ∷ versions) h = by (has floor version.tid) (prune_fits floor versions h.1)
  where
    by : (b : Bool) → Fit (prune floor versions) → Fit (version ∷ cond b [] (prune floor versions))
    by true f = (h.0, tt)
    by false f = (h.0, f)

pub strip_cell : (tid : ℕ) (versions : List Version) → IsCell versions → IsCell (strip tid versions)
strip_cell tid versions c =
    record { distinct = strip_distinct tid versions c.distinct; fit = All-from_recursion FitsVersion (strip tid versions) (strip_fits tid versions (recursion_from_All FitsVersion versions c.fit)) }

pub prune_cell : (floor : TidSet) (versions : List Version) → IsCell versions → IsCell (prune floor versions)
prune_cell floor versions c =
    record { distinct = prune_distinct floor versions c.distinct; fit = All-from_recursion FitsVersion (prune floor versions) (prune_fits floor versions (recursion_from_All FitsVersion versions c.fit)) }

pub push_cell : (version : Version) (versions : List Version) → IsCell versions → FitsVersion version → is_written version.tid versions ≡ false → IsCell (version ∷ versions)
push_cell version versions c fits absent =
    record { distinct = and_from _ _ (not_from_false _ absent) c.distinct; fit = All-from_recursion FitsVersion (version ∷ versions) (fits, recursion_from_All FitsVersion versions c.fit) }

-- ---- without a stranger

same_has : (set : TidSet) (a b : ℕ) → has set a ≡ true → has set b ≡ false → eqb a b ≡ false
same_has set a b h k = ne_eqb a b (λ e. both_ways (has set a) (subst (λ (t : ℕ). has set t ≡ false) (sym e) k) h)

pub no_stranger_absent : (set : TidSet) (tid : ℕ) (versions : List Version) → stranger set versions ≡ None → has set tid ≡ false → is_written tid versions ≡ false
no_stranger_absent set tid [] e h = refl
no_stranger_absent set tid (version ∷ versions) e h = by (has set version.tid) refl e (λ f. no_stranger_absent set tid versions f h)
  where
    by : (b : Bool) → has set version.tid ≡ b → cond b (stranger set versions) (Some version.tid) ≡ None → (stranger set versions ≡ None → is_written tid versions ≡ false) → is_written tid (version ∷ versions) ≡ false
    by true k f others = rw (same_has set version.tid tid k h, others f) refl
    by false k f others = absurd cc

-- ---- what a search finds

pub visible_found : (set : TidSet) (versions : List Version) (place : ℕ) (got : Option Version) → place ≡ outside set versions → got ≡ slice_get versions place → got ≡ visible set versions
visible_found set versions place got p g = g ∙ ap (slice_get versions) p ∙ visible_at set versions

pub stranger_found : (set : TidSet) (versions : List Version) (place : ℕ) (got : Option Version) → place ≡ inside set versions → got ≡ slice_get versions place → tid_at got ≡ stranger set versions
stranger_found set versions place got p g = ap tid_at (g ∙ ap (slice_get versions) p) ∙ stranger_at set versions

pub strip_found : (tid : ℕ) (versions left : List Version) (place : ℕ) → place ≡ others tid versions → left ≡ remove versions place → left ≡ strip tid versions
strip_found tid versions left place p l = l ∙ ap (remove versions) p ∙ strip_at tid versions

pub strip_nothing : (tid : ℕ) (versions : List Version) (place : ℕ) → place ≡ others tid versions → length versions ≤ place → versions ≡ strip tid versions
strip_nothing tid versions place p le = sym (removed_past versions place le) ∙ ap (remove versions) p ∙ strip_at tid versions

pub prune_found : (floor : TidSet) (versions left : List Version) (place : ℕ) → place ≡ outside floor versions → left ≡ take (place + 1) versions → left ≡ prune floor versions
prune_found floor versions left place p l =
    let next : place + 1 ≡ suc (outside floor versions) = omega arith in
    l ∙ ap (λ (n : ℕ). take n versions) next ∙ prune_at floor versions

pub prune_nothing : (floor : TidSet) (versions : List Version) (place : ℕ) → place ≡ outside floor versions → length versions ≤ place → versions ≡ prune floor versions
prune_nothing floor versions place p le = sym (taken_past versions place le) ∙ ap (λ (n : ℕ). take (suc n) versions) p ∙ prune_at floor versions
