-- When one set is within another, and that a set is written in one way alone.
use Rattle.std.proofs.Common.{◌≡◌, ℕ, ◌+◌, ◌-◌, ◌<◌, ◌≤◌, Bool, true, false, leb, List, [], ◌∷◌, refl, sym, ap, ◌∙◌, subst, ⊎_elim, arith}
use Rattle.std.specs.Prelude.{◌&&◌, ◌||◌, ◌↔◌}
use Rattle.std.specs.List.{list_all, list_any}
use Rattle.std.proofs.lemmas.Bool.{and_from, and_parts, both_ways, cases_lt, le-leb, lt-leb, or_cases, or_left, or_right}
use Rattle.std.proofs.lemmas.Bool.Decides.{nat_tests}
use Rattle.tl_descriptor.specs.declared.run.Run.{Run}
use Rattle.tl_descriptor.specs.Runs.{are_apart, holds}
use Rattle.tl_descriptor.specs.Tids.{IsCanonical, IsWithin, TidSet, begins, covers, has}
use Rattle.tl_descriptor.proofs.Apart.{above_first, first_above, none_hold}
use Rattle.tl_descriptor.proofs.Members.{lies}

-- ---- from runs to tids

held_on : (low high mid_low mid_high top_low top_high : ℕ) → (leb mid_low low && leb high mid_high) ≡ true → (leb top_low mid_low && leb mid_high top_high) ≡ true → (leb top_low low && leb high top_high) ≡ true
held_on low high mid_low mid_high top_low top_high a b = grind (arith, nat_tests)

-- what a run holds lies where the run lies
holds_on : (inner run : Run) (runs : List Run) → holds inner run ≡ true → list_any (holds run) runs ≡ true → list_any (holds inner) runs ≡ true
holds_on inner run [] h e = absurd (both_ways false refl e)
holds_on inner run (other ∷ runs) h e =
    ⊎_elim
    (λ here. or_left (holds inner other) (list_any (holds inner) runs) (held_on inner.low inner.high run.low run.high other.low other.high h here))
    (λ later. or_right (holds inner other) (list_any (holds inner) runs) (holds_on inner run runs h later))
    (or_cases (holds run other) (list_any (holds run) runs) e)

abbrev only : ℕ → Run
only tid = record { low = tid; high = tid }

lower_tid : (tid low high base : ℕ) → (leb low tid && leb tid high) ≡ true → leb high base ≡ true → leb tid base ≡ true
lower_tid tid low high base a b = grind (arith, nat_tests)

covered_has : (set : TidSet) (run : Run) (tid : ℕ) → holds (only tid) run ≡ true → covers set run ≡ true → has set tid ≡ true
covered_has set run tid h e =
    ⊎_elim
    (λ below. or_left (leb tid set.base) (lies tid set.runs) (lower_tid tid run.low run.high set.base h below))
    (λ lies_in. or_right (leb tid set.base) (lies tid set.runs) (holds_on (only tid) run set.runs h lies_in))
    (or_cases (leb run.high set.base) (list_any (holds run) set.runs) e)

all_covered : (set : TidSet) (runs : List Run) (tid : ℕ) → list_all (covers set) runs ≡ true → lies tid runs ≡ true → has set tid ≡ true
all_covered set [] tid all h = absurd (both_ways false refl h)
all_covered set (run ∷ runs) tid all h =
    let a = and_parts (covers set run) (list_all (covers set) runs) all in
    ⊎_elim (λ here. covered_has set run tid here a.0) (λ later. all_covered set runs tid a.1 later) (or_cases (holds (only tid) run) (lies tid runs) h)

up_to : (tid base other : ℕ) → leb tid base ≡ true → leb base other ≡ true → leb tid other ≡ true
up_to tid base other a b = grind (arith, nat_tests)

pub within_from_begins : (set other : TidSet) → begins set other ≡ true → IsWithin set other
within_from_begins set other e =
    let a = and_parts (leb set.base other.base) (list_all (covers other) set.runs) e in
    record {
      by = λ tid h.
          ⊎_elim
          (λ below. or_left (leb tid other.base) (lies tid other.runs) (up_to tid set.base other.base below a.0))
          (λ later. all_covered other set.runs tid a.1 later)
          (or_cases (leb tid set.base) (lies tid set.runs) h);
    }

-- ---- from tids to runs

held : (tid low high : ℕ) → low ≤ tid → tid ≤ high → (leb low tid && leb tid high) ≡ true
held tid low high a b = grind (arith, nat_tests)

beyond : (tid low high : ℕ) (others : Bool) → high < tid → ((leb low tid && leb tid high) || others) ≡ others
beyond tid low high others lt = grind (arith, nat_tests)

at_or_after_first : (tid low high : ℕ) (others : Bool) → ((leb low tid && leb tid high) || others) ≡ true → others ≡ false → low ≤ tid
at_or_after_first tid low high others h e = grind (arith, nat_tests)

-- a run all of whose tids lie in runs lies in one of them, since no two are adjacent
in_one : (below : ℕ) (run : Run) (runs : List Run) → are_apart below runs ≡ true → run.low ≤ run.high → ((tid : ℕ) → run.low ≤ tid → tid ≤ run.high → lies tid runs ≡ true) → list_any (holds run) runs ≡ true
in_one below run [] h some all = absurd (both_ways false refl (all run.low (omega arith) some))
in_one below run (other ∷ runs) h some all =
    let a = first_above below other runs h in
    let first = all run.low (omega arith) some in
    ⊎_elim
    (λ (further : other.high + 1 < run.low).
    or_right (holds run other) (list_any (holds run) runs)
    (in_one other.high run runs a.rest some (λ tid l u. sym (beyond tid other.low other.high (lies tid runs) (omega arith)) ∙ all tid l u)))
    (λ (near : run.low ≤ other.high + 1).
    let none = none_hold other.high (only run.low) runs a.rest near in
    let starts : other.low ≤ run.low = at_or_after_first run.low other.low other.high (lies run.low runs) first none in
    ⊎_elim
    (λ (longer : other.high < run.high).
    let next = all (other.high + 1) near (omega arith) in
    let no_next : lies (other.high + 1) runs ≡ false = none_hold other.high (only (other.high + 1)) runs a.rest (omega arith) in
    absurd (both_ways _ no_next (sym (beyond (other.high + 1) other.low other.high (lies (other.high + 1) runs) (omega arith)) ∙ next)))
    (λ (shorter : run.high ≤ other.high). or_left (holds run other) (list_any (holds run) runs) (and_from _ _ (le-leb _ _ starts) (le-leb _ _ shorter)))
    (cases_lt other.high run.high))
    (cases_lt (other.high + 1) run.low)

past_base : (set : TidSet) → IsCanonical set → has set (set.base + 1) ≡ false
past_base set c =
    let over : leb (set.base + 1) set.base ≡ false = lt-leb _ _ (omega arith) in
    let none = none_hold set.base (only (set.base + 1)) set.runs c.apart (omega arith) in
    rw (over, none) refl

has_up_to : (set : TidSet) (tid : ℕ) → tid ≤ set.base → has set tid ≡ true
has_up_to set tid le = or_left (leb tid set.base) (lies tid set.runs) (le-leb _ _ le)

base_within : (set other : TidSet) → IsCanonical other → IsWithin set other → set.base ≤ other.base
base_within set other c w =
    ⊎_elim
    (λ (lt : other.base < set.base). absurd (both_ways _ (past_base other c) (w.by (other.base + 1) (has_up_to set (other.base + 1) (omega arith)))))
    (λ (le : set.base ≤ other.base). le)
    (cases_lt other.base set.base)

lies_above : (tid base : ℕ) (others : Bool) → (leb tid base || others) ≡ true → base < tid → others ≡ true
lies_above tid base others h lt = grind (arith, nat_tests)

is_covered : (set : TidSet) (run : Run) → IsCanonical set → run.low ≤ run.high → ((tid : ℕ) → run.low ≤ tid → tid ≤ run.high → has set tid ≡ true) → covers set run ≡ true
is_covered set run c some all =
    ⊎_elim
    (λ (over : set.base < run.high).
    ⊎_elim
    (λ (above : set.base < run.low).
    or_right (leb run.high set.base) (list_any (holds run) set.runs)
    (in_one set.base run set.runs c.apart some (λ tid l u. lies_above tid set.base (lies tid set.runs) (all tid l u) (omega arith))))
    (λ (from : run.low ≤ set.base). absurd (both_ways _ (past_base set c) (all (set.base + 1) (omega arith) (omega arith))))
    (cases_lt set.base run.low))
    (λ (le : run.high ≤ set.base). or_left (leb run.high set.base) (list_any (holds run) set.runs) (le-leb _ _ le))
    (cases_lt set.base run.high)

are_covered : (set : TidSet) (below : ℕ) (runs : List Run) → IsCanonical set → are_apart below runs ≡ true → ((tid : ℕ) → lies tid runs ≡ true → has set tid ≡ true) → list_all (covers set) runs ≡ true
are_covered set below [] c h all = refl
are_covered set below (run ∷ runs) c h all =
    let a = first_above below run runs h in
    and_from (covers set run) (list_all (covers set) runs)
    (is_covered set run c a.some (λ tid l u. all tid (or_left (holds (only tid) run) (lies tid runs) (held tid run.low run.high l u))))
    (are_covered set run.high runs c a.rest (λ tid e. all tid (or_right (holds (only tid) run) (lies tid runs) e)))

pub begins_from_within : (set other : TidSet) → IsCanonical set → IsCanonical other → IsWithin set other → begins set other ≡ true
begins_from_within set other c d w =
    and_from (leb set.base other.base) (list_all (covers other) set.runs)
    (le-leb _ _ (base_within set other d w))
    (are_covered other set.base set.runs d c.apart (λ tid h. w.by tid (or_right (leb tid set.base) (lies tid set.runs) h)))

-- ---- one way alone

before_first : (base : ℕ) (run : Run) (runs : List Run) (tid : ℕ) → are_apart base (run ∷ runs) ≡ true → tid < run.low → lies tid (run ∷ runs) ≡ false
before_first base run runs tid h lt =
    let a = first_above base run runs h in
    let s : run.low ≤ run.high = a.some in
    let b : base + 1 < run.low = a.low in
    let near : are_apart (run.low - 2) (run ∷ runs) ≡ true = above_first (run.low - 2) run runs (record { low = omega arith; some = a.some; fits = a.fits; rest = a.rest }) in
    none_hold (run.low - 2) (only tid) (run ∷ runs) near (omega arith)

low_lies : (base : ℕ) (run : Run) (runs : List Run) → are_apart base (run ∷ runs) ≡ true → lies run.low (run ∷ runs) ≡ true
low_lies base run runs h =
    let s : run.low ≤ run.high = (first_above base run runs h).some in
    or_left (holds (only run.low) run) (lies run.low runs) (held run.low run.low run.high (omega arith) s)

abbrev SameAbove : ℕ → List Run → List Run → Type 0
SameAbove base xs ys = (tid : ℕ) → base < tid → lies tid xs ≡ lies tid ys

lows : (base : ℕ) (x y : Run) (xs ys : List Run) → are_apart base (x ∷ xs) ≡ true → are_apart base (y ∷ ys) ≡ true → SameAbove base (x ∷ xs) (y ∷ ys) → y.low ≤ x.low
lows base x y xs ys h k same =
    let b : base + 1 < x.low = (first_above base x xs h).low in
    ⊎_elim
    (λ (lt : x.low < y.low). absurd (both_ways _ (before_first base y ys x.low k lt) (sym (same x.low (omega arith)) ∙ low_lies base x xs h)))
    (λ (le : y.low ≤ x.low). le)
    (cases_lt x.low y.low)

highs : (base : ℕ) (x y : Run) (xs ys : List Run) → are_apart base (x ∷ xs) ≡ true → are_apart base (y ∷ ys) ≡ true → SameAbove base (x ∷ xs) (y ∷ ys) → x.low ≡ y.low → y.high ≤ x.high
highs base x y xs ys h k same e =
    let a = first_above base x xs h in
    let b : base + 1 < x.low = a.low in
    let s : x.low ≤ x.high = a.some in
    ⊎_elim
    (λ (lt : x.high < y.high).
    let after : lies (x.high + 1) (x ∷ xs) ≡ false = beyond (x.high + 1) x.low x.high (lies (x.high + 1) xs) (omega arith) ∙ none_hold x.high (only (x.high + 1)) xs a.rest (omega arith) in
    let inside : lies (x.high + 1) (y ∷ ys) ≡ true = or_left (holds (only (x.high + 1)) y) (lies (x.high + 1) ys) (held (x.high + 1) y.low y.high (omega arith) (omega arith)) in
    absurd (both_ways _ after (same (x.high + 1) (omega arith) ∙ inside)))
    (λ (le : y.high ≤ x.high). le)
    (cases_lt x.high y.high)

run_is : (low high low' high' : ℕ) → low ≡ low' → high ≡ high' → (let x : Run = record { low = low; high = high } in x) ≡ record { low = low'; high = high' }
run_is low high low' high' e f = ap (λ (n : ℕ). let x : Run = record { low = n; high = high } in x) e ∙ ap (λ (n : ℕ). let x : Run = record { low = low'; high = n } in x) f

same_runs : (base : ℕ) (xs ys : List Run) → are_apart base xs ≡ true → are_apart base ys ≡ true → SameAbove base xs ys → xs ≡ ys
same_runs base [] [] h k same = refl
same_runs base [] (y ∷ ys) h k same =
    let b : base + 1 < y.low = (first_above base y ys k).low in
    absurd (both_ways _ refl (same y.low (omega arith) ∙ low_lies base y ys k))
same_runs base (x ∷ xs) [] h k same =
    let b : base + 1 < x.low = (first_above base x xs h).low in
    absurd (both_ways _ refl (sym (same x.low (omega arith)) ∙ low_lies base x xs h))
same_runs base (x ∷ xs) (y ∷ ys) h k same =
    let a = first_above base x xs h in
    let b = first_above base y ys k in
    let back : SameAbove base (y ∷ ys) (x ∷ xs) = λ tid lt. sym (same tid lt) in
    let l : y.low ≤ x.low = lows base x y xs ys h k same in
    let m : x.low ≤ y.low = lows base y x ys xs k h back in
    let low : x.low ≡ y.low = omega arith in
    let n : y.high ≤ x.high = highs base x y xs ys h k same low in
    let o : x.high ≤ y.high = highs base y x ys xs k h back (sym low) in
    let high : x.high ≡ y.high = omega arith in
    let up : base + 1 < x.low = a.low in
    let s : x.low ≤ x.high = a.some in
    let others = same_runs x.high xs ys a.rest (subst (λ (n : ℕ). are_apart n ys ≡ true) (sym high) b.rest)
    (λ tid lt. sym (beyond tid x.low x.high (lies tid xs) lt) ∙ same tid (omega arith) ∙ beyond tid y.low y.high (lies tid ys) (omega arith)) in
    let one : x ≡ y = run_is x.low x.high y.low y.high low high in
    ap (λ (r : Run). r ∷ xs) one ∙ ap (λ (rs : List Run). y ∷ rs) others

set_is : (base base' : ℕ) (runs runs' : List Run) → base ≡ base' → runs ≡ runs' → (let x : TidSet = record { base = base; runs = runs } in x) ≡ record { base = base'; runs = runs' }
set_is base base' runs runs' e f = ap (λ (n : ℕ). let x : TidSet = record { base = n; runs = runs } in x) e ∙ ap (λ (rs : List Run). let x : TidSet = record { base = base'; runs = rs } in x) f

above_same : (tid base : ℕ) (p q : Bool) → (leb tid base || p) ≡ (leb tid base || q) → base < tid → p ≡ q
above_same tid base p q e lt = let over = lt-leb tid base lt in rw over at e

pub sets_are_same : (set other : TidSet) → IsCanonical set → IsCanonical other → ((tid : ℕ) → has set tid ≡ has other tid) → set ≡ other
sets_are_same set other c d same =
    let l : set.base ≤ other.base = base_within set other d (record { by = λ tid h. sym (same tid) ∙ h }) in
    let m : other.base ≤ set.base = base_within other set c (record { by = λ tid h. same tid ∙ h }) in
    let base : set.base ≡ other.base = omega arith in
    let apart : are_apart set.base other.runs ≡ true = subst (λ (n : ℕ). are_apart n other.runs ≡ true) (sym base) d.apart in
    let runs = same_runs set.base set.runs other.runs c.apart apart
    (λ tid lt. above_same tid set.base (lies tid set.runs) (lies tid other.runs) (subst (λ (n : ℕ). has set tid ≡ (leb tid n || lies tid other.runs)) (sym base) (same tid)) lt) in
    set_is set.base other.base set.runs other.runs base runs

same_test : (p q : Bool) → (p ≡ true → q ≡ true) → (q ≡ true → p ≡ true) → p ≡ q
same_test true q f g = sym (f refl)
same_test false true f g = g refl
same_test false false f g = refl

-- ---- the order

pub begins_exactly : (set other : TidSet) → IsCanonical set → IsCanonical other → (begins set other ≡ true) ↔ IsWithin set other
begins_exactly set other c d = (within_from_begins set other, begins_from_within set other c d)

pub begins_itself : (set : TidSet) → IsCanonical set → begins set set ≡ true
begins_itself set c = begins_from_within set set c c (record { by = λ tid h. h })

pub begins_on : (a b c : TidSet) → IsCanonical a → IsCanonical b → IsCanonical c → begins a b ≡ true → begins b c ≡ true → begins a c ≡ true
begins_on a b c p q r e f =
    begins_from_within a c p r (record { by = λ tid h. (within_from_begins b c f).by tid ((within_from_begins a b e).by tid h) })

pub begins_both : (set other : TidSet) → IsCanonical set → IsCanonical other → begins set other ≡ true → begins other set ≡ true → set ≡ other
begins_both set other c d e f =
    sets_are_same set other c d (λ tid. same_test (has set tid) (has other tid) ((within_from_begins set other e).by tid) ((within_from_begins other set f).by tid))

pub begins_answers : (set other : TidSet) (b : Bool) → IsCanonical set → IsCanonical other → b ≡ begins set other → (b ≡ true) ↔ IsWithin set other
begins_answers set other b c d e =
    (λ t. within_from_begins set other (sym e ∙ t), λ w. e ∙ begins_from_within set other c d w)
