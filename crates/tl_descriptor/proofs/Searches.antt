-- The run that a tid lies in, or the place where it is put, is found by a search for the first run that doesn't end below it.
use Rattle.std.proofs.Common.{◌≡◌, ℕ, zero, suc, ◌+◌, ◌-◌, ◌<◌, ◌≤◌, Bool, true, false, cond, ltb, leb, eqb, List, [], ◌∷◌, length, Option, Some, None, refl, sym, ap, ◌∙◌, ◌⊎◌, inl, inr, arith}
use Rattle.std.specs.Prelude.{◌&&◌, ◌||◌, slice_get}
use Rattle.std.specs.List.{list_any}
use Rattle.std.specs.List.Sorted.{IsNonDecreasingBy, IsPartitionedBy, IsPartitionPoint}
use Rattle.std.proofs.lemmas.Bool.{eqb-true, le-leb, ltb-true, ltb-false, le-ltb, lt-leb}
use Rattle.std.proofs.lemmas.List.Sorted.{IsPartitionedBy-ltb}
use Rattle.tl_descriptor.specs.declared.run.Run.{Run}
use Rattle.tl_descriptor.specs.Places.{put_at, run_after, run_before}
use Rattle.tl_descriptor.specs.Runs.{are_apart, count_below, holds, join, put}
use Rattle.tl_descriptor.proofs.Apart.{all_high, first_above, none_hold}

rising : (below : ℕ) (runs : List Run) → are_apart below runs ≡ true → IsNonDecreasingBy (λ run. run.high) runs
rising below [] h i j d le lt = absurd (omega arith)
rising below (run ∷ runs) h zero zero d le lt = omega arith
rising below (run ∷ runs) h zero (suc j) d le lt = all_high run.high runs (first_above below run runs h).rest j d (omega arith)
rising below (run ∷ runs) h (suc i) zero d le lt = absurd (omega arith)
rising below (run ∷ runs) h (suc i) (suc j) d le lt = rising run.high runs (first_above below run runs h).rest i j d (omega arith) (omega arith)

abbrev pub ends_below : ℕ → Run → Bool
ends_below tid run = ltb run.high tid

pub partitioned : (below tid : ℕ) (runs : List Run) → are_apart below runs ≡ true → IsPartitionedBy (ends_below tid) runs
partitioned below tid runs h = IsPartitionedBy-ltb (λ run. run.high) runs tid (rising below runs h)

-- the place that divides the runs is their count
pub count_is : (tid : ℕ) (runs : List Run) (i : ℕ) → i ≤ length runs → IsPartitionPoint (λ run. ends_below tid run ≡ true) (λ run. ends_below tid run ≡ false) runs i → i ≡ count_below tid runs
count_is tid [] i le p = omega arith
count_is tid (run ∷ runs) zero le p = rw (p.1 zero run (omega arith) (omega arith)) refl
count_is tid (run ∷ runs) (suc i) le p =
    let rest = count_is tid runs i (omega arith) (λ k d l m. p.0 (suc k) d (omega arith) (omega arith), λ k d l m. p.1 (suc k) d (omega arith) (omega arith)) in
    rw (p.0 zero run (omega arith) (omega arith)) (ap suc rest)

within_step : (b : Bool) (n m : ℕ) → n ≤ m → cond b (suc n) 0 ≤ suc m
within_step true n m le = omega arith
within_step false n m le = omega arith

pub count_within : (tid : ℕ) (runs : List Run) → count_below tid runs ≤ length runs
count_within tid [] = omega arith
count_within tid (run ∷ runs) = within_step (ltb run.high tid) (count_below tid runs) (length runs) (count_within tid runs)

-- ---- the run that another lies in

abbrev pub found_in : Run → Option Run → Bool
found_in run None = false
found_in run (Some other) = leb other.low run.low

skipped : (x y z found : Bool) → y ≡ false → found ≡ z → found ≡ ((x && y) || z)
skipped true y z found e f = rw e f
skipped false y z found e f = f

only : (x y z : Bool) → y ≡ true → z ≡ false → x ≡ ((x && y) || z)
only true y z e f = rw e refl
only false y z e f = sym f

pub find_is : (below : ℕ) (runs : List Run) (run : Run) → are_apart below runs ≡ true → run.low ≤ run.high → found_in run (slice_get runs (count_below run.high runs)) ≡ list_any (holds run) runs
find_is below [] run h s = refl
find_is below (other ∷ runs) run h s = by (ltb other.high run.high) refl (find_is other.high runs run (first_above below other runs h).rest s)
  where
    by : (b : Bool) → ltb other.high run.high ≡ b → found_in run (slice_get runs (count_below run.high runs)) ≡ list_any (holds run) runs
        → found_in run (slice_get (other ∷ runs) (cond b (suc (count_below run.high runs)) 0)) ≡ list_any (holds run) (other ∷ runs)
    by true e found =
        let lt : other.high < run.high = ltb-true _ _ e in
        skipped (leb other.low run.low) (leb run.high other.high) (list_any (holds run) runs) _ (lt-leb run.high other.high lt) found
    by false e found =
        let le : run.high ≤ other.high = ltb-false _ _ e in
        let a = first_above below other runs h in
        only (leb other.low run.low) (leb run.high other.high) (list_any (holds run) runs) (le-leb run.high other.high le) (none_hold other.high run runs a.rest (omega arith))

pub found_is : (below : ℕ) (runs : List Run) (run : Run) (place : ℕ) (got : Option Run) → are_apart below runs ≡ true → run.low ≤ run.high → place ≡ count_below run.high runs → got ≡ slice_get runs place
    → found_in run got ≡ list_any (holds run) runs
found_is below runs run place got h s p g = ap (found_in run) (g ∙ ap (slice_get runs) p) ∙ find_is below runs run h s

-- ---- the place of a tid

abbrev put_here : ℕ → ℕ → List Run → List Run
put_here tid place runs = put_at tid place (run_before tid place runs) (run_after tid place runs) runs

-- before the first run
in_front : (tid : ℕ) (runs : List Run) → put_here tid 0 runs ≡ join tid tid runs
in_front tid [] = refl
in_front tid (run ∷ runs) = by (eqb run.low (tid + 1))
  where
    by : (b : Bool) → put_at tid 0 None (cond b (Some run) None) (run ∷ runs) ≡ cond b (record { low = tid; high = run.high } ∷ runs) (record { low = tid; high = tid } ∷ run ∷ runs)
    by true = refl
    by false = refl

-- at the end of the first run
at_end : (tid : ℕ) (run : Run) (runs : List Run) → put_at tid 1 (Some run) (run_after tid 0 runs) (run ∷ runs) ≡ join run.low tid runs
at_end tid run [] = refl
at_end tid run (other ∷ runs) = by (eqb other.low (tid + 1))
  where
    by : (b : Bool) → put_at tid 1 (Some run) (cond b (Some other) None) (run ∷ other ∷ runs) ≡ cond b (record { low = run.low; high = other.high } ∷ runs) (record { low = run.low; high = tid } ∷ other ∷ runs)
    by true = refl
    by false = refl

-- behind the first run
further : (tid place : ℕ) (before after : Option Run) (run : Run) (runs : List Run) → (before ≡ None) ⊎ (0 < place) → put_at tid (suc place) before after (run ∷ runs) ≡ run ∷ put_at tid place before after runs
further tid zero (Some before) after run runs (inl e) = absurd cc
further tid zero (Some before) after run runs (inr lt) = absurd (omega arith)
further tid (suc place) (Some before) (Some after) run runs h = let one : suc (suc place) - 1 ≡ suc (suc place - 1) = omega arith in rw one refl
further tid (suc place) (Some before) None run runs h = let one : suc (suc place) - 1 ≡ suc (suc place - 1) = omega arith in rw one refl
further tid place None (Some after) run runs h = refl
further tid place None None run runs h = refl

no_run_before : (tid : ℕ) (run : Run) (runs : List Run) → eqb tid (run.high + 1) ≡ false → run_before tid 1 (run ∷ runs) ≡ None
no_run_before tid run runs e = rw e refl

behind : (tid place : ℕ) (run : Run) (runs : List Run) → eqb tid (run.high + 1) ≡ false → put_here tid (suc place) (run ∷ runs) ≡ run ∷ put_here tid place runs
behind tid zero run runs e =
    ap (λ (before : Option Run). put_at tid 1 before (run_after tid 0 runs) (run ∷ runs)) (no_run_before tid run runs e) ∙ further tid 0 None (run_after tid 0 runs) run runs (inl refl)
behind tid (suc place) run runs e = further tid (suc place) (run_before tid (suc place) runs) (run_after tid (suc place) runs) run runs (inr (omega arith))

-- where a run is just before the tid, none of the others ends below the tid
none_below : (below tid : ℕ) (runs : List Run) → are_apart below runs ≡ true → tid ≤ below + 1 → count_below tid runs ≡ 0
none_below below tid [] h le = refl
none_below below tid (run ∷ runs) h le =
    let a = first_above below run runs h in
    let l : below + 1 < run.low = a.low in
    let s : run.low ≤ run.high = a.some in
    ap (λ (b : Bool). cond b (suc (count_below tid runs)) 0) (le-ltb run.high tid (omega arith))

pub puts : (below tid : ℕ) (runs : List Run) → are_apart below runs ≡ true → put_here tid (count_below tid runs) runs ≡ put tid runs
puts below tid [] h = refl
puts below tid (run ∷ runs) h = by (ltb run.high tid) (eqb tid (run.high + 1)) refl refl (puts run.high tid runs (first_above below run runs h).rest)
  where
    by : (b e : Bool) → ltb run.high tid ≡ b → eqb tid (run.high + 1) ≡ e → put_here tid (count_below tid runs) runs ≡ put tid runs
        → put_here tid (cond b (suc (count_below tid runs)) 0) (run ∷ runs) ≡ cond b (cond e (join run.low tid runs) (run ∷ put tid runs)) (join tid tid (run ∷ runs))
    by false e l q others = in_front tid (run ∷ runs)
    by true true l q others =
        let same : tid ≡ run.high + 1 = eqb-true _ _ q in
        let none : count_below tid runs ≡ 0 = none_below run.high tid runs (first_above below run runs h).rest (omega arith) in
        ap (λ (n : ℕ). put_here tid (suc n) (run ∷ runs)) none ∙ ap (λ (t : Bool). put_at tid 1 (cond t (Some run) None) (run_after tid 0 runs) (run ∷ runs)) q ∙ at_end tid run runs
    by true false l q others = behind tid (count_below tid runs) run runs q ∙ ap (λ (rest : List Run). run ∷ rest) others

pub put_is : (below tid : ℕ) (runs : List Run) (place : ℕ) (before after : Option Run) → are_apart below runs ≡ true → place ≡ count_below tid runs → before ≡ run_before tid place runs → after ≡ run_after tid place runs
    → put_at tid place before after runs ≡ put tid runs
put_is below tid runs place before after h p b a = rw (b, a, p) (puts below tid runs h)
