-- Runs that stand apart: what that says of the first of them.
use Rattle.std.proofs.Common.{◌≡◌, ℕ, zero, suc, ◌+◌, ◌^◌, ◌<◌, ◌≤◌, Bool, true, false, ltb, leb, List, [], ◌∷◌, length, get_or, refl, arith}
use Rattle.std.specs.Prelude.{◌&&◌, ◌||◌}
use Rattle.std.specs.List.{All, AllByRecursion, list_any}
use Rattle.std.proofs.lemmas.List.Elements.{All-from_recursion}
use Rattle.std.proofs.lemmas.Bool.{and_parts, and_from, leb-true, le-leb, ltb-true, lt-ltb, lt-leb}
use Rattle.tl_descriptor.specs.declared.run.Run.{Run}
use Rattle.tl_descriptor.specs.Runs.{are_apart, holds}

pub record Above (below : ℕ) (run : Run) (runs : List Run) : Type 0 where
  pub low : below + 1 < run.low
  pub some : run.low ≤ run.high
  pub fits : run.high ≤ 2 ^ 62
  pub rest : are_apart run.high runs ≡ true

pub first_above : (below : ℕ) (run : Run) (runs : List Run) → are_apart below (run ∷ runs) ≡ true → Above below run runs
first_above below run runs h =
    let a = and_parts (ltb (below + 1) run.low && leb run.low run.high && leb run.high (2 ^ 62)) (are_apart run.high runs) h in
    let b = and_parts (ltb (below + 1) run.low && leb run.low run.high) (leb run.high (2 ^ 62)) a.0 in
    let c = and_parts (ltb (below + 1) run.low) (leb run.low run.high) b.0 in
    record { low = ltb-true _ _ c.0; some = leb-true _ _ c.1; fits = leb-true _ _ b.1; rest = a.1 }

pub above_first : (below : ℕ) (run : Run) (runs : List Run) → Above below run runs → are_apart below (run ∷ runs) ≡ true
above_first below run runs a =
    and_from _ _ (and_from _ _ (and_from _ _ (lt-ltb _ _ a.low) (le-leb _ _ a.some)) (le-leb _ _ a.fits)) a.rest

-- a lower number to stand above
pub apart_from_lower : (low high : ℕ) (runs : List Run) → low ≤ high → are_apart high runs ≡ true → are_apart low runs ≡ true
apart_from_lower low high [] le h = refl
apart_from_lower low high (run ∷ runs) le h =
    let a = first_above high run runs h in
    let lower : low + 1 < run.low = let l : high + 1 < run.low = a.low in omega arith in
    above_first low run runs (record { low = lower; some = a.some; fits = a.fits; rest = a.rest })

before_all : (low high other_low other_high : ℕ) (others : Bool) → low < other_low → others ≡ false → ((leb other_low low && leb high other_high) || others) ≡ false
before_all low high other_low other_high others lt h = rw (lt-leb other_low low lt, h) refl

-- no run holds what begins at or before the number after the one that they stand above
pub none_hold : (below : ℕ) (run : Run) (runs : List Run) → are_apart below runs ≡ true → run.low ≤ below + 1 → list_any (holds run) runs ≡ false
none_hold below run [] h le = refl
none_hold below run (other ∷ runs) h le =
    let a = first_above below other runs h in
    let l : below + 1 < other.low = a.low in
    let s : other.low ≤ other.high = a.some in
    before_all run.low run.high other.low other.high (list_any (holds run) runs) (omega arith) (none_hold other.high run runs a.rest (omega arith))

pub all_high : (below : ℕ) (runs : List Run) → are_apart below runs ≡ true → (j : ℕ) (d : Run) → j < length runs → below ≤ (get_or runs j d).high
all_high below [] h j d lt = absurd (omega arith)
all_high below (run ∷ runs) h zero d lt =
    let a = first_above below run runs h in
    let l : below + 1 < run.low = a.low in
    let s : run.low ≤ run.high = a.some in
    omega arith
all_high below (run ∷ runs) h (suc j) d lt =
    let a = first_above below run runs h in
    let l : below + 1 < run.low = a.low in
    let s : run.low ≤ run.high = a.some in
    let r : run.high ≤ (get_or runs j d).high = all_high run.high runs a.rest j d (omega arith) in
    omega arith

some_in_each : (below : ℕ) (runs : List Run) → are_apart below runs ≡ true → AllByRecursion (λ run. run.low ≤ run.high) runs
some_in_each below [] h = tt
some_in_each below (run ∷ runs) h = let a = first_above below run runs h in (a.some, some_in_each run.high runs a.rest)

pub all_some : (below : ℕ) (runs : List Run) → are_apart below runs ≡ true → All (λ run. run.low ≤ run.high) runs
all_some below runs h = All-from_recursion (λ (run : Run). run.low ≤ run.high) runs (some_in_each below runs h)
