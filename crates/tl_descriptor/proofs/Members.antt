-- What a set has with a tid more, and that it is still written in the one way.
use Rattle.std.proofs.Common.{◌≡◌, ℕ, ◌+◌, ◌-◌, ◌^◌, ◌<◌, ◌≤◌, Bool, true, false, cond, ltb, leb, eqb, List, [], ◌∷◌, length, drop, Some, None, refl, ap, ◌∙◌, subst, arith}
use Rattle.std.specs.Prelude.{◌&&◌, ◌||◌}
use Rattle.std.specs.List.{list_any}
use Rattle.std.proofs.lemmas.Bool.{eqb-true, eqb-false, ltb-true, ltb-false, or_parts}
use Rattle.std.proofs.lemmas.Bool.Decides.{nat_tests}
use Rattle.tl_descriptor.specs.declared.run.Run.{Run}
use Rattle.tl_descriptor.specs.Places.{run_after}
use Rattle.tl_descriptor.specs.Runs.{are_apart, holds, join, put}
use Rattle.tl_descriptor.specs.Tids.{IsCanonical, TidSet, has, inserted, raised}
use Rattle.tl_descriptor.proofs.Apart.{above_first, first_above}

-- a tid lies in one of the runs
abbrev pub lies : ℕ → List Run → Bool
lies tid runs = list_any (holds (record { low = tid; high = tid })) runs

-- what is joined lies apart from the runs behind it, at most next to the first of them
pub record Touches (low high : ℕ) (runs : List Run) : Type 0 where
  pub some : low ≤ high
  pub fits : high ≤ 2 ^ 62
  pub below : ℕ
  pub next : high ≤ below + 1
  pub apart : are_apart below runs ≡ true

one_run : (low high next top u : ℕ) (others : Bool) → low ≤ high → next ≡ high + 1 → next ≤ top
    → ((leb low u && leb u top) || others) ≡ ((leb low u && leb u high) || ((leb next u && leb u top) || others))
one_run low high next top u others a b c = grind (arith, nat_tests)

pub join_lies : (low high : ℕ) (runs : List Run) (u : ℕ) → Touches low high runs → lies u (join low high runs) ≡ ((leb low u && leb u high) || lies u runs)
join_lies low high [] u t = refl
join_lies low high (run ∷ runs) u t = by (eqb run.low (high + 1)) refl
  where
    by : (b : Bool) → eqb run.low (high + 1) ≡ b → lies u (cond b (record { low = low; high = run.high } ∷ runs) (record { low = low; high = high } ∷ run ∷ runs)) ≡ ((leb low u && leb u high) || lies u (run ∷ runs))
    by true e = one_run low high run.low run.high u (lies u runs) t.some (eqb-true _ _ e) (first_above t.below run runs t.apart).some
    by false e = refl

pub join_apart : (base low high : ℕ) (runs : List Run) → base + 1 < low → Touches low high runs → are_apart base (join low high runs) ≡ true
join_apart base low high [] lt t = above_first base (record { low = low; high = high }) [] (record { low = lt; some = t.some; fits = t.fits; rest = refl })
join_apart base low high (run ∷ runs) lt t = by (eqb run.low (high + 1)) refl
  where
    by : (b : Bool) → eqb run.low (high + 1) ≡ b → are_apart base (cond b (record { low = low; high = run.high } ∷ runs) (record { low = low; high = high } ∷ run ∷ runs)) ≡ true
    by true e =
        let a = first_above t.below run runs t.apart in
        let next : run.low ≡ high + 1 = eqb-true _ _ e in
        let long : low ≤ run.high = let s : run.low ≤ run.high = a.some in let l : low ≤ high = t.some in omega arith in
        above_first base (record { low = low; high = run.high }) runs (record { low = lt; some = long; fits = a.fits; rest = a.rest })
    by false e =
        let a = first_above t.below run runs t.apart in
        let not_next : run.low ≡ high + 1 → ⊥ = eqb-false _ _ e in
        let far : high + 1 < run.low = let l : t.below + 1 < run.low = a.low in let n : high ≤ t.below + 1 = t.next in omega arith in
        let others = above_first high run runs (record { low = far; some = a.some; fits = a.fits; rest = a.rest }) in
        above_first base (record { low = low; high = high }) (run ∷ runs) (record { low = lt; some = t.some; fits = t.fits; rest = others })

-- ---- a tid that is put

pub record IsNew (base tid : ℕ) (runs : List Run) : Type 0 where
  pub above : base + 1 < tid
  pub fits : tid ≤ 2 ^ 62
  pub apart : are_apart base runs ≡ true
  pub absent : lies tid runs ≡ false

not_in_first : (low high tid : ℕ) (others : Bool) → ((leb low tid && leb tid high) || others) ≡ false → tid ≤ high → tid < low
not_in_first low high tid others e le = grind (arith, nat_tests)

-- where the first run doesn't end below the tid
in_front : (base tid : ℕ) (run : Run) (runs : List Run) → IsNew base tid (run ∷ runs) → tid ≤ run.high → Touches tid tid (run ∷ runs)
in_front base tid run runs n le =
    let a = first_above base run runs n.apart in
    let lt : tid < run.low = not_in_first run.low run.high tid (lies tid runs) n.absent le in
    let up : base + 1 < tid = n.above in
    record {
      some = omega arith;
      fits = n.fits;
      below = tid - 1;
      next = omega arith;
      apart = above_first (tid - 1) run runs (record { low = omega arith; some = a.some; fits = a.fits; rest = a.rest });
    }

-- where it ends right before the tid
at_end : (base tid : ℕ) (run : Run) (runs : List Run) → IsNew base tid (run ∷ runs) → tid ≡ run.high + 1 → Touches run.low tid runs
at_end base tid run runs n e =
    let a = first_above base run runs n.apart in
    let s : run.low ≤ run.high = a.some in
    record { some = omega arith; fits = n.fits; below = run.high; next = omega arith; apart = a.rest }

-- where it ends further below
behind : (base tid : ℕ) (run : Run) (runs : List Run) → IsNew base tid (run ∷ runs) → run.high < tid → (tid ≡ run.high + 1 → ⊥) → IsNew run.high tid runs
behind base tid run runs n lt ne =
    let a = first_above base run runs n.apart in
    record { above = omega arith; fits = n.fits; apart = a.rest; absent = (or_parts _ _ n.absent).1 }

one_tid : (tid u : ℕ) (others : Bool) → ((leb tid u && leb u tid) || others) ≡ (eqb tid u || others)
one_tid tid u others = grind (arith, nat_tests)

longer : (low high tid u : ℕ) (others : Bool) → low ≤ high → tid ≡ high + 1 → ((leb low u && leb u tid) || others) ≡ (eqb tid u || ((leb low u && leb u high) || others))
longer low high tid u others le e = grind (arith, nat_tests)

swapped : (x y z w : Bool) → w ≡ (x || z) → (y || w) ≡ (x || (y || z))
swapped x y z w e = grind arith

pub put_lies : (base tid : ℕ) (runs : List Run) (u : ℕ) → IsNew base tid runs → lies u (put tid runs) ≡ (eqb tid u || lies u runs)
put_lies base tid [] u n = one_tid tid u false
put_lies base tid (run ∷ runs) u n = by (ltb run.high tid) (eqb tid (run.high + 1)) refl refl (λ h. put_lies run.high tid runs u h)
  where
    by : (b e : Bool) → ltb run.high tid ≡ b → eqb tid (run.high + 1) ≡ e → (IsNew run.high tid runs → lies u (put tid runs) ≡ (eqb tid u || lies u runs))
        → lies u (cond b (cond e (join run.low tid runs) (run ∷ put tid runs)) (join tid tid (run ∷ runs))) ≡ (eqb tid u || lies u (run ∷ runs))
    by false e l q others =
        join_lies tid tid (run ∷ runs) u (in_front base tid run runs n (ltb-false _ _ l)) ∙ one_tid tid u (lies u (run ∷ runs))
    by true true l q others =
        let same : tid ≡ run.high + 1 = eqb-true _ _ q in
        join_lies run.low tid runs u (at_end base tid run runs n same) ∙ longer run.low run.high tid u (lies u runs) (first_above base run runs n.apart).some same
    by true false l q others =
        swapped (eqb tid u) (leb run.low u && leb u run.high) (lies u runs) (lies u (put tid runs)) (others (behind base tid run runs n (ltb-true _ _ l) (eqb-false _ _ q)))

pub put_apart : (base tid : ℕ) (runs : List Run) → IsNew base tid runs → are_apart base (put tid runs) ≡ true
put_apart base tid [] n = above_first base (record { low = tid; high = tid }) [] (record { low = n.above; some = omega arith; fits = n.fits; rest = refl })
put_apart base tid (run ∷ runs) n = by (ltb run.high tid) (eqb tid (run.high + 1)) refl refl (λ h. put_apart run.high tid runs h)
  where
    by : (b e : Bool) → ltb run.high tid ≡ b → eqb tid (run.high + 1) ≡ e → (IsNew run.high tid runs → are_apart run.high (put tid runs) ≡ true)
        → are_apart base (cond b (cond e (join run.low tid runs) (run ∷ put tid runs)) (join tid tid (run ∷ runs))) ≡ true
    by false e l q others = join_apart base tid tid (run ∷ runs) n.above (in_front base tid run runs n (ltb-false _ _ l))
    by true true l q others =
        join_apart base run.low tid runs (first_above base run runs n.apart).low (at_end base tid run runs n (eqb-true _ _ q))
    by true false l q others =
        let a = first_above base run runs n.apart in
        above_first base run (put tid runs) (record { low = a.low; some = a.some; fits = a.fits; rest = others (behind base tid run runs n (ltb-true _ _ l) (eqb-false _ _ q)) })

-- ---- a base that is raised

raised_first : (base tid low high u : ℕ) (others : Bool) → tid ≡ base + 1 → low ≡ tid + 1 → low ≤ high → (leb u high || others) ≡ (eqb tid u || (leb u base || ((leb low u && leb u high) || others)))
raised_first base tid low high u others a b c = grind (arith, nat_tests)

raised_alone : (base tid u : ℕ) (others : Bool) → tid ≡ base + 1 → (leb u tid || others) ≡ (eqb tid u || (leb u base || others))
raised_alone base tid u others a = grind (arith, nat_tests)

pub raised_has : (base tid : ℕ) (runs : List Run) (u : ℕ) → tid ≡ base + 1 → are_apart base runs ≡ true → has (raised tid runs) u ≡ (eqb tid u || (leb u base || lies u runs))
raised_has base tid [] u e h = raised_alone base tid u false e
raised_has base tid (run ∷ runs) u e h = by (eqb run.low (tid + 1)) refl
  where
    by : (b : Bool) → eqb run.low (tid + 1) ≡ b → has (cond b (record { base = run.high; runs = runs }) (record { base = tid; runs = run ∷ runs })) u ≡ (eqb tid u || (leb u base || lies u (run ∷ runs)))
    by true q = raised_first base tid run.low run.high u (lies u runs) e (eqb-true _ _ q) (first_above base run runs h).some
    by false q = raised_alone base tid u (lies u (run ∷ runs)) e

-- what the first run, or that there is none right after the tid, says of it
pub raised_to : (tid : ℕ) (runs : List Run) (run : Run) → run_after tid 0 runs ≡ Some run → ◌≡◌ {A = TidSet} (raised tid runs) (record { base = run.high; runs = drop 1 runs })
raised_to tid [] run e = absurd cc
raised_to tid (first ∷ runs) run e = by (eqb first.low (tid + 1)) e
  where
    by : (b : Bool) → cond b (Some first) None ≡ Some run → ◌≡◌ {A = TidSet} (cond b (record { base = first.high; runs = runs }) (record { base = tid; runs = first ∷ runs })) (record { base = run.high; runs = runs })
    by true q = let same : first ≡ run = cc in ap (λ (r : Run). let x : TidSet = record { base = r.high; runs = runs } in x) same
    by false q = absurd cc

pub raised_alone_to : (tid : ℕ) (runs : List Run) → run_after tid 0 runs ≡ None → ◌≡◌ {A = TidSet} (raised tid runs) (record { base = tid; runs = runs })
raised_alone_to tid [] e = refl
raised_alone_to tid (first ∷ runs) e = by (eqb first.low (tid + 1)) e
  where
    by : (b : Bool) → cond b (Some first) None ≡ None → ◌≡◌ {A = TidSet} (cond b (record { base = first.high; runs = runs }) (record { base = tid; runs = first ∷ runs })) (record { base = tid; runs = first ∷ runs })
    by true q = absurd cc
    by false q = refl

pub raised_canonical : (base tid : ℕ) (runs : List Run) → tid ≡ base + 1 → tid ≤ 2 ^ 62 → are_apart base runs ≡ true → IsCanonical (raised tid runs)
raised_canonical base tid [] e fits h = record { base_fits = fits; apart = refl }
raised_canonical base tid (run ∷ runs) e fits h = by (eqb run.low (tid + 1)) refl
  where
    by : (b : Bool) → eqb run.low (tid + 1) ≡ b → IsCanonical (cond b (record { base = run.high; runs = runs }) (record { base = tid; runs = run ∷ runs }))
    by true q = let a = first_above base run runs h in record { base_fits = a.fits; apart = a.rest }
    by false q =
        let a = first_above base run runs h in
        let l : base + 1 < run.low = a.low in
        let not_next : run.low ≡ tid + 1 → ⊥ = eqb-false _ _ q in
        record { base_fits = fits; apart = above_first tid run runs (record { low = omega arith; some = a.some; fits = a.fits; rest = a.rest }) }

-- ---- both

above_base : (tid base : ℕ) (others : Bool) → (leb tid base || others) ≡ false → eqb tid (base + 1) ≡ false → base + 1 < tid
above_base tid base others h q = grind (arith, nat_tests)

there : (t u : ℕ) (set : TidSet) → has set t ≡ true → has set u ≡ (eqb t u || has set u)
there t u set h = by (eqb t u) refl
  where
    by : (b : Bool) → eqb t u ≡ b → has set u ≡ (b || has set u)
    by true e = subst (λ (x : ℕ). has set x ≡ true) (eqb-true t u e) h
    by false e = refl

pub is_new : (set : TidSet) (tid : ℕ) → IsCanonical set → tid ≤ 2 ^ 62 → has set tid ≡ false → eqb tid (set.base + 1) ≡ false → IsNew set.base tid set.runs
is_new set tid c fits h q =
    record { above = above_base tid set.base (lies tid set.runs) h q; fits = fits; apart = c.apart; absent = (or_parts _ _ h).1 }

pub inserted_has : (set : TidSet) (tid u : ℕ) → IsCanonical set → tid ≤ 2 ^ 62 → has (inserted set tid) u ≡ (eqb tid u || has set u)
inserted_has set tid u c fits = by (has set tid) (eqb tid (set.base + 1)) refl refl
  where
    by : (b e : Bool) → has set tid ≡ b → eqb tid (set.base + 1) ≡ e
        → has (cond b set (cond e (raised tid set.runs) (record { base = set.base; runs = put tid set.runs }))) u ≡ (eqb tid u || has set u)
    by true e h q = there tid u set h
    by false true h q = raised_has set.base tid set.runs u (eqb-true _ _ q) c.apart
    by false false h q =
        swapped (eqb tid u) (leb u set.base) (lies u set.runs) (lies u (put tid set.runs)) (put_lies set.base tid set.runs u (is_new set tid c fits h q))

pub inserted_canonical : (set : TidSet) (tid : ℕ) → IsCanonical set → tid ≤ 2 ^ 62 → IsCanonical (inserted set tid)
inserted_canonical set tid c fits = by (has set tid) (eqb tid (set.base + 1)) refl refl
  where
    by : (b e : Bool) → has set tid ≡ b → eqb tid (set.base + 1) ≡ e
        → IsCanonical (cond b set (cond e (raised tid set.runs) (record { base = set.base; runs = put tid set.runs })))
    by true e h q = c
    by false true h q = raised_canonical set.base tid set.runs (eqb-true _ _ q) fits c.apart
    by false false h q = record { base_fits = c.base_fits; apart = put_apart set.base tid set.runs (is_new set tid c fits h q) }

-- ---- at most one run more

join_length : (low high : ℕ) (runs : List Run) → length (join low high runs) ≤ length runs + 1
join_length low high [] = omega arith
join_length low high (run ∷ runs) = by (eqb run.low (high + 1))
  where
    by : (b : Bool) → length (cond b (record { low = low; high = run.high } ∷ runs) (record { low = low; high = high } ∷ run ∷ runs)) ≤ length (run ∷ runs) + 1
    by true = omega arith
    by false = omega arith

put_length : (tid : ℕ) (runs : List Run) → length (put tid runs) ≤ length runs + 1
put_length tid [] = omega arith
put_length tid (run ∷ runs) = by (ltb run.high tid) (eqb tid (run.high + 1)) (put_length tid runs)
  where
    by : (b e : Bool) → length (put tid runs) ≤ length runs + 1 → length (cond b (cond e (join run.low tid runs) (run ∷ put tid runs)) (join tid tid (run ∷ runs))) ≤ length (run ∷ runs) + 1
    by false e h = join_length tid tid (run ∷ runs)
    by true true h = let l = join_length run.low tid runs in omega arith
    by true false h = omega arith

raised_length : (tid : ℕ) (runs : List Run) → length (raised tid runs).runs ≤ length runs + 1
raised_length tid [] = omega arith
raised_length tid (run ∷ runs) = by (eqb run.low (tid + 1))
  where
    by : (b : Bool) → length (cond {A = TidSet} b (record { base = run.high; runs = runs }) (record { base = tid; runs = run ∷ runs })).runs ≤ length (run ∷ runs) + 1
    by true = omega arith
    by false = omega arith

pub inserted_runs : (set : TidSet) (tid : ℕ) → length (inserted set tid).runs ≤ length set.runs + 1
inserted_runs set tid = by (has set tid) (eqb tid (set.base + 1))
  where
    by : (b e : Bool) → length (cond {A = TidSet} b set (cond e (raised tid set.runs) (record { base = set.base; runs = put tid set.runs }))).runs ≤ length set.runs + 1
    by true e = omega arith
    by false true = raised_length tid set.runs
    by false false = put_length tid set.runs
