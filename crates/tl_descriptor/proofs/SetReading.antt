-- A set that is read is the set that was spelled, and what was spelled is read again.
use Rattle.std.proofs.Common.{◌≡◌, ℕ, ◌^◌, ◌<◌, ◌≤◌, true, leb, List, [], ◌∷◌, ◌++◌, length, Some, None, refl, sym, ap, subst, ◌∙◌, append_assoc, arith}
use Rattle.std.specs.Prelude.{◌&&◌}
use Rattle.std.specs.Int.{w32, w64, to_be_bytes}
use Rattle.std.specs.List.{All, AllByRecursion, flat_map}
use Rattle.std.proofs.lemmas.Bool.{and_from, and_parts, le-leb, leb-true}
use Rattle.std.proofs.lemmas.List.{append-nil}
use Rattle.std.proofs.lemmas.List.Elements.{All-from_recursion}
use Rattle.tl_codec.specs.declared.fault.ReadFault.{ReadFault}
use Rattle.tl_codec.specs.declared.fault.ReadFault.TheVariants as fault
use Rattle.tl_codec.specs.Reading.{◌>>=◌, Fails, all_read, read_many, read_number}
use Rattle.tl_codec.specs.Taken.{IsBytes}
use Rattle.tl_codec.specs.Fields.{Takes-then, all_of, bind_some, number_again, number_takes, passed, wide32, wide64}
use Rattle.tl_codec.proofs.Many.{many_again, many_taken}
use Rattle.tl_descriptor.specs.declared.run.Run.{Run}
use Rattle.tl_descriptor.specs.Runs.{are_apart}
use Rattle.tl_descriptor.specs.Tids.{IsCanonical, TidSet}
use Rattle.tl_descriptor.specs.Reading.{FitsRun, FitsSet, checked, read_run, read_set, run_spelling, spelling}
use Rattle.tl_descriptor.specs.RunReading.{run_again, run_taken}
use Rattle.tl_descriptor.proofs.Apart.{first_above}

runs_fit : (below : ℕ) (runs : List Run) → are_apart below runs ≡ true → AllByRecursion FitsRun runs
runs_fit below [] h = tt
runs_fit below (run ∷ runs) h =
    let a = first_above below run runs h in
    let s : run.low ≤ run.high = a.some in
    let f : run.high ≤ 2 ^ 62 = a.fits in
    (record { low = omega arith; high = omega arith }, runs_fit run.high runs a.rest)

pub all_fit : (below : ℕ) (runs : List Run) → are_apart below runs ≡ true → All FitsRun runs
all_fit below runs h = All-from_recursion FitsRun runs (runs_fit below runs h)

checked_is : (base : ℕ) (runs : List Run) (set : TidSet) → checked base runs ≡ Some set → ((let x : TidSet = record { base = base; runs = runs } in x) ≡ set) × IsCanonical (record { base = base; runs = runs })
checked_is base runs set e =
    let h = passed (leb base (2 ^ 62) && are_apart base runs) (record { base = base; runs = runs }) set e in
    let a = and_parts (leb base (2 ^ 62)) (are_apart base runs) h.0 in
    (h.1, record { base_fits = leb-true _ _ a.0; apart = a.1 })

abbrev IsRead : List ℕ → TidSet → Type 0
IsRead bytes set = (bytes ≡ spelling set) × FitsSet set

-- from the parts of what was read
read_from : (bytes : List ℕ) (base count : ℕ) (front runs : List Run) → bytes ≡ to_be_bytes w64 base ++ to_be_bytes w32 count ++ flat_map run_spelling front → length front ≡ count → count < 2 ^ 32 → front ≡ runs
    → (set : TidSet) → (let x : TidSet = record { base = base; runs = runs } in x) ≡ set → IsCanonical (record { base = base; runs = runs }) → IsRead bytes set
read_from bytes base count front runs parts len few same set is canonical =
    let size : length runs ≡ count = ap (λ (rs : List Run). length rs) (sym same) ∙ len in
    let spelled : bytes ≡ spelling (record { base = base; runs = runs }) = rw (size, ← same) parts in
    subst (IsRead bytes) is (spelled, record { canonical = canonical; count = rw size few })

pub set_taken : (bytes : List ℕ) (set : TidSet) → IsBytes bytes → read_set bytes ≡ Some set → IsRead bytes set
unfolding read_set
set_taken bytes set fits e =
    let a = bind_some (read_number w64 bytes) (λ base. read_number w32 base.1 >>= λ count. read_many read_run count.0 count.1 >>= λ runs. all_read runs >>= λ whole. checked base.0 whole) set e in
    let b = bind_some (read_number w32 a.0.1) (λ count. read_many read_run count.0 count.1 >>= λ runs. all_read runs >>= λ whole. checked a.0.0 whole) set a.2 in
    let d = bind_some (read_many read_run b.0.0 b.0.1) (λ runs. all_read runs >>= λ whole. checked a.0.0 whole) set b.2 in
    let w = bind_some (all_read d.0) (λ whole. checked a.0.0 whole) set d.2 in
    let c = checked_is a.0.0 w.0 set w.2 in
    let base = number_takes w64 (2 ^ 64) wide64 bytes a.0.0 a.0.1 fits a.1 in
    let count = number_takes w32 (2 ^ 32) wide32 a.0.1 b.0.0 b.0.1 base.0.rest_fits b.1 in
    let runs = many_taken run_spelling FitsRun read_run run_taken b.0.0 b.0.1 d.0 count.0.rest_fits d.1 in
    let all = all_of d.0 w.0 w.1 in
    let front = Takes-then bytes (to_be_bytes w64 a.0.0) a.0.1 (to_be_bytes w32 b.0.0) b.0.1 base.0 count.0 in
    let both = Takes-then bytes (to_be_bytes w64 a.0.0 ++ to_be_bytes w32 b.0.0) b.0.1 (flat_map run_spelling d.0.0) d.0.1 front runs.0 in
    let whole : bytes ≡ to_be_bytes w64 a.0.0 ++ to_be_bytes w32 b.0.0 ++ flat_map run_spelling d.0.0 = both.parts ∙ ap (λ (r : List ℕ). to_be_bytes w64 a.0.0 ++ to_be_bytes w32 b.0.0 ++ flat_map run_spelling d.0.0 ++ r) all.1 ∙ append-nil _ in
    read_from bytes a.0.0 b.0.0 d.0.0 w.0 whole runs.1 count.1 all.0 set c.0 c.1

pub set_again : (set : TidSet) → FitsSet set → read_set (spelling set) ≡ Some set
unfolding read_set
set_again set fits =
    let regrouped : spelling set ≡ to_be_bytes w64 set.base ++ (to_be_bytes w32 (length set.runs) ++ flat_map run_spelling set.runs) = append_assoc (to_be_bytes w64 set.base) (to_be_bytes w32 (length set.runs)) (flat_map run_spelling set.runs) in
    let fits_base : set.base < 2 ^ 64 = let h : set.base ≤ 2 ^ 62 = fits.canonical.base_fits in omega arith in
    let base = number_again w64 (2 ^ 64) wide64 set.base (to_be_bytes w32 (length set.runs) ++ flat_map run_spelling set.runs) fits_base in
    let count = number_again w32 (2 ^ 32) wide32 (length set.runs) (flat_map run_spelling set.runs) fits.count in
    let runs : read_many read_run (length set.runs) (flat_map run_spelling set.runs) ≡ Some (set.runs, []) =
    ap (read_many read_run (length set.runs)) (sym (append-nil (flat_map run_spelling set.runs))) ∙ many_again run_spelling FitsRun read_run run_again set.runs [] (runs_fit set.base set.runs fits.canonical.apart) in
    let good : (leb set.base (2 ^ 62) && are_apart set.base set.runs) ≡ true = and_from _ _ (le-leb _ _ fits.canonical.base_fits) fits.canonical.apart in
    ap read_set regrouped ∙ rw (base, count, runs, good) refl

pub is_bad : (bytes : List ℕ) (e : ReadFault) → e ≡ fault.Bad → Fails e (read_set bytes) → (set : TidSet) → FitsSet set → bytes ≡ spelling set → ⊥
is_bad bytes f bad fails set fits e = let none : read_set bytes ≡ None = subst (λ (x : ReadFault). Fails x (read_set bytes)) bad fails in let some : read_set bytes ≡ Some set = ap read_set e ∙ set_again set fits in cc
