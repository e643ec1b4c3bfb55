-- A run that is read is the run that was spelled, and what was spelled is read again.
use Rattle.std.proofs.Common.{◌≡◌, ℕ, ◌^◌, List, ◌++◌, Some, refl, subst, ap, ◌∙◌, append_assoc}
use Rattle.std.specs.Int.{w64, to_be_bytes}
use Rattle.tl_codec.specs.Reading.{◌>>=◌, read_number}
use Rattle.tl_codec.specs.Taken.{IsBytes, Takes}
use Rattle.tl_codec.specs.Fields.{Takes-then, bind_some, number_again, number_takes, some_is, wide64}
use Rattle.tl_descriptor.specs.declared.run.Run.{Run}
use Rattle.tl_descriptor.specs.Reading.{FitsRun, read_run, run_spelling}

pub run_taken : (bytes : List ℕ) (run : Run) (rest : List ℕ) → IsBytes bytes → read_run bytes ≡ Some (run, rest) → Takes bytes (run_spelling run) rest × FitsRun run
unfolding read_run
run_taken bytes run rest fits e =
    let a = bind_some (read_number w64 bytes) (λ low. read_number w64 low.1 >>= λ high. Some (record { low = low.0; high = high.0 }, high.1)) (run, rest) e in
    let b = bind_some (read_number w64 a.0.1) (λ high. Some (record { low = a.0.0; high = high.0 }, high.1)) (run, rest) a.2 in
    let low = number_takes w64 (2 ^ 64) wide64 bytes a.0.0 a.0.1 fits a.1 in
    let high = number_takes w64 (2 ^ 64) wide64 a.0.1 b.0.0 b.0.1 low.0.rest_fits b.1 in
    let both = Takes-then bytes (to_be_bytes w64 a.0.0) a.0.1 (to_be_bytes w64 b.0.0) b.0.1 low.0 high.0 in
    subst (λ (x : Run × List ℕ). Takes bytes (run_spelling x.0) x.1 × FitsRun x.0) (some_is (record { low = a.0.0; high = b.0.0 }, b.0.1) (run, rest) b.2)
    (both, record { low = low.1; high = high.1 })

pub run_again : (run : Run) (rest : List ℕ) → FitsRun run → read_run (run_spelling run ++ rest) ≡ Some (run, rest)
unfolding read_run
run_again run rest fits =
    let regrouped : run_spelling run ++ rest ≡ to_be_bytes w64 run.low ++ (to_be_bytes w64 run.high ++ rest) = append_assoc (to_be_bytes w64 run.low) (to_be_bytes w64 run.high) rest in
    let first = number_again w64 (2 ^ 64) wide64 run.low (to_be_bytes w64 run.high ++ rest) fits.low in
    let second = number_again w64 (2 ^ 64) wide64 run.high rest fits.high in
    ap read_run regrouped ∙ rw (first, second) refl
