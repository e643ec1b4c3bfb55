-- Words of the command line and a told script without fault, with no fault of reading or writing, are run to the end unless memory
-- runs out.
use Rattle.std.proofs.Common.{◌≡◌, ◌⊎◌, inl, inr, ℕ, ◌≤◌, List, ◌++◌, Option, Some, None, Result, Ok, Err, IsOk, length, refl, ap, ◌∙◌, append-nil, arith}
use Rattle.std.proofs.lemmas.Bool.{false≢true}
use Rattle.std.specs.Option.{IsSomeAnd}
use Rattle.tl_io.specs.Told.{prepend, IsAtEnd}
use Rattle.tl_journal.specs.declared.event.Journal.{Journal}
use Rattle.tl_script.specs.Script.{script_of, Fault}
use Rattle.tl_tell.specs.declared.ended.Reason.{Reason}
use Rattle.tl_tell.specs.declared.ended.Reason.TheVariants as reason
use Rattle.tl_tell.specs.Status.{status_of}
use Rattle.tl_tell.specs.Promise.{Ends, Keeps, IsFine, IsFaulty, IsTooLong, most_bytes}
use Rattle.tl_tell.specs.Words.{words_of}

abbrev Faultless : List ℕ → Type 0
Faultless bytes = (length bytes ≤ most_bytes) × IsOk (script_of bytes)

-- what was read to the end is what was told
told_is : (told bytes : List ℕ) (after : Option (List ℕ)) → Some told ≡ prepend bytes after → IsAtEnd after → told ≡ bytes
told_is told bytes None read end = cc
told_is told bytes (Some rest) read end =
    let all : told ≡ bytes ++ rest = cc in
    all ∙ ap (λ (more : List ℕ). bytes ++ more) end ∙ append-nil bytes

not_both : {A E : Type 0} (answer : Result A E) (fault : E) → IsOk answer → answer ≡ Err fault → ⊥
not_both (Ok x) fault good is = cc
not_both (Err e) fault good is = false≢true good

never_faulty : (before after : Option (List ℕ)) (fault : Fault) → IsSomeAnd before Faultless → IsFaulty before after fault.line fault.kind → ⊥
never_faulty None after fault told faulty = told
never_faulty (Some bytes) after fault told faulty =
    let same : bytes ≡ faulty.0 = told_is bytes faulty.0 after faulty.1.read faulty.1.end in
    not_both (script_of bytes) fault told.1 (ap script_of same ∙ faulty.2)

never_long : (before after : Option (List ℕ)) → IsSomeAnd before Faultless → IsTooLong before after → ⊥
never_long None after told long = told
never_long (Some bytes) after told long = omega (arith, told.0, long.1)

pub fine_ends : (words : List (List ℕ)) (before after : Ends) (why : Reason) (journal : Journal)
    → Keeps words before after why journal → IsFine words before after → (status_of why ≡ 0) ⊎ (status_of why ≡ 5)
fine_ends words before after (reason.Words place) journal keeps fine = absurd (not_both (words_of words) place fine.words_are keeps.0)
fine_ends words before after reason.ReadFault journal keeps fine = absurd (fine.reads keeps.1)
fine_ends words before after reason.TooLong journal keeps fine = absurd (never_long before.left after.left fine.script keeps.1)
fine_ends words before after (reason.Script line kind) journal keeps fine =
    absurd (never_faulty before.left after.left (record { line = line; kind = kind }) fine.script keeps.1)
fine_ends words before after reason.WriteFault journal keeps fine = absurd (fine.writes keeps.2)
fine_ends words before after reason.NoMemory journal keeps fine = inr refl
fine_ends words before after reason.Done journal keeps fine = inl refl
