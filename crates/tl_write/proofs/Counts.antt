-- How many rows a change counts.
use Rattle.std.proofs.Common.{◌≡◌, ℕ, ◌+◌, ◌-◌, ◌^◌, ◌<◌, Bool, List, [], ◌∷◌, Option, Some, None, Result, Ok, Err, length, refl, sym, ap, ◌∙◌, zero-add, arith}
use Rattle.std.specs.FinMap as finmap
use Rattle.std.specs.Prelude.{min}
use Rattle.tl_schema.specs.declared.catalog.Table.{Table}
use Rattle.tl_write.specs.declared.fault.ChangeFault.{ChangeFault}
use Rattle.tl_write.specs.declared.write.Effect.{Effect}
use Rattle.tl_write.specs.declared.write.Write.{Write}
use Rattle.tl_write.specs.Change.{Deed, Add, Replace, Remove, Overflow, after, deeds, judged, nothing, offence, on_from, unless}
use Rattle.tl_write.specs.Law.{ChangeCountsRows}

abbrev count_or : ℕ → Result Effect ChangeFault → ℕ
count_or d (Ok done) = done.count
count_or d (Err f) = d

passed : (o : Option ChangeFault) (q e : Effect) (next : Effect → Result Effect ChangeFault) → on_from (unless o q) next ≡ Ok e → next q ≡ Ok e
passed None q e next h = h
passed (Some f) q e next h = absurd cc

one_on : (c d n m : ℕ) → c + (1 + n) < 2 ^ 32 → d ≡ min (c + 1) (2 ^ 32 - 1) → (d + n < 2 ^ 32 → m ≡ d + n) → m ≡ c + (1 + n)
one_on c d n m l e h = let d_is : d ≡ c + 1 = omega arith in let m_is : m ≡ d + n = h (omega arith) in omega arith

one_length : {A : Type 0} (x : A) (xs : List A) → length (x ∷ xs) ≡ 1 + length xs
one_length x xs = omega arith

counts : (t : Table) (there : List ℕ → Bool) (own : List Write) (ds : List Deed) (p e : Effect) → p.count + length ds < 2 ^ 32 → judged t there own ds p ≡ Ok e → e.count ≡ p.count + length ds
counts t there own [] p e l h = let same : p.count ≡ e.count = ap (count_or 0) h in omega arith
counts t there own (Add k row ∷ ds) p e l h =
    let q = after (Add k row) p in
    one_on p.count q.count (length ds) e.count (omega arith) refl
    (λ m. counts t there own ds q e m (passed (offence t there own p.writes (Add k row)) q e (λ (more : Effect). judged t there own ds more) h)) ∙ ap (λ (n : ℕ). p.count + n) (sym (one_length (Add k row) ds))
counts t there own (Replace k row ∷ ds) p e l h =
    let q = after (Replace k row) p in
    one_on p.count q.count (length ds) e.count (omega arith) refl
    (λ m. counts t there own ds q e m (passed (offence t there own p.writes (Replace k row)) q e (λ (more : Effect). judged t there own ds more) h)) ∙ ap (λ (n : ℕ). p.count + n) (sym (one_length (Replace k row) ds))
counts t there own (Remove k ∷ ds) p e l h =
    let q = after (Remove k) p in
    one_on p.count q.count (length ds) e.count (omega arith) refl
    (λ m. counts t there own ds q e m (passed (offence t there own p.writes (Remove k)) q e (λ (more : Effect). judged t there own ds more) h)) ∙ ap (λ (n : ℕ). p.count + n) (sym (one_length (Remove k) ds))
counts t there own (Overflow ∷ ds) p e l h = absurd cc

pub change_counts : ChangeCountsRows
change_counts edit table tables own effect l h =
    counts table (finmap.contains_key tables) own (deeds edit table tables) nothing effect (omega arith) h ∙ zero-add (length (deeds edit table tables))
