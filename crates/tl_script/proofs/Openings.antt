-- The opening rows of a script that is read have keys of their own.
use Rattle.std.proofs.Common.{◌≡◌, ◌≢◌, suc, false, List, [], ◌∷◌, ◌++◌, Less, Equal, Greater, length, refl, sym, ap, subst, ◌∙◌}
use Rattle.std.specs.Prelude.{ℤ}
use Rattle.std.specs.FinMap.{nat_cmp-IsAntisymmetric, slice_cmp-IsAntisymmetric}
use Rattle.std.specs.Int.{w64}
use Rattle.std.specs.Int.RustNames.{FitsSigned}
use Rattle.std.specs.List.{AllByRecursion}
use Rattle.std.specs.Ordering.{int_eq, match_ordering}
use Rattle.std.proofs.lemmas.Bool.{both_ways, or_parts}
use Rattle.std.proofs.lemmas.Cmp.{int_eq_equiv}
use Rattle.tl_values.specs.declared.value.Value.{Value}
use Rattle.tl_values.specs.declared.value.Value.TheVariants as value
use Rattle.tl_values.specs.Key.{key_bytes}
use Rattle.tl_values.proofs.KeyOrder.{keys_apart}
use Rattle.tl_schema.specs.declared.catalog.OpeningRow.{OpeningRow}
use Rattle.tl_write.specs.declared.write.Write.{Write}
use Rattle.tl_write.specs.Own.{key_cmp, put_write}
use Rattle.tl_isolation.specs.Tables.{opening_writes}
use Rattle.tl_script.specs.Build.{opening_row}
use Rattle.tl_script.specs.Parts.{has_key, is_of_key}
use Rattle.tl_script.specs.Statement.{Names}
use Rattle.tl_script.proofs.Bound.{AreOpening, IsOpening, catalog_with, put_all, write_of}

abbrev Apart : Names → OpeningRow → OpeningRow → Type 0
Apart names o p = (write_of names o).key ≢ (write_of names p).key

-- no two of these rows have one record key
abbrev pub KeysOnce : Names → List OpeningRow → Type 0
KeysOnce names [] = Unit {0}
KeysOnce names (o ∷ os) = AllByRecursion (Apart names o) os × KeysOnce names os

-- ---- one more

numbers_apart : (k key : ℤ) → FitsSigned w64 k → FitsSigned w64 key → int_eq k key ≡ false → key_bytes (value.Int k ∷ []) ≢ key_bytes (value.Int key ∷ [])
numbers_apart k key f g h = λ e.
    let same : ◌≡◌ {A = List Value} (value.Int k ∷ []) (value.Int key ∷ []) = keys_apart (value.Int k ∷ []) (value.Int key ∷ []) (f, tt) (g, tt) e in
    let one : k ≡ key = cc in
    both_ways (int_eq k key) h (ap (λ (n : ℤ). int_eq n key) one ∙ int_eq_equiv.refl key)

rows_apart : (names : Names) (o : OpeningRow) (key other : ℤ) → IsOpening o → FitsSigned w64 key → is_of_key key o.row ≡ false → Apart names o (opening_row key other)
rows_apart names o key other h f new =
    subst (λ (o : OpeningRow). is_of_key key o.row ≡ false → Apart names o (opening_row key other)) (sym h.is)
    (λ apart e. numbers_apart h.key key h.key_fits f apart (cc)) new

all_apart : (names : Names) (os : List OpeningRow) (key other : ℤ) → AreOpening os → FitsSigned w64 key → has_key key os ≡ false
    → AllByRecursion (λ o. Apart names o (opening_row key other)) os
all_apart names [] key other h f new = tt
all_apart names (o ∷ os) key other h f new =
    let parts = or_parts (is_of_key key o.row) (has_key key os) new in (rows_apart names o key other h.0 f parts.0, all_apart names os key other h.1 f parts.1)

then_apart : (names : Names) (o : OpeningRow) (os : List OpeningRow) (new : OpeningRow) → AllByRecursion (Apart names o) os → Apart names o new
    → AllByRecursion (Apart names o) (os ++ new ∷ [])
then_apart names o [] new h n = (n, tt)
then_apart names o (p ∷ os) new h n = (h.0, then_apart names o os new h.1 n)

push_apart : (names : Names) (os : List OpeningRow) (new : OpeningRow) → KeysOnce names os → AllByRecursion (λ o. Apart names o new) os → KeysOnce names (os ++ new ∷ [])
push_apart names [] new h n = (tt, tt)
push_apart names (o ∷ os) new h n = (then_apart names o os new h.0 n.0, push_apart names os new h.1 n.1)

-- a row of a key that isn't there
pub once_more : (names : Names) (os : List OpeningRow) (key other : ℤ) → AreOpening os → FitsSigned w64 key → has_key key os ≡ false → KeysOnce names os
    → KeysOnce names (os ++ opening_row key other ∷ [])
once_more names os key other h f new once = push_apart names os (opening_row key other) once (all_apart names os key other h f new)

-- ---- so many writes

put_length : (w : Write) (ws : List Write) → AllByRecursion (λ (x : Write). w.key ≢ x.key) ws → length (put_write w ws) ≡ suc (length ws)
put_length w [] h = refl
put_length w (x ∷ xs) h =
    elim (key_cmp w.key x.key) as (λ c. key_cmp w.key x.key ≡ c → length (match_ordering c (w ∷ x ∷ xs) (w ∷ xs) (x ∷ put_write w xs)) ≡ suc (suc (length xs))) [
      | Less ↦ λ e. refl
      | Equal ↦ λ e. absurd (h.0 (slice_cmp-IsAntisymmetric nat_cmp-IsAntisymmetric w.key x.key e))
      | Greater ↦ λ e. ap suc (put_length w xs h.1)
    ] refl

writes_apart : (names : Names) (o : OpeningRow) (os : List OpeningRow) → AllByRecursion (Apart names o) os
    → AllByRecursion (λ (x : Write). (write_of names o).key ≢ x.key) (opening_writes (catalog_with names) os)
writes_apart names o [] h = tt
writes_apart names o (p ∷ os) h =
    put_all (λ (x : Write). (write_of names o).key ≢ x.key) (write_of names p) (opening_writes (catalog_with names) os) h.0 (writes_apart names o os h.1)

-- each row is a write
pub distinct_rows : (names : Names) (os : List OpeningRow) → KeysOnce names os → length (opening_writes (catalog_with names) os) ≡ length os
distinct_rows names [] h = refl
distinct_rows names (o ∷ os) h =
    put_length (write_of names o) (opening_writes (catalog_with names) os) (writes_apart names o os h.0) ∙ ap suc (distinct_rows names os h.1)
