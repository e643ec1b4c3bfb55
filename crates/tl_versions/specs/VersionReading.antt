-- A version that is read is the version that was spelled, and what was spelled is read again.
use Rattle.std.proofs.Common.{◌≡◌, ℕ, zero, suc, ◌^◌, ◌<◌, List, [], ◌∷◌, ◌++◌, length, take, Option, Some, None, refl, sym, ap, subst, ◌∙◌, append_assoc}
use Rattle.std.proofs.lemmas.List.{take_at}
use Rattle.std.specs.Int.{w16, w64, to_be_bytes}
use Rattle.tl_codec.specs.Reading.{◌>>=◌, read_number, read_span}
use Rattle.tl_codec.specs.Taken.{IsBytes, Takes}
use Rattle.tl_codec.specs.Fields.{IsBytes-rest, IsBytes-take, Takes-then, behind, bind_some, number_again, number_takes, some_is, span_again, span_takes, wide16, wide64}
use Rattle.tl_values.specs.declared.value.Value.{Value}
use Rattle.tl_schema.specs.Reading.{read_row}
use Rattle.tl_schema.specs.Row.{FitsRow, row_spelling}
use Rattle.tl_schema.proofs.Rows.{row_again, row_takes}
use Rattle.tl_versions.specs.declared.version.Version.{Version}
use Rattle.tl_versions.specs.Cell.{AreChanges, FitsVersion, change_spelling, version_spelling}
use Rattle.tl_versions.specs.Reading.{read_change, read_present, read_version}

-- the front of bytes are bytes
front_fits : (bytes front rest : List ℕ) → IsBytes bytes → Takes bytes front rest → IsBytes front
front_fits bytes front rest fits taken =
    subst (λ (t : List ℕ). IsBytes t) (ap (take (length front)) taken.parts ∙ take_at front rest (length front) refl) (IsBytes-take (length front) bytes fits)

abbrev IsRead : List ℕ → Option (List Value) × List ℕ → Type 0
IsRead bytes x = Takes bytes (change_spelling x.0) x.1 × AreChanges x.0

present_taken : (bytes : List ℕ) (x : Option (List Value) × List ℕ) → IsBytes bytes → read_present bytes ≡ Some x → IsRead (1 ∷ bytes) x
unfolding read_present
present_taken bytes x fits e =
    let a = bind_some (read_number w16 bytes) (λ count. read_span count.0 count.1 >>= λ text. read_row text.0 >>= λ row. Some (Some row, text.1)) x e in
    let b = bind_some (read_span a.0.0 a.0.1) (λ text. read_row text.0 >>= λ row. Some (Some row, text.1)) x a.2 in
    let d = bind_some (read_row b.0.0) (λ row. Some (Some row, b.0.1)) x b.2 in
    let count = number_takes w16 (2 ^ 16) wide16 bytes a.0.0 a.0.1 fits a.1 in
    let text = span_takes a.0.0 a.0.1 b.0.0 b.0.1 count.0.rest_fits b.1 in
    let row = row_takes b.0.0 d.0 (front_fits a.0.1 b.0.0 b.0.1 count.0.rest_fits text.0) d.1 in
    let both = Takes-then bytes (to_be_bytes w16 a.0.0) a.0.1 b.0.0 b.0.1 count.0 text.0 in
    present_from bytes a.0.0 b.0.0 b.0.1 d.0 both text.1 count.1 row x (some_is (Some d.0, b.0.1) x d.2)
  where
    present_from : (bytes : List ℕ) (count : ℕ) (text rest : List ℕ) (row : List Value) → Takes bytes (to_be_bytes w16 count ++ text) rest → length text ≡ count → count < 2 ^ 16 → (text ≡ row_spelling row) × FitsRow row
        → (x : Option (List Value) × List ℕ) → ◌≡◌ {A = Option (List Value) × List ℕ} (Some row, rest) x → IsRead (1 ∷ bytes) x
    present_from bytes count text rest row taken len few spelled x is =
        let size : length (row_spelling row) ≡ count = ap (λ (t : List ℕ). length t) (sym spelled.0) ∙ len in
        let exact : Takes bytes (to_be_bytes w16 (length (row_spelling row)) ++ row_spelling row) rest = rw (size, ← spelled.0) taken in
        let whole = behind 1 bytes (to_be_bytes w16 (length (row_spelling row)) ++ row_spelling row) rest exact in
        subst (IsRead (1 ∷ bytes)) is (whole, record { fits = spelled.1; short = rw size few })

change_taken : (bytes : List ℕ) (x : Option (List Value) × List ℕ) → IsBytes bytes → read_change bytes ≡ Some x → IsRead bytes x
unfolding read_change
change_taken [] x fits e = absurd cc
change_taken (zero ∷ bytes) x fits e = subst (IsRead (0 ∷ bytes)) (some_is (None, bytes) x e) (record { parts = refl; rest_fits = IsBytes-rest 0 bytes fits }, tt)
change_taken (suc zero ∷ bytes) x fits e = present_taken bytes x (IsBytes-rest 1 bytes fits) e
change_taken (suc (suc byte) ∷ bytes) x fits e = absurd cc

change_again : (change : Option (List Value)) (rest : List ℕ) → AreChanges change → read_change (change_spelling change ++ rest) ≡ Some (change, rest)
unfolding read_change read_present
change_again None rest fits = refl
change_again (Some row) rest fits =
    let regrouped : (to_be_bytes w16 (length (row_spelling row)) ++ row_spelling row) ++ rest ≡ to_be_bytes w16 (length (row_spelling row)) ++ (row_spelling row ++ rest) = append_assoc (to_be_bytes w16 (length (row_spelling row))) (row_spelling row) rest in
    let count = number_again w16 (2 ^ 16) wide16 (length (row_spelling row)) (row_spelling row ++ rest) fits.short in
    let text = span_again (row_spelling row) rest in
    ap read_present regrouped ∙ rw (count, text, row_again row fits.fits) refl

pub version_taken : (bytes : List ℕ) (version : Version) (rest : List ℕ) → IsBytes bytes → read_version bytes ≡ Some (version, rest) → Takes bytes (version_spelling version) rest × FitsVersion version
unfolding read_version
version_taken bytes version rest fits e =
    let a = bind_some (read_number w64 bytes) (λ tid. read_change tid.1 >>= λ change. Some (record { tid = tid.0; row = change.0 }, change.1)) (version, rest) e in
    let b = bind_some (read_change a.0.1) (λ change. Some (record { tid = a.0.0; row = change.0 }, change.1)) (version, rest) a.2 in
    let tid = number_takes w64 (2 ^ 64) wide64 bytes a.0.0 a.0.1 fits a.1 in
    let change = change_taken a.0.1 b.0 tid.0.rest_fits b.1 in
    let both = Takes-then bytes (to_be_bytes w64 a.0.0) a.0.1 (change_spelling b.0.0) b.0.1 tid.0 change.0 in
    subst (λ (x : Version × List ℕ). Takes bytes (version_spelling x.0) x.1 × FitsVersion x.0) (some_is (record { tid = a.0.0; row = b.0.0 }, b.0.1) (version, rest) b.2)
    (both, record { tid = tid.1; change = change.1 })

pub version_again : (version : Version) (rest : List ℕ) → FitsVersion version → read_version (version_spelling version ++ rest) ≡ Some (version, rest)
unfolding read_version
version_again version rest fits =
    let regrouped : version_spelling version ++ rest ≡ to_be_bytes w64 version.tid ++ (change_spelling version.row ++ rest) = append_assoc (to_be_bytes w64 version.tid) (change_spelling version.row) rest in
    let tid = number_again w64 (2 ^ 64) wide64 version.tid (change_spelling version.row ++ rest) fits.tid in
    ap read_version regrouped ∙ rw (tid, change_again version.row rest fits.change) refl
