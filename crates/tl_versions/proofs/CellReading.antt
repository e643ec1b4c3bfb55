-- A cell that is read is the cell that was spelled, and what was spelled is read again.
use Rattle.std.proofs.Common.{◌≡◌, ℕ, zero, suc, ◌^◌, ◌<◌, true, List, [], ◌∷◌, ◌++◌, length, Some, None, refl, sym, ap, subst, ◌∙◌, inl, inr, arith}
use Rattle.std.specs.Int.{w32, to_be_bytes}
use Rattle.std.specs.List.{All, AllByRecursion, flat_map}
use Rattle.std.proofs.lemmas.List.{append-nil}
use Rattle.std.proofs.lemmas.List.Elements.{All-from_recursion, recursion_from_All}
use Rattle.tl_codec.specs.declared.fault.ReadFault.{ReadFault}
use Rattle.tl_codec.specs.declared.fault.ReadFault.TheVariants as fault
use Rattle.tl_codec.specs.Reading.{◌>>=◌, Fails, read_many, read_number}
use Rattle.tl_codec.specs.Taken.{IsBytes, Takes}
use Rattle.tl_codec.specs.Fields.{IsBytes-rest, Takes-then, bind_some, number_again, number_takes, passed, some_is, wide32}
use Rattle.tl_codec.proofs.Many.{many_again, many_taken}
use Rattle.tl_versions.specs.declared.version.Version.{Version}
use Rattle.tl_versions.specs.Cell.{FitsCell, FitsVersion, IsSpelled, spelling, version_spelling}
use Rattle.tl_versions.specs.Reading.{distinct_versions, read_cell, read_version, read_versions}
use Rattle.tl_versions.specs.Versions.{are_distinct}
use Rattle.tl_versions.specs.VersionReading.{version_again, version_taken}

-- the versions that were read have spellings
pub all_fit : (count : ℕ) (bytes : List ℕ) (x : List Version × List ℕ) → IsBytes bytes → read_many read_version count bytes ≡ Some x → All FitsVersion x.0
all_fit count bytes x fits e = All-from_recursion FitsVersion x.0 (many_taken version_spelling FitsVersion read_version version_taken count bytes x fits e).2

distinct_is : (x : List Version × List ℕ) (versions : List Version) → distinct_versions x ≡ Some versions → (x.0 ≡ versions) × (x.1 ≡ []) × (are_distinct versions ≡ true)
distinct_is (front, []) versions e = let h = passed (are_distinct front) front versions e in (h.1, refl, subst (λ (vs : List Version). are_distinct vs ≡ true) h.1 h.0)
distinct_is (front, byte ∷ rest) versions e = absurd cc

abbrev IsRead : List ℕ → List Version → Type 0
IsRead bytes versions = (1 ∷ bytes ≡ spelling versions) × FitsCell versions

cell_from : (bytes : List ℕ) (count : ℕ) (front : List Version) (rest : List ℕ) → Takes bytes (to_be_bytes w32 count ++ flat_map version_spelling front) rest → count < 2 ^ 32 → length front ≡ count → AllByRecursion FitsVersion front
    → (versions : List Version) → (front ≡ versions) × (rest ≡ []) × (are_distinct versions ≡ true) → IsRead bytes versions
cell_from bytes count front rest taken few len fit versions is =
    let text : List ℕ = to_be_bytes w32 count ++ flat_map version_spelling front in
    let whole : bytes ≡ text = taken.parts ∙ ap (λ (r : List ℕ). text ++ r) is.1 ∙ append-nil text in
    let size : length versions ≡ count = ap (λ (vs : List Version). length vs) (sym is.0) ∙ len in
    let exact : bytes ≡ to_be_bytes w32 (length versions) ++ flat_map version_spelling versions = rw (size, ← is.0) whole in
    let all : All FitsVersion versions = subst (λ (vs : List Version). All FitsVersion vs) is.0 (All-from_recursion FitsVersion front fit) in
    (ap (λ (b : List ℕ). 1 ∷ b) exact, record { cell = record { distinct = is.2; fit = all }; count = rw size few })

versions_taken : (bytes : List ℕ) (versions : List Version) → IsBytes bytes → read_versions bytes ≡ Some versions → IsRead bytes versions
unfolding read_versions
versions_taken bytes versions fits e =
    let a = bind_some (read_number w32 bytes) (λ count. read_many read_version count.0 count.1 >>= λ x. distinct_versions x) versions e in
    let b = bind_some (read_many read_version a.0.0 a.0.1) (λ x. distinct_versions x) versions a.2 in
    let count = number_takes w32 (2 ^ 32) wide32 bytes a.0.0 a.0.1 fits a.1 in
    let many = many_taken version_spelling FitsVersion read_version version_taken a.0.0 a.0.1 b.0 count.0.rest_fits b.1 in
    let both = Takes-then bytes (to_be_bytes w32 a.0.0) a.0.1 (flat_map version_spelling b.0.0) b.0.1 count.0 many.0 in
    cell_from bytes a.0.0 b.0.0 b.0.1 both count.1 many.1 many.2 versions (distinct_is b.0 versions b.2)

no_versions : FitsCell []
no_versions = record { cell = record { distinct = refl; fit = All-from_recursion FitsVersion [] tt }; count = omega arith }

pub cell_taken : (bytes : List ℕ) (versions : List Version) → IsBytes bytes → read_cell bytes ≡ Some versions → IsSpelled bytes versions × FitsCell versions
unfolding read_cell
cell_taken [] versions fits e =
    let none : [] ≡ versions = some_is [] versions e in
    (inr (refl, sym none), subst (λ (vs : List Version). FitsCell vs) none no_versions)
cell_taken (zero ∷ bytes) versions fits e = absurd cc
cell_taken (suc zero ∷ bytes) versions fits e = let h = versions_taken bytes versions (IsBytes-rest 1 bytes fits) e in (inl h.0, h.1)
cell_taken (suc (suc byte) ∷ bytes) versions fits e = absurd cc

pub cell_again : (versions : List Version) → FitsCell versions → read_cell (spelling versions) ≡ Some versions
unfolding read_cell read_versions
cell_again versions fits =
    let count = number_again w32 (2 ^ 32) wide32 (length versions) (flat_map version_spelling versions) fits.count in
    let all : read_many read_version (length versions) (flat_map version_spelling versions) ≡ Some (versions, []) =
    ap (read_many read_version (length versions)) (sym (append-nil (flat_map version_spelling versions))) ∙ many_again version_spelling FitsVersion read_version version_again versions [] (recursion_from_All FitsVersion versions fits.cell.fit) in
    rw (count, all, fits.cell.distinct) refl

-- no other bytes are those of a cell
pub is_bad : (bytes : List ℕ) (e : ReadFault) → e ≡ fault.Bad → Fails e (read_cell bytes) → (versions : List Version) → FitsCell versions → IsSpelled bytes versions → ⊥
unfolding read_cell
is_bad bytes f bad fails versions fits (inl e) =
    let none : read_cell bytes ≡ None = subst (λ (x : ReadFault). Fails x (read_cell bytes)) bad fails in
    let some : read_cell bytes ≡ Some versions = ap read_cell e ∙ cell_again versions fits in
    cc
is_bad bytes f bad fails versions fits (inr e) =
    let none : read_cell bytes ≡ None = subst (λ (x : ReadFault). Fails x (read_cell bytes)) bad fails in
    let some : read_cell bytes ≡ Some [] = ap read_cell e.0 in
    cc

-- what is left behind the number of versions are bytes
pub rest_of : (bytes : List ℕ) (count : ℕ) (rest : List ℕ) → IsBytes bytes → read_number w32 bytes ≡ Some (count, rest) → IsBytes rest
rest_of bytes count rest fits e = (number_takes w32 (2 ^ 32) wide32 bytes count rest fits e).0.rest_fits
