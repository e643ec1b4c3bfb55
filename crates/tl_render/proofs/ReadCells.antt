-- What the bytes of a cell spell is read from them, and what is read from them they spell.
use Rattle.std.proofs.Common.{◌≡◌, ℕ, List, [], Option, Some, None, IsSome, inl, inr, refl, sym, ap, ◌∙◌}
use Rattle.tl_codec.specs.Taken.{IsBytes}
use Rattle.tl_descriptor.specs.Reading.{FitsSet, read_set, spelling}
use Rattle.tl_descriptor.specs.Tids.{TidSet}
use Rattle.tl_descriptor.proofs.SetReading.{set_taken}
use Rattle.tl_versions.specs.declared.version.Version.{Version}
use Rattle.tl_versions.specs.Cell.{FitsCell, IsSpelled}
use Rattle.tl_versions.specs.Reading.{read_cell}
use Rattle.tl_versions.proofs.CellReading.{cell_again, cell_taken}

none_read : read_cell [] ≡ Some []
unfolding read_cell
none_read = refl

pub spelled_read : (bytes : List ℕ) (versions : List Version) → IsSpelled bytes versions → FitsCell versions → read_cell bytes ≡ Some versions
spelled_read bytes versions (inl spelled) fits = ap read_cell spelled ∙ cell_again versions fits
spelled_read bytes versions (inr none) fits = ap read_cell none.0 ∙ none_read ∙ ap (λ (vs : List Version). Some vs) (sym none.1)

some_in : {X : Type 0} (o : Option X) → IsSome o → (x : X) × (o ≡ Some x)
some_in None h = absurd cc
some_in (Some x) h = (x, refl)

pub set_is_spelled : (bytes : List ℕ) → IsBytes bytes → IsSome (read_set bytes) → (set : TidSet) × FitsSet set × (bytes ≡ spelling set)
set_is_spelled bytes fits read =
    let s = some_in (read_set bytes) read in
    let taken = set_taken bytes s.0 fits s.1 in
    (s.0, taken.1, taken.0)

pub cell_is_spelled : (bytes : List ℕ) → IsBytes bytes → IsSome (read_cell bytes) → (versions : List Version) × FitsCell versions × IsSpelled bytes versions
cell_is_spelled bytes fits read =
    let s = some_in (read_cell bytes) read in
    let taken = cell_taken bytes s.0 fits s.1 in
    (s.0, taken.1, taken.0)
