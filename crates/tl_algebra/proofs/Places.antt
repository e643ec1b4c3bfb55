-- A place of a row, as the code reads it.
use Rattle.std.proofs.Common.{◌≡◌, ℕ, zero, suc, List, [], ◌∷◌, refl}
use Rattle.std.specs.List.{slice_get}
use Rattle.tl_values.specs.declared.value.Value.{Value}
use Rattle.tl_values.specs.Value.{value_at}
use Rattle.tl_algebra.specs.Row.{or_null}

pub place_read : (row : List Value) (at : ℕ) → or_null (slice_get row at) ≡ value_at row at
place_read [] at = refl
place_read (x ∷ xs) zero = refl
place_read (x ∷ xs) (suc at) = place_read xs at
