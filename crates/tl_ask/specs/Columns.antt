-- The values of a key, one for each of its columns.
use Rattle.std.specs.Prelude.{ℕ, Bool, true, false, ◌&&◌, List, [], ◌∷◌, slice_get}
use Rattle.tl_values.specs.declared.value.Value.{Value}
use Rattle.tl_schema.specs.declared.catalog.Column.{Column}
use Rattle.tl_journal.specs.ForKey.{is_of_column}

-- of the column at this place
unfoldable pub fits_at : List Column → ℕ → Value → Bool
fits_at columns place v = is_of_column (slice_get columns place) v

abbrev pub are_of_columns : List Column → List ℕ → List Value → Bool
are_of_columns columns [] [] = true
are_of_columns columns [] (v ∷ vs) = false
are_of_columns columns (place ∷ places) [] = false
are_of_columns columns (place ∷ places) (v ∷ vs) = fits_at columns place v && are_of_columns columns places vs
