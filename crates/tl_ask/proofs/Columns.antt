-- The bytes of a key are those of its values, and no key has other bytes.
use Rattle.std.proofs.Common.{◌≡◌, ℕ, ◌-◌, ◌<◌, Bool, true, false, List, [], ◌∷◌, ◌++◌, Option, Some, None, refl, ap, ◌∙◌, drop, length, arith}
use Rattle.std.specs.Prelude.{◌&&◌, slice_get}
use Rattle.std.proofs.lemmas.Bool.{and_parts}
use Rattle.std.proofs.lemmas.List.{length-drop}
use Rattle.tl_codec.specs.Taken.{IsBytes}
use Rattle.tl_values.specs.declared.value.Value.{Value}
use Rattle.tl_values.specs.declared.value.Value.TheVariants as value
use Rattle.tl_values.specs.Key.{AreValues, key_bytes, value_key}
use Rattle.tl_values.specs.Reading.{read_key_value}
use Rattle.tl_values.proofs.KeyReading.{value_again, value_takes}
use Rattle.tl_schema.specs.declared.catalog.Column.{Column}
use Rattle.tl_protocol.specs.Move.{is_empty}
use Rattle.tl_journal.specs.ForKey.{are_values_of, first_passes, is_of_column}
use Rattle.tl_ask.specs.Columns.{are_of_columns, fits_at}

some_bytes : (v : Value) (rest : List ℕ) → is_empty (value_key v ++ rest) ≡ false
some_bytes value.Null rest = refl
some_bytes (value.Bool b) rest = refl
some_bytes (value.Int n) rest = refl
some_bytes (value.Text t) rest = refl

-- the bytes of the values
pub values_tested : (columns : List Column) (places : List ℕ) (values : List Value) → AreValues values
    → are_values_of columns places (key_bytes values) ≡ are_of_columns columns places values
unfolding read_key_value fits_at
values_tested columns [] [] h = refl
values_tested columns [] (v ∷ vs) h = some_bytes v (key_bytes vs)
values_tested columns (place ∷ places) [] h = refl
values_tested columns (place ∷ places) (v ∷ vs) h =
    ap (first_passes (slice_get columns place) (λ (rest : List ℕ). are_values_of columns places rest)) (value_again v (key_bytes vs) h.0)
    ∙ ap (λ (b : Bool). is_of_column (slice_get columns place) v && b) (values_tested columns places vs h.1)

record AreThose (bytes : List ℕ) : Type 0 where
  values : List Value
  fit : AreValues values
  bytes_are : bytes ≡ key_bytes values

through : (columns : List Column) (place : ℕ) (places bytes : List ℕ) → IsBytes bytes
    → ((rest : List ℕ) → IsBytes rest → are_values_of columns places rest ≡ true → AreThose rest)
    → (x : Option (Value × List ℕ)) → read_key_value bytes ≡ x
    → first_passes (slice_get columns place) (λ (rest : List ℕ). are_values_of columns places rest) x ≡ true → AreThose bytes
through columns place places bytes fits further None is h = absurd cc
through columns place places bytes fits further (Some x) is h =
    let t = value_takes bytes x fits is in
    let more : AreThose x.1 = further x.1 t.0.rest_fits (and_parts (is_of_column (slice_get columns place) x.0) (are_values_of columns places x.1) h).1 in
    record {
      values = x.0 ∷ more.values;
      fit = (t.1, more.fit);
      bytes_are = t.0.parts ∙ ap (λ (r : List ℕ). value_key x.0 ++ r) more.bytes_are;
    }

-- what passes is the bytes of some values
those : (columns : List Column) (places : List ℕ) (bytes : List ℕ) → IsBytes bytes → are_values_of columns places bytes ≡ true → AreThose bytes
those columns [] [] fits e = record { values = []; fit = tt; bytes_are = refl }
those columns [] (b ∷ bs) fits e = absurd cc
those columns (place ∷ places) bytes fits e =
    through columns place places bytes fits (λ (rest : List ℕ). those columns places rest) (read_key_value bytes) refl e

-- bytes of no values pass for no columns
pub none_tested : (columns : List Column) (places : List ℕ) (bytes : List ℕ) → IsBytes bytes
    → ((values : List Value) → AreValues values → bytes ≡ key_bytes values → ⊥) → are_values_of columns places bytes ≡ false
none_tested columns places bytes fits never = by (are_values_of columns places bytes) refl
  where
    by : (b : Bool) → are_values_of columns places bytes ≡ b → b ≡ false
    by false e = refl
    by true e = let a : AreThose bytes = those columns places bytes fits e in absurd (never a.values a.fit a.bytes_are)

-- a column that has no value is left
pub none_left : (columns : List Column) (places : List ℕ) (values left : List Value) (at : ℕ) → at < length places
    → are_of_columns columns (drop at places) left ≡ are_of_columns columns places values → length left ≡ 0 → false ≡ are_of_columns columns places values
none_left columns places values [] at some so nothing = no_values (drop at places) dropped ∙ so
  where
    dropped : 0 < length (drop at places)
    dropped = let e : length (drop at places) ≡ length places - at = length-drop at places in omega arith

    no_values : (left : List ℕ) → 0 < length left → false ≡ are_of_columns columns left []
    no_values [] h = absurd (omega arith)
    no_values (place ∷ left) h = refl
none_left columns places values (v ∷ left) at some so nothing = absurd (omega arith)
