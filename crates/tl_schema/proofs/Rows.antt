-- What is read is spelled so, and what is spelled so is read.
use Rattle.std.proofs.Common.{◌≡◌, ℕ, List, [], ◌∷◌, ◌++◌, length, Some, Result, Err, refl, sym, ap, subst, ◌∙◌, arith}
use Rattle.std.specs.Result.{IsErrOf}
use Rattle.std.specs.List.{flat_map, AllByRecursion}
use Rattle.std.proofs.lemmas.List.{append-nil}
use Rattle.tl_values.specs.declared.value.Value.{Value}
use Rattle.tl_values.specs.Key.{AreValues, IsValue}
use Rattle.tl_codec.specs.declared.fault.ReadFault.{ReadFault}
use Rattle.tl_codec.specs.declared.fault.ReadFault.TheVariants as fault
use Rattle.tl_codec.specs.Reading.{◌>>=◌, Fails, all_read, read_byte, read_many}
use Rattle.tl_codec.specs.Taken.{IsBytes, Takes}
use Rattle.tl_codec.specs.Fields.{all_of, bind_some, byte_again, byte_takes, some_is}
use Rattle.tl_codec.proofs.Many.{many_again, many_taken}
use Rattle.tl_schema.specs.declared.fault.RowFault.{RowFault}
use Rattle.tl_schema.specs.declared.fault.RowFault.TheVariants as row_faults
use Rattle.tl_schema.specs.Fault.{row_fault}
use Rattle.tl_schema.specs.Reading.{read_value, read_row}
use Rattle.tl_schema.specs.Row.{FitsRow, IsShort, row_spelling, value_spelling}
use Rattle.tl_schema.proofs.ValueReading.{value_again, value_takes}

-- what has a spelling
abbrev Fits : Value → Type 0
Fits v = IsShort v × IsValue v

value_taken : (bytes : List ℕ) (v : Value) (rest : List ℕ) → IsBytes bytes → read_value bytes ≡ Some (v, rest) → Takes bytes (value_spelling v) rest × Fits v
value_taken bytes v rest fits e = let t = value_takes bytes (v, rest) fits e in (t.0, (t.1, t.2))

value_read : (v : Value) (rest : List ℕ) → Fits v → read_value (value_spelling v ++ rest) ≡ Some (v, rest)
value_read v rest fits = value_again v rest fits.0 fits.1

both_fit : (vs : List Value) → AllByRecursion IsShort vs → AreValues vs → AllByRecursion Fits vs
both_fit [] short fits = tt
both_fit (v ∷ vs) short fits = ((short.0, fits.0), both_fit vs short.1 fits.1)

are_short : (vs : List Value) → AllByRecursion Fits vs → AllByRecursion IsShort vs
are_short [] fits = tt
are_short (v ∷ vs) fits = (fits.0.0, are_short vs fits.1)

are_values : (vs : List Value) → AllByRecursion Fits vs → AreValues vs
are_values [] fits = tt
are_values (v ∷ vs) fits = (fits.0.1, are_values vs fits.1)

-- what is read is the row's spelling, and the row has one
pub row_takes : (bytes : List ℕ) (row : List Value) → IsBytes bytes → read_row bytes ≡ Some row → (bytes ≡ row_spelling row) × FitsRow row
unfolding read_row
row_takes bytes values fits e =
    let n = bind_some (read_byte bytes) (λ count. read_many read_value count.0 count.1 >>= all_read) values e in
    let b = byte_takes bytes n.0.0 n.0.1 fits n.1 in
    let a = bind_some (read_many read_value n.0.0 n.0.1) all_read values n.2 in
    let g = all_of a.0 values a.2 in
    let t = many_taken value_spelling Fits read_value value_taken n.0.0 n.0.1 a.0 b.0.rest_fits a.1 in
    let whole : n.0.1 ≡ flat_map value_spelling a.0.0 = t.0.parts ∙ ap (λ (r : List ℕ). flat_map value_spelling a.0.0 ++ r) g.1 ∙ append-nil (flat_map value_spelling a.0.0) in
    let spelled : bytes ≡ row_spelling a.0.0 = b.0.parts ∙ ap (λ (r : List ℕ). n.0.0 ∷ r) whole ∙ ap (λ (k : ℕ). k ∷ flat_map value_spelling a.0.0) (sym t.1) in
    subst (λ (vs : List Value). (bytes ≡ row_spelling vs) × FitsRow vs) g.0 (spelled, record { count = omega (arith, t.1, b.1); short = are_short a.0.0 t.2; values = are_values a.0.0 t.2 })

-- what is spelled so is read
pub row_again : (row : List Value) → FitsRow row → read_row (row_spelling row) ≡ Some row
unfolding read_row
row_again values fits =
    let read : read_many read_value (length values) (flat_map value_spelling values) ≡ Some (values, []) =
    ap (read_many read_value (length values)) (sym (append-nil (flat_map value_spelling values)))
    ∙ many_again value_spelling Fits read_value value_read values [] (both_fit values fits.short fits.values) in
    rw (byte_again (length values) (flat_map value_spelling values), read) refl

-- no two rows have the same spelling
pub rows_apart : (r s : List Value) → FitsRow r → FitsRow s → row_spelling r ≡ row_spelling s → r ≡ s
rows_apart r s f g e = some_is r s (sym (row_again r f) ∙ ap read_row e ∙ row_again s g)

-- ---- what a reader's answer says of the bytes

pub is_bad_row : (r : Result (List Value) RowFault) (e : ReadFault) (told : RowFault) → r ≡ Err told → told ≡ row_fault e → IsErrOf r row_faults.BadRow → e ≡ fault.Bad
is_bad_row r fault.Bad told p q bad = refl
is_bad_row r fault.NoMemory told p q bad = absurd cc

pub is_bad : (bytes : List ℕ) (e : ReadFault) → Fails e (read_row bytes) → e ≡ fault.Bad → (vs : List Value) → FitsRow vs → bytes ≡ row_spelling vs → ⊥
is_bad bytes fault.NoMemory given bad vs fits e = cc
is_bad bytes fault.Bad given bad vs fits e =
    let some : read_row bytes ≡ Some vs = ap read_row e ∙ row_again vs fits in
    cc
