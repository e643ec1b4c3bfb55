-- A value that is read is the value that was spelled, and what was spelled is read again.
use Rattle.std.proofs.Common.{◌≡◌, ℕ, ℤ, zero, suc, ◌^◌, ◌<◌, cond, Fits, List, [], ◌∷◌, ◌++◌, length, Option, Some, None, refl, sym, ap, subst, ◌∙◌, append_assoc, arith}
use Rattle.std.specs.Int.{w16, w64, cast_signed, cast_unsigned, to_be_bytes}
use Rattle.std.specs.Int.RustNames.{FitsSigned}
use Rattle.std.specs.Str.{is_utf8}
use Rattle.std.proofs.Math.Facts.{sfits_to_z}
use Rattle.std.proofs.lemmas.Int.{ints, of_z-to_z, to_z-of_z}
use Rattle.std.proofs.lemmas.Str.{IsUtf8-from_is_utf8, is_utf8-from_IsUtf8}
use Rattle.tl_values.specs.declared.value.Value.{Value}
use Rattle.tl_values.specs.declared.value.Value.TheVariants as value
use Rattle.tl_values.specs.Key.{IsValue}
use Rattle.tl_codec.specs.Reading.{◌>>=◌, read_flag, read_number, read_span}
use Rattle.tl_codec.specs.Taken.{IsBytes, Takes}
use Rattle.tl_codec.specs.Fields.{IsBytes-rest, Takes-then, behind, bind_some, flag_again, flag_takes, number_again, number_takes, passed, some_is, span_again, span_takes, wide16, wide64}
use Rattle.tl_values.specs.Reading.{read_bool}
use Rattle.tl_schema.specs.Reading.{read_int, read_text, read_value}
use Rattle.tl_schema.specs.Row.{IsShort, value_spelling}

-- what was read at the front is spelled so, and is a value of a program
abbrev pub IsRead : List ℕ → Value × List ℕ → Type 0
IsRead bytes x = Takes bytes (value_spelling x.0) x.1 × IsShort x.0 × IsValue x.0

bool_takes : (bytes : List ℕ) (x : Value × List ℕ) → IsBytes bytes → read_bool bytes ≡ Some x → IsRead (1 ∷ bytes) x
unfolding read_bool
bool_takes bytes x fits e =
    let b = bind_some (read_flag bytes) (λ flag. Some (value.Bool flag.0, flag.1)) x e in
    subst (IsRead (1 ∷ bytes)) (some_is (value.Bool b.0.0, b.0.1) x b.2) (behind 1 bytes _ b.0.1 (flag_takes bytes b.0.0 b.0.1 fits b.1), tt, tt)

signed_fits : (n : ℕ) → n < 2 ^ 64 → FitsSigned w64 (cast_signed w64 n)
signed_fits n h = let f : Fits w64 n = record { fits = h } in sfits_to_z f

int_takes : (bytes : List ℕ) (x : Value × List ℕ) → IsBytes bytes → read_int bytes ≡ Some x → IsRead (2 ∷ bytes) x
unfolding read_int
int_takes bytes x fits e =
    let b = bind_some (read_number w64 bytes) (λ n. Some (value.Int (cast_signed w64 n.0), n.1)) x e in
    let t = number_takes w64 (2 ^ 64) wide64 bytes b.0.0 b.0.1 fits b.1 in
    let same : cast_unsigned w64 (cast_signed w64 b.0.0) ≡ b.0.0 = of_z-to_z w64 b.0.0 t.1 in
    let taken : Takes bytes (to_be_bytes w64 (cast_unsigned w64 (cast_signed w64 b.0.0))) b.0.1 = subst (λ (n : ℕ). Takes bytes (to_be_bytes w64 n) b.0.1) (sym same) t.0 in
    subst (IsRead (2 ∷ bytes)) (some_is (value.Int (cast_signed w64 b.0.0), b.0.1) x b.2) (behind 2 bytes _ b.0.1 taken, tt, signed_fits b.0.0 t.1)

text_takes : (bytes : List ℕ) (x : Value × List ℕ) → IsBytes bytes → read_text bytes ≡ Some x → IsRead (3 ∷ bytes) x
unfolding read_text
text_takes bytes x fits e =
    let b = bind_some (read_number w16 bytes) (λ size. read_span size.0 size.1 >>= λ text. cond (is_utf8 text.0) (Some (value.Text text.0, text.1)) None) x e in
    let t = number_takes w16 (2 ^ 16) wide16 bytes b.0.0 b.0.1 fits b.1 in
    let d = bind_some (read_span b.0.0 b.0.1) (λ text. cond (is_utf8 text.0) (Some (value.Text text.0, text.1)) None) x b.2 in
    let u = span_takes b.0.0 b.0.1 d.0.0 d.0.1 t.0.rest_fits d.1 in
    let h = passed (is_utf8 d.0.0) (value.Text d.0.0, d.0.1) x d.2 in
    let both = Takes-then bytes (to_be_bytes w16 b.0.0) b.0.1 d.0.0 d.0.1 t.0 u.0 in
    let whole : Takes bytes (to_be_bytes w16 (length d.0.0) ++ d.0.0) d.0.1 = subst (λ (k : ℕ). Takes bytes (to_be_bytes w16 k ++ d.0.0) d.0.1) (sym u.1) both in
    subst (IsRead (3 ∷ bytes)) h.1 (behind 3 bytes _ _ whole, omega (arith, t.1, u.1), IsUtf8-from_is_utf8 d.0.0 h.0)

pub value_takes : (bytes : List ℕ) (x : Value × List ℕ) → IsBytes bytes → read_value bytes ≡ Some x → IsRead bytes x
unfolding read_value
value_takes [] x fits e = absurd cc
value_takes (zero ∷ bytes) x fits e =
    subst (IsRead (0 ∷ bytes)) (some_is (value.Null, bytes) x e) (record { parts = refl; rest_fits = IsBytes-rest 0 bytes fits }, tt, tt)
value_takes (suc zero ∷ bytes) x fits e = bool_takes bytes x (IsBytes-rest 1 bytes fits) e
value_takes (suc (suc zero) ∷ bytes) x fits e = int_takes bytes x (IsBytes-rest 2 bytes fits) e
value_takes (suc (suc (suc zero)) ∷ bytes) x fits e = text_takes bytes x (IsBytes-rest 3 bytes fits) e
value_takes (suc (suc (suc (suc b))) ∷ bytes) x fits e = absurd cc

unsigned_fits : (n : ℤ) → FitsSigned w64 n → cast_unsigned w64 n < 2 ^ 64
unsigned_fits n h = let g = h.sfits in omega (arith, ints)

pub value_again : (v : Value) (rest : List ℕ) → IsShort v → IsValue v → read_value (value_spelling v ++ rest) ≡ Some (v, rest)
unfolding read_value read_bool read_int read_text
value_again value.Null rest short fits = refl
value_again (value.Bool b) rest short fits = rw (flag_again b rest) refl
value_again (value.Int n) rest short fits =
    let read = number_again w64 (2 ^ 64) wide64 (cast_unsigned w64 n) rest (unsigned_fits n fits) in
    ap (λ (r : Option (ℕ × List ℕ)). r >>= λ x. Some (value.Int (cast_signed w64 x.0), x.1)) read ∙ ap (λ (z : ℤ). Some (value.Int z, rest)) (to_z-of_z w64 n fits)
value_again (value.Text t) rest short fits =
    let regrouped : (to_be_bytes w16 (length t) ++ t) ++ rest ≡ to_be_bytes w16 (length t) ++ (t ++ rest) = append_assoc (to_be_bytes w16 (length t)) t rest in
    let read = number_again w16 (2 ^ 16) wide16 (length t) (t ++ rest) short in
    ap read_text regrouped ∙ rw (read, span_again t rest, is_utf8-from_IsUtf8 t fits) refl
