-- What is read of a key is the key of its values, and the key of values is read.
use Rattle.std.proofs.Common.{◌≡◌, ℕ, ℤ, pos, negsuc, zero, suc, ◌-◌, ◌^◌, ◌<◌, ◌≤◌, Bool, true, false, cond, eqb, List, [], ◌∷◌, ◌++◌, length, Option, Some, None, Result, Err, refl, sym, ap, subst, ◌∙◌, append_assoc, arith, inl, inr}
use Rattle.std.proofs.lemmas.Bool.{cases_lt, eqb-true}
use Rattle.std.proofs.lemmas.Int.{ints}
use Rattle.std.proofs.lemmas.List.{append-nil, length-append}
use Rattle.std.proofs.lemmas.Str.{IsUtf8-from_is_utf8, is_utf8-from_IsUtf8}
use Rattle.std.specs.Int.{w64, to_be_bytes}
use Rattle.std.specs.Int.RustNames.{FitsSigned}
use Rattle.std.specs.Str.{is_utf8}
use Rattle.tl_codec.specs.declared.fault.ReadFault.{ReadFault}
use Rattle.tl_codec.specs.declared.fault.ReadFault.TheVariants as fault
use Rattle.tl_values.specs.declared.value.Value.{Value}
use Rattle.tl_values.specs.declared.value.Value.TheVariants as value
use Rattle.tl_values.specs.Key.{AreValues, IsValue, from_least, key_bytes, text_key, value_key}
use Rattle.tl_codec.specs.Reading.{◌>>=◌, Fails, read_flag, read_number}
use Rattle.tl_codec.specs.Taken.{IsBytes, Takes}
use Rattle.tl_values.specs.Reading.{number_at, read_bool, read_int, read_escaped, read_text, read_key_value}
use Rattle.tl_values.proofs.EscapedOn.{text_after}
use Rattle.tl_codec.specs.Fields.{IsBytes-rest, behind, bind_some, flag_again, flag_takes, number_again, number_takes, passed, some_is, wide64}

-- ---- numbers

place_of : (n : ℕ) → n < 2 ^ 64 → from_least (number_at n) ≡ n
place_of n h = elim (cases_lt n (2 ^ 63)) [ inl lt ↦ below lt | inr le ↦ above le ]
  where
    below : n < 2 ^ 63 → from_least (number_at n) ≡ n
    below lt =
        let e : number_at n ≡ negsuc (2 ^ 63 - suc n) = omega (arith, ints) in
        rw e (omega arith)

    above : 2 ^ 63 ≤ n → from_least (number_at n) ≡ n
    above le =
        let e : number_at n ≡ pos (n - 2 ^ 63) = omega (arith, ints) in
        rw e (omega arith)

number_of : (z : ℤ) → FitsSigned w64 z → number_at (from_least z) ≡ z
number_of (pos n) h = omega (arith, ints)
number_of (negsuc n) h = let g = h.sfits in omega (arith, ints)

at_fits : (n : ℕ) → n < 2 ^ 64 → FitsSigned w64 (number_at n)
at_fits n h = elim (cases_lt n (2 ^ 63)) [ inl lt ↦ below lt | inr le ↦ above le ]
  where
    below : n < 2 ^ 63 → FitsSigned w64 (number_at n)
    below lt =
        let e : number_at n ≡ negsuc (2 ^ 63 - suc n) = omega (arith, ints) in
        rw e (record { sfits = omega arith })

    above : 2 ^ 63 ≤ n → FitsSigned w64 (number_at n)
    above le =
        let e : number_at n ≡ pos (n - 2 ^ 63) = omega (arith, ints) in
        rw e (record { sfits = omega arith })

place_fits : (z : ℤ) → FitsSigned w64 z → from_least z < 2 ^ 64
place_fits (pos n) h = let g = h.sfits in omega arith
place_fits (negsuc n) h = let g = h.sfits in omega arith

-- ---- texts

mark_takes : (is_end is_zero : Bool) (mark : ℕ) (more : List ℕ) (x : List ℕ × List ℕ) → (is_end ≡ true → mark ≡ 0) → (is_zero ≡ true → mark ≡ 255) → IsBytes more
    → ((y : List ℕ × List ℕ) → read_escaped more ≡ Some y → Takes more (text_key y.0) y.1)
    → text_after is_end is_zero more ≡ Some x → Takes (0 ∷ mark ∷ more) (text_key x.0) x.1
mark_takes true z mark more x ended zeroed fits deeper e =
    let taken : Takes (0 ∷ 0 ∷ more) (text_key []) more = record { parts = refl; rest_fits = fits } in
    rw (ended refl) (subst (λ (y : List ℕ × List ℕ). Takes (0 ∷ 0 ∷ more) (text_key y.0) y.1) (some_is ([], more) x e) taken)
mark_takes false true mark more x ended zeroed fits deeper e =
    let b = bind_some (read_escaped more) (λ text. Some (0 ∷ text.0, text.1)) x e in
    let taken : Takes (0 ∷ 255 ∷ more) (text_key (0 ∷ b.0.0)) b.0.1 = behind 0 _ _ _ (behind 255 _ _ _ (deeper b.0 b.1)) in
    rw (zeroed refl) (subst (λ (y : List ℕ × List ℕ). Takes (0 ∷ 255 ∷ more) (text_key y.0) y.1) (some_is (0 ∷ b.0.0, b.0.1) x b.2) taken)
mark_takes false false mark more x ended zeroed fits deeper e = absurd cc

escaped_takes : (bytes : List ℕ) (x : List ℕ × List ℕ) → IsBytes bytes → read_escaped bytes ≡ Some x → Takes bytes (text_key x.0) x.1
unfolding read_escaped
escaped_takes [] x fits e = absurd cc
escaped_takes (zero ∷ []) x fits e = absurd cc
escaped_takes (zero ∷ mark ∷ more) x fits e =
    let after : IsBytes more = IsBytes-rest mark more (IsBytes-rest 0 (mark ∷ more) fits) in
    mark_takes (eqb mark 0) (eqb mark 255) mark more x (eqb-true mark 0) (eqb-true mark 255) after (λ y h. escaped_takes more y after h) e
escaped_takes (suc b ∷ more) x fits e =
    let a = bind_some (read_escaped more) (λ text. Some (suc b ∷ text.0, text.1)) x e in
    let taken : Takes (suc b ∷ more) (text_key (suc b ∷ a.0.0)) a.0.1 = behind (suc b) _ _ _ (escaped_takes more a.0 (IsBytes-rest (suc b) more fits) a.1) in
    subst (λ (y : List ℕ × List ℕ). Takes (suc b ∷ more) (text_key y.0) y.1) (some_is (suc b ∷ a.0.0, a.0.1) x a.2) taken

escaped_again : (text rest : List ℕ) → read_escaped (text_key text ++ rest) ≡ Some (text, rest)
unfolding read_escaped
escaped_again [] rest = refl
escaped_again (zero ∷ text) rest = rw (escaped_again text rest) refl
escaped_again (suc b ∷ text) rest = rw (escaped_again text rest) refl

-- ---- values

-- what was read at the front is the key of a value of a program
abbrev pub IsRead : List ℕ → Value × List ℕ → Type 0
IsRead bytes x = Takes bytes (value_key x.0) x.1 × IsValue x.0

bool_takes : (bytes : List ℕ) (x : Value × List ℕ) → IsBytes bytes → read_bool bytes ≡ Some x → IsRead (1 ∷ bytes) x
unfolding read_bool
bool_takes bytes x fits e =
    let b = bind_some (read_flag bytes) (λ flag. Some (value.Bool flag.0, flag.1)) x e in
    subst (IsRead (1 ∷ bytes)) (some_is (value.Bool b.0.0, b.0.1) x b.2) (behind 1 bytes _ b.0.1 (flag_takes bytes b.0.0 b.0.1 fits b.1), tt)

int_takes : (bytes : List ℕ) (x : Value × List ℕ) → IsBytes bytes → read_int bytes ≡ Some x → IsRead (2 ∷ bytes) x
unfolding read_int
int_takes bytes x fits e =
    let b = bind_some (read_number w64 bytes) (λ n. Some (value.Int (number_at n.0), n.1)) x e in
    let t = number_takes w64 (2 ^ 64) wide64 bytes b.0.0 b.0.1 fits b.1 in
    let taken : Takes bytes (to_be_bytes w64 (from_least (number_at b.0.0))) b.0.1 = subst (λ (n : ℕ). Takes bytes (to_be_bytes w64 n) b.0.1) (sym (place_of b.0.0 t.1)) t.0 in
    subst (IsRead (2 ∷ bytes)) (some_is (value.Int (number_at b.0.0), b.0.1) x b.2) (behind 2 bytes _ b.0.1 taken, at_fits b.0.0 t.1)

text_takes : (bytes : List ℕ) (x : Value × List ℕ) → IsBytes bytes → read_text bytes ≡ Some x → IsRead (3 ∷ bytes) x
unfolding read_text
text_takes bytes x fits e =
    let b = bind_some (read_escaped bytes) (λ text. cond (is_utf8 text.0) (Some (value.Text text.0, text.1)) None) x e in
    let h = passed (is_utf8 b.0.0) (value.Text b.0.0, b.0.1) x b.2 in
    subst (IsRead (3 ∷ bytes)) h.1 (behind 3 bytes _ _ (escaped_takes bytes b.0 fits b.1), IsUtf8-from_is_utf8 b.0.0 h.0)

pub value_takes : (bytes : List ℕ) (x : Value × List ℕ) → IsBytes bytes → read_key_value bytes ≡ Some x → IsRead bytes x
unfolding read_key_value
value_takes [] x fits e = absurd cc
value_takes (zero ∷ bytes) x fits e =
    subst (IsRead (0 ∷ bytes)) (some_is (value.Null, bytes) x e) (record { parts = refl; rest_fits = IsBytes-rest 0 bytes fits }, tt)
value_takes (suc zero ∷ bytes) x fits e = bool_takes bytes x (IsBytes-rest 1 bytes fits) e
value_takes (suc (suc zero) ∷ bytes) x fits e = int_takes bytes x (IsBytes-rest 2 bytes fits) e
value_takes (suc (suc (suc zero)) ∷ bytes) x fits e = text_takes bytes x (IsBytes-rest 3 bytes fits) e
value_takes (suc (suc (suc (suc b))) ∷ bytes) x fits e = absurd cc

pub value_again : (v : Value) (rest : List ℕ) → IsValue v → read_key_value (value_key v ++ rest) ≡ Some (v, rest)
unfolding read_key_value read_bool read_int read_text
value_again value.Null rest fits = refl
value_again (value.Bool b) rest fits = rw (flag_again b rest) refl
value_again (value.Int n) rest fits =
    let read = number_again w64 (2 ^ 64) wide64 (from_least n) rest (place_fits n fits) in
    ap (λ (r : Option (ℕ × List ℕ)). r >>= λ x. Some (value.Int (number_at x.0), x.1)) read ∙ ap (λ (z : ℤ). Some (value.Int z, rest)) (number_of n fits)
value_again (value.Text t) rest fits = rw (escaped_again t rest, is_utf8-from_IsUtf8 t fits) refl

value_some : (v : Value) (rest : List ℕ) → 0 < length (value_key v ++ rest)
value_some value.Null rest = omega arith
value_some (value.Bool b) rest = omega arith
value_some (value.Int n) rest = omega arith
value_some (value.Text t) rest = omega arith

-- a value takes at least a byte
pub falls : (bytes : List ℕ) (v : Value) (rest : List ℕ) → IsBytes bytes → read_key_value bytes ≡ Some (v, rest) → length rest < length bytes
falls bytes v rest fits e =
    let parts = (value_takes bytes (v, rest) fits e).0.parts in
    let some : 0 < length (value_key v) = subst (λ (x : List ℕ). 0 < length x) (append-nil (value_key v)) (value_some v []) in
    omega (arith, ap length parts, length-append (value_key v) rest)

-- ---- keys

more_key : (xs : List Value) (x : Value) (rest : List ℕ) → key_bytes xs ++ (value_key x ++ rest) ≡ key_bytes (xs ++ x ∷ []) ++ rest
more_key [] x rest = ap (λ (k : List ℕ). k ++ rest) (sym (append-nil (value_key x)))
more_key (y ∷ xs) x rest =
    append_assoc (value_key y) (key_bytes xs) (value_key x ++ rest)
    ∙ ap (λ (k : List ℕ). value_key y ++ k) (more_key xs x rest)
    ∙ sym (append_assoc (value_key y) (key_bytes (xs ++ x ∷ [])) rest)

more_values : (xs : List Value) (x : Value) → AreValues xs → IsValue x → AreValues (xs ++ x ∷ [])
more_values [] x all one = (one, tt)
more_values (y ∷ xs) x all one = (all.0, more_values xs x all.1 one)

-- what was read before, and what is left
pub record ReadSoFar (bytes : List ℕ) (values : List Value) (rest : List ℕ) : Type 0 where
  pub parts : bytes ≡ key_bytes values ++ rest
  pub each : AreValues values
  pub rest_fits : IsBytes rest

pub one_more : (bytes : List ℕ) (xs : List Value) (rest : List ℕ) (x : Value) (after : List ℕ) → ReadSoFar bytes xs rest → read_key_value rest ≡ Some (x, after) → ReadSoFar bytes (xs ++ x ∷ []) after
one_more bytes xs rest x after so_far e =
    let t = value_takes rest (x, after) so_far.rest_fits e in
    record {
      parts = so_far.parts ∙ ap (λ (r : List ℕ). key_bytes xs ++ r) t.0.parts ∙ more_key xs x after;
      each = more_values xs x so_far.each t.1;
      rest_fits = t.0.rest_fits;
    }

pub ended : (bytes : List ℕ) (xs : List Value) (rest : List ℕ) → ReadSoFar bytes xs rest → rest ≡ [] → bytes ≡ key_bytes xs
ended bytes xs rest so_far e = so_far.parts ∙ ap (λ (r : List ℕ). key_bytes xs ++ r) e ∙ append-nil (key_bytes xs)

-- where no value is read, no list of values has the key
no_more : (xs ys : List Value) (rest : List ℕ) → AreValues xs → AreValues ys → 0 < length rest → read_key_value rest ≡ None → key_bytes xs ++ rest ≡ key_bytes ys → ⊥
no_more [] [] rest f g some none e = let h = ap length e in omega arith
no_more [] (y ∷ ys) rest f g some none e =
    let read = ap read_key_value e ∙ value_again y (key_bytes ys) g.0 in
    cc
no_more (x ∷ xs) [] rest f g some none e =
    let long = value_some x (key_bytes xs ++ rest) in
    let h = ap length (sym (append_assoc (value_key x) (key_bytes xs) rest) ∙ e) in
    omega arith
no_more (x ∷ xs) (y ∷ ys) rest f g some none e =
    let same : value_key x ++ (key_bytes xs ++ rest) ≡ value_key y ++ key_bytes ys = sym (append_assoc (value_key x) (key_bytes xs) rest) ∙ e in
    let read = sym (value_again x (key_bytes xs ++ rest) f.0) ∙ ap read_key_value same ∙ value_again y (key_bytes ys) g.0 in
    let after = ap (λ (p : Value × List ℕ). p.1) (some_is (x, key_bytes xs ++ rest) (y, key_bytes ys) read) in
    no_more xs ys rest f.1 g.1 some none after

-- what an error says of all the bytes
pub ends : (e : ReadFault) (bytes : List ℕ) (xs : List Value) (rest : List ℕ) → ReadSoFar bytes xs rest → 0 < length rest → Fails e (read_key_value rest) → e ≡ fault.Bad → (ys : List Value) → AreValues ys → bytes ≡ key_bytes ys → ⊥
ends fault.NoMemory bytes xs rest so_far some fails bad ys fits e = cc
ends fault.Bad bytes xs rest so_far some fails bad ys fits e = no_more xs ys rest so_far.each fits some fails (sym so_far.parts ∙ e)

pub begins : (bytes : List ℕ) (xs : List Value) → IsBytes bytes → xs ≡ [] → ReadSoFar bytes xs bytes
begins bytes xs fits e = rw e (record { parts = refl; each = tt; rest_fits = fits })

pub same_error : {A : Type 0} (r : Result A ReadFault) (x y z : ReadFault) → r ≡ Err x → x ≡ y → r ≡ Err z → y ≡ z
same_error r x y z p q e = cc
