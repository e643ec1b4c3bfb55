-- A field that is read is the field that was written, and what was written is read again: for the laws of `Spelled`.
use Rattle.std.proofs.Common.{◌≡◌, ℕ, ◌+◌, ◌^◌, ◌<◌, ◌≤◌, Bool, true, false, cond, ltb, List, [], ◌∷◌, ◌++◌, length, take, drop, Option, Some, None, refl, sym, ap, subst, ◌∙◌, append_assoc, zero, suc, arith, inl, inr}
use Rattle.std.specs.Int.{Width, w16, w32, w64, byte_len, from_be_bytes, from_bool, to_be_bytes}
use Rattle.std.proofs.lemmas.Bool.{cases_lt, ltb-false, le-ltb}
use Rattle.std.proofs.lemmas.List.{take_at, drop_at, take-append-drop, length-append, length-take, get_or-drop, get_or-take, get_or_past}
use Rattle.std.proofs.lemmas.Nat.{be_bytes_2, be_bytes_4, be_bytes_8, from_be_bytes-to_be_bytes_2, from_be_bytes-to_be_bytes_4, from_be_bytes-to_be_bytes_8}
use Rattle.tl_codec.specs.Reading.{◌>>=◌, all_read, read_byte, read_flag, read_number, read_span}
use Rattle.tl_codec.specs.Taken.{IsBytes, Takes}

pub IsBytes-drop : (n : ℕ) (bytes : List ℕ) → IsBytes bytes → IsBytes (drop n bytes)
IsBytes-drop n bytes h i = rw get_or-drop (h (n + i))

pub IsBytes-take : (n : ℕ) (bytes : List ℕ) → IsBytes bytes → IsBytes (take n bytes)
IsBytes-take n bytes h i =
    elim (cases_lt i n) [
      | inl lt ↦ rw (get_or-take n bytes i 0 lt) (h i)
      | inr le ↦ rw (get_or_past (take n bytes) i 0 (omega (arith, length-take n bytes))) (omega arith)
    ]

pub IsBytes-rest : (b : ℕ) (bytes : List ℕ) → IsBytes (b ∷ bytes) → IsBytes bytes
IsBytes-rest b bytes h i = h (suc i)

-- the value of a step that did not fail
pub bind_some : {A B : Type 0} (r : Option A) (f : A → Option B) (y : B) → (r >>= f) ≡ Some y → (x : A) × (r ≡ Some x) × (f x ≡ Some y)
bind_some (Some x) f y e = (x, refl, e)
bind_some None f y e = absurd cc

abbrev some_of : {A : Type 0} → A → Option A
some_of x = Some x

pub some_is : {A : Type 0} (x y : A) → some_of x ≡ some_of y → x ≡ y
some_is x y e = cc

-- a test that did not fail
pub passed_over : {A : Type 0} (b : Bool) (o : Option A) (y : A) → cond b None o ≡ Some y → (b ≡ false) × (o ≡ Some y)
passed_over true o y e = absurd cc
passed_over false o y e = (refl, e)

pub passed : {A : Type 0} (b : Bool) (x y : A) → cond b (some_of x) None ≡ Some y → (b ≡ true) × (x ≡ y)
passed true x y e = (refl, some_is x y e)
passed false x y e = absurd cc

pub Takes-then : (a x b y c : List ℕ) → Takes a x b → Takes b y c → Takes a (x ++ y) c
Takes-then a x b y c p q = record { parts = p.parts ∙ ap (λ (t : List ℕ). x ++ t) q.parts ∙ sym (append_assoc x y c); rest_fits = q.rest_fits }

-- ---- numbers

pub record IsWide (w : Width) (limit : ℕ) : Type 0 where
  pub len : (n : ℕ) → length (to_be_bytes w n) ≡ byte_len w
  pub back : (bytes : List ℕ) → length bytes ≡ byte_len w → IsBytes bytes → to_be_bytes w (from_be_bytes w bytes) ≡ bytes
  pub again : (n : ℕ) → n < limit → from_be_bytes w (to_be_bytes w n) ≡ n
  pub below : (bytes : List ℕ) → IsBytes bytes → from_be_bytes w bytes < limit

pub wide16 : IsWide w16 (2 ^ 16)
wide16 = record {
  len = λ n. refl;
  back = λ bytes len fits. be_bytes_2 bytes _ len fits refl;
  again = λ n lt. from_be_bytes-to_be_bytes_2 n lt;
  below = λ bytes fits. omega (arith, fits 0, fits 1);
}

pub wide32 : IsWide w32 (2 ^ 32)
wide32 = record {
  len = λ n. refl;
  back = λ bytes len fits. be_bytes_4 bytes _ len fits refl;
  again = λ n lt. from_be_bytes-to_be_bytes_4 n lt;
  below = λ bytes fits. omega (arith, fits 0, fits 1, fits 2, fits 3);
}

pub wide64 : IsWide w64 (2 ^ 64)
wide64 = record {
  len = λ n. refl;
  back = λ bytes len fits. be_bytes_8 bytes _ len fits refl;
  again = λ n lt. from_be_bytes-to_be_bytes_8 n lt;
  below = λ bytes fits. omega (arith, fits 0, fits 1, fits 2, fits 3, fits 4, fits 5, fits 6, fits 7);
}

pub number_takes : (w : Width) (limit : ℕ) (wide : IsWide w limit) (bytes : List ℕ) (n : ℕ) (rest : List ℕ) → IsBytes bytes → read_number w bytes ≡ Some (n, rest) → Takes bytes (to_be_bytes w n) rest × (n < limit)
number_takes w limit wide bytes n rest fits e =
    let g = passed_over (ltb (length bytes) (byte_len w)) (Some (from_be_bytes w (take (byte_len w) bytes), drop (byte_len w) bytes)) (n, rest) e in
    let both = some_is (from_be_bytes w (take (byte_len w) bytes), drop (byte_len w) bytes) (n, rest) g.1 in
    let long : byte_len w ≤ length bytes = ltb-false _ _ g.0 in
    let n-is : from_be_bytes w (take (byte_len w) bytes) ≡ n = ap (λ (p : ℕ × List ℕ). p.0) both in
    let rest-is : drop (byte_len w) bytes ≡ rest = ap (λ (p : ℕ × List ℕ). p.1) both in
    let front : to_be_bytes w n ≡ take (byte_len w) bytes = rw (← n-is) (wide.back (take (byte_len w) bytes) (omega (arith, length-take (byte_len w) bytes)) (IsBytes-take (byte_len w) bytes fits)) in
    (record { parts = rw (front, ← rest-is) (sym (take-append-drop (byte_len w) bytes)); rest_fits = rw (← rest-is) (IsBytes-drop (byte_len w) bytes fits) }, rw (← n-is) (wide.below (take (byte_len w) bytes) (IsBytes-take (byte_len w) bytes fits)))

pub number_again : (w : Width) (limit : ℕ) (wide : IsWide w limit) (n : ℕ) (rest : List ℕ) → n < limit → read_number w (to_be_bytes w n ++ rest) ≡ Some (n, rest)
number_again w limit wide n rest lt =
    let len = wide.len n in
    let long : ltb (length (to_be_bytes w n ++ rest)) (byte_len w) ≡ false = le-ltb _ _ (omega (arith, length-append (to_be_bytes w n) rest)) in
    rw (long, take_at (to_be_bytes w n) rest (byte_len w) len, drop_at (to_be_bytes w n) rest (byte_len w) len, wide.again n lt) refl

-- a byte for the kind in front
pub behind : (kind : ℕ) (bytes text rest : List ℕ) → Takes bytes text rest → Takes (kind ∷ bytes) (kind ∷ text) rest
behind kind bytes text rest t = record { parts = ap (λ (w : List ℕ). kind ∷ w) t.parts; rest_fits = t.rest_fits }

-- ---- single bytes, flags and spans

pub byte_takes : (bytes : List ℕ) (b : ℕ) (rest : List ℕ) → IsBytes bytes → read_byte bytes ≡ Some (b, rest) → Takes bytes (b ∷ []) rest × (b < 256)
unfolding read_byte
byte_takes [] b rest fits e = absurd cc
byte_takes (c ∷ bytes) b rest fits e =
    subst (λ (x : ℕ × List ℕ). Takes (c ∷ bytes) (x.0 ∷ []) x.1 × (x.0 < 256)) (some_is (c, bytes) (b, rest) e) (record { parts = refl; rest_fits = IsBytes-rest c bytes fits }, fits 0)

pub flag_takes : (bytes : List ℕ) (b : Bool) (rest : List ℕ) → IsBytes bytes → read_flag bytes ≡ Some (b, rest) → Takes bytes (from_bool b ∷ []) rest
unfolding read_flag
flag_takes [] b rest fits e = absurd cc
flag_takes (zero ∷ bytes) b rest fits e =
    subst (λ (x : Bool × List ℕ). Takes (0 ∷ bytes) (from_bool x.0 ∷ []) x.1) (some_is (false, bytes) (b, rest) e) (record { parts = refl; rest_fits = IsBytes-rest 0 bytes fits })
flag_takes (suc zero ∷ bytes) b rest fits e =
    subst (λ (x : Bool × List ℕ). Takes (1 ∷ bytes) (from_bool x.0 ∷ []) x.1) (some_is (true, bytes) (b, rest) e) (record { parts = refl; rest_fits = IsBytes-rest 1 bytes fits })
flag_takes (suc (suc c) ∷ bytes) b rest fits e = absurd cc

pub flag_again : (b : Bool) (rest : List ℕ) → read_flag (from_bool b ∷ rest) ≡ Some (b, rest)
unfolding read_flag
flag_again true rest = refl
flag_again false rest = refl

pub span_takes : (count : ℕ) (bytes text rest : List ℕ) → IsBytes bytes → read_span count bytes ≡ Some (text, rest) → Takes bytes text rest × (length text ≡ count)
unfolding read_span
span_takes count bytes text rest fits e =
    let g = passed_over (ltb (length bytes) count) (Some (take count bytes, drop count bytes)) (text, rest) e in
    let long : count ≤ length bytes = ltb-false _ _ g.0 in
    subst (λ (x : List ℕ × List ℕ). Takes bytes x.0 x.1 × (length x.0 ≡ count)) (some_is (take count bytes, drop count bytes) (text, rest) g.1)
    (record { parts = sym (take-append-drop count bytes); rest_fits = IsBytes-drop count bytes fits }, omega (arith, length-take count bytes))

pub span_again : (text rest : List ℕ) → read_span (length text) (text ++ rest) ≡ Some (text, rest)
unfolding read_span
span_again text rest =
    let long : ltb (length (text ++ rest)) (length text) ≡ false = le-ltb _ _ (omega (arith, length-append text rest)) in
    rw (long, take_at text rest (length text) refl, drop_at text rest (length text) refl) refl

-- nothing is left
pub all_of : {A : Type 0} (x : A × List ℕ) (y : A) → all_read x ≡ Some y → (x.0 ≡ y) × (x.1 ≡ [])
all_of (x, []) y e = (some_is x y e, refl)
all_of (x, b ∷ rest) y e = absurd cc

pub byte_again : (b : ℕ) (rest : List ℕ) → read_byte (b ∷ rest) ≡ Some (b, rest)
unfolding read_byte
byte_again b rest = refl
