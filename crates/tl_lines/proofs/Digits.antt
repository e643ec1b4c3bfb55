-- Digits, and how large their number is.
use Rattle.std.proofs.Common.{◌≡◌, ℕ, suc, ◌+◌, ◌-◌, ◌*◌, ◌^◌, ◌<◌, ◌≤◌, ◌&&◌, min, Bool, true, false, cond, List, [], ◌∷◌, length, take, get_or, refl, arith}
use Rattle.std.proofs.lemmas.Bool.Decides.{nat_tests}
use Rattle.std.proofs.lemmas.Int.Digits.{digits_value_more}
use Rattle.std.proofs.lemmas.List.Sums.{prefix_len-le-length}
use Rattle.std.proofs.lemmas.Str.{digit_value_digit}
use Rattle.std.proofs.lemmas.Str.Parse.{digit_at}
use Rattle.std.specs.Char.{digit_value, is_ascii_digit}
use Rattle.std.specs.Int.{IsInRange}
use Rattle.std.specs.List.{list_all, prefix_len}
use Rattle.std.specs.Str.Parse.{AllDigits, digits_value}

is_digit-lt : (c : ℕ) → is_ascii_digit c ≡ true → digit_value c < 10
is_digit-lt c h = grind (arith, nat_tests)

digit_before : (test : Bool) (c : ℕ) (n : ℕ) (cs : List ℕ) → is_ascii_digit c ≡ test → AllDigits 10 (take n cs) → AllDigits 10 (take (cond test (1 + n) 0) (c ∷ cs))
digit_before true c n cs h all = let e : 1 + n ≡ suc n = omega arith in rw e (is_digit-lt c h, all)
digit_before false c n cs h all = tt

-- the digits at the front are digits
pub AllDigits-front : (bytes : List ℕ) → AllDigits 10 (take (prefix_len is_ascii_digit bytes) bytes)
AllDigits-front [] = tt
AllDigits-front (c ∷ cs) = digit_before (is_ascii_digit c) c (prefix_len is_ascii_digit cs) cs refl (AllDigits-front cs)

all_before : (test : Bool) (c : ℕ) (cs : List ℕ) → is_ascii_digit c ≡ test → (list_all is_ascii_digit cs ≡ true → AllDigits 10 cs) → (test && list_all is_ascii_digit cs) ≡ true → AllDigits 10 (c ∷ cs)
all_before true c cs is more h = (is_digit-lt c is, more h)
all_before false c cs is more h = absurd (cc)

pub AllDigits-all : (cs : List ℕ) → list_all is_ascii_digit cs ≡ true → AllDigits 10 cs
AllDigits-all [] h = tt
AllDigits-all (c ∷ cs) h = all_before (is_ascii_digit c) c cs refl (AllDigits-all cs) h

-- one digit more
pub digit_step : (cs : List ℕ) (i : ℕ) → AllDigits 10 cs → i < length cs → (48 ≤ get_or cs i 0) × (digits_value 10 (take (i + 1) cs) ≡ digits_value 10 (take i cs) * 10 + (get_or cs i 0 - 48))
digit_step cs i all within =
    let range : IsInRange 48 57 (get_or cs i 0) = digit_at cs i all within in
    let digit : digit_value (get_or cs i 0) + 48 ≡ get_or cs i 0 = digit_value_digit (get_or cs i 0) range in
    let more : digits_value 10 (take (i + 1) cs) ≡ digits_value 10 (take i cs) * 10 + digit_value (get_or cs i 0) = digits_value_more 10 cs i within in
    (omega arith, omega arith)

-- so where a number above the limit is cut to it
pub limited_step : (cs : List ℕ) (i : ℕ) → AllDigits 10 cs → i < length cs
    → min (digits_value 10 (take (i + 1) cs)) (2 ^ 32) ≡ min (min (digits_value 10 (take i cs)) (2 ^ 32) * 10 + (get_or cs i 0 - 48)) (2 ^ 32)
limited_step cs i all within = omega (arith, (digit_step cs i all within).0, (digit_step cs i all within).1)

pub digit_below : (cs : List ℕ) (i : ℕ) → AllDigits 10 cs → i < length cs → get_or cs i 0 < 58
digit_below cs i all within = let range : IsInRange 48 57 (get_or cs i 0) = digit_at cs i all within in omega arith

pub ruleset digits = (AllDigits-front, prefix_len-le-length)

pub ruleset limited_steps = (digit_step, limited_step, digit_below)
