-- Lower-case letters are text.
use Rattle.std.proofs.Common.{◌≡◌, ℕ, suc, ◌+◌, ◌<◌, Bool, true, false, cond, List, [], ◌∷◌, take, refl, arith}
use Rattle.std.proofs.lemmas.Bool.Decides.{nat_tests}
use Rattle.std.proofs.lemmas.List.Sums.{prefix_len-le-length}
use Rattle.std.proofs.lemmas.Str.{IsUtf8-from_ascii}
use Rattle.std.proofs.lemmas.Str.Ascii.{IsAscii-nil, IsAscii-cons}
use Rattle.std.specs.Char.{is_ascii_lowercase}
use Rattle.std.specs.List.{prefix_len}
use Rattle.std.specs.Str.{IsAscii, IsUtf8}

is_letter-lt : (c : ℕ) → is_ascii_lowercase c ≡ true → c < 128
is_letter-lt c h = grind (arith, nat_tests)

letter_before : (test : Bool) (c : ℕ) (n : ℕ) (cs : List ℕ) → is_ascii_lowercase c ≡ test → IsAscii (take n cs) → IsAscii (take (cond test (1 + n) 0) (c ∷ cs))
letter_before true c n cs h ascii = let e : 1 + n ≡ suc n = omega arith in rw e (IsAscii-cons c (take n cs) (is_letter-lt c h) ascii)
letter_before false c n cs h ascii = IsAscii-nil

pub IsAscii-front : (bytes : List ℕ) → IsAscii (take (prefix_len is_ascii_lowercase bytes) bytes)
IsAscii-front [] = IsAscii-nil
IsAscii-front (c ∷ cs) = letter_before (is_ascii_lowercase c) c (prefix_len is_ascii_lowercase cs) cs refl (IsAscii-front cs)

-- the letters at the front are text
pub IsUtf8-front : (bytes : List ℕ) → IsUtf8 (take (prefix_len is_ascii_lowercase bytes) bytes)
IsUtf8-front bytes = IsUtf8-from_ascii _ (IsAscii-front bytes)

pub ruleset letters = (IsUtf8-front, prefix_len-le-length)
