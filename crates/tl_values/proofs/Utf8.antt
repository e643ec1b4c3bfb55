-- The test of UTF-8, by what is known of the bytes.
use Rattle.std.proofs.Common.{◌≡◌, ℕ, Bool, true, false, List, refl}
use Rattle.std.proofs.lemmas.Str.{IsUtf8-from_is_utf8, IsUtf8-string_bytes, is_utf8-from_IsUtf8}
use Rattle.std.specs.Prelude.{String}
use Rattle.std.specs.Str.{IsUtf8, is_utf8}
use Rattle.std.specs.String.{string_bytes}
use Rattle.std.proofs.lemmas.Bool.{false_from_ne_true}

pub not_utf8 : (bytes : List ℕ) → ¬ (IsUtf8 bytes) → is_utf8 bytes ≡ false
not_utf8 bytes h = false_from_ne_true (is_utf8 bytes) (λ e. h (IsUtf8-from_is_utf8 bytes e))

pub is_utf8-string : {Z : Type 0} (s : String Z) → is_utf8 (string_bytes s) ≡ true
is_utf8-string s = is_utf8-from_IsUtf8 (string_bytes s) (IsUtf8-string_bytes s)

pub ruleset utf8_tests = (not_utf8, is_utf8-from_IsUtf8, is_utf8-string)
