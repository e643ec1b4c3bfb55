-- The first line of the bytes, and the bytes after it.
use Rattle.std.proofs.Common.{◌≡◌, ℕ, suc, ◌+◌, ◌<◌, ◌≤◌, ◌==◌, Bool, true, false, not, cond, List, [], ◌∷◌, length, take, drop, refl, arith}
use Rattle.std.proofs.lemmas.List.Sums.{prefix_len-le-length}
use Rattle.std.specs.List.{prefix_len, onto_first}
use Rattle.tl_script.specs.Lines.{lines_of}

abbrev pub line_len : List ℕ → ℕ
line_len bytes = prefix_len (λ b. not (b == 10)) bytes

-- one byte more in front, which is a line feed or not
byte_before : (feed : Bool) (b : ℕ) (bytes : List ℕ)
    → (0 < length bytes → lines_of bytes ≡ take (line_len bytes) bytes ∷ lines_of (drop 1 (drop (line_len bytes) bytes)))
    → cond feed ([] ∷ lines_of bytes) (onto_first b (lines_of bytes))
    ≡ take (cond (not feed) (1 + line_len bytes) 0) (b ∷ bytes)
    ∷ lines_of (drop 1 (drop (cond (not feed) (1 + line_len bytes) 0) (b ∷ bytes)))
byte_before true b bytes after = refl
byte_before false b [] after = refl
byte_before false b (c ∷ bytes) after =
    let e : 1 + line_len (c ∷ bytes) ≡ suc (line_len (c ∷ bytes)) = omega arith in
    rw (after (omega arith), e) refl

pub first_line : (bytes : List ℕ) → 0 < length bytes → lines_of bytes ≡ take (line_len bytes) bytes ∷ lines_of (drop 1 (drop (line_len bytes) bytes))
first_line [] some = absurd (omega arith)
first_line (b ∷ bytes) some = byte_before (b == 10) b bytes (first_line bytes)

pub line_len-le : (bytes : List ℕ) → line_len bytes ≤ length bytes
line_len-le bytes = prefix_len-le-length (λ b. not (b == 10)) bytes

pub ruleset first_lines = (first_line, line_len-le)
