-- The first field of the bytes, and the bytes after it.
use Rattle.std.proofs.Common.{◌≡◌, ℕ, suc, ◌+◌, ◌<◌, ◌≤◌, Bool, true, false, not, cond, List, [], ◌∷◌, length, take, drop, filter, refl, sym, arith}
use Rattle.std.proofs.lemmas.List.{length-drop}
use Rattle.std.proofs.lemmas.List.Sums.{prefix_len-le-length}
use Rattle.std.specs.List.{prefix_len, onto_first}
use Rattle.tl_lines.specs.Fields.{fields_of, is_blank, pieces_of}
use Rattle.tl_lines.specs.Number.{is_empty}

abbrev pub blanks_len : List ℕ → ℕ
blanks_len bytes = prefix_len is_blank bytes

abbrev pub field_len : List ℕ → ℕ
field_len bytes = prefix_len (λ b. not (is_blank b)) bytes

abbrev pub kept : List (List ℕ) → List (List ℕ)
kept pieces = filter (λ piece. not (is_empty piece)) pieces

-- one byte more in front, which is a blank or not
blank_before : (blank : Bool) (b : ℕ) (bytes : List ℕ) → is_blank b ≡ blank
    → fields_of bytes ≡ fields_of (drop (blanks_len bytes) bytes)
    → kept (cond blank ([] ∷ pieces_of bytes) (onto_first b (pieces_of bytes))) ≡ fields_of (drop (cond blank (1 + blanks_len bytes) 0) (b ∷ bytes))
blank_before true b bytes is same = let e : 1 + blanks_len bytes ≡ suc (blanks_len bytes) = omega arith in rw e same
blank_before false b bytes is same = rw is refl

behind_blanks : (bytes : List ℕ) → fields_of bytes ≡ fields_of (drop (blanks_len bytes) bytes)
behind_blanks [] = refl
behind_blanks (b ∷ bytes) = blank_before (is_blank b) b bytes refl (behind_blanks bytes)

-- no blank is first
abbrev pub is_started : List ℕ → Bool
is_started [] = true
is_started (b ∷ bytes) = not (is_blank b)

started_before : (blank : Bool) (b : ℕ) (bytes : List ℕ) → is_blank b ≡ blank
    → is_started (drop (blanks_len bytes) bytes) ≡ true
    → is_started (drop (cond blank (1 + blanks_len bytes) 0) (b ∷ bytes)) ≡ true
started_before true b bytes is started = let e : 1 + blanks_len bytes ≡ suc (blanks_len bytes) = omega arith in rw e started
started_before false b bytes is started = rw is refl

started : (bytes : List ℕ) → is_started (drop (blanks_len bytes) bytes) ≡ true
started [] = refl
started (b ∷ bytes) = started_before (is_blank b) b bytes refl (started bytes)

piece_before : (blank : Bool) (b : ℕ) (bytes : List ℕ)
    → (0 < length bytes → pieces_of bytes ≡ take (field_len bytes) bytes ∷ pieces_of (drop 1 (drop (field_len bytes) bytes)))
    → cond blank ([] ∷ pieces_of bytes) (onto_first b (pieces_of bytes))
    ≡ take (cond (not blank) (1 + field_len bytes) 0) (b ∷ bytes)
    ∷ pieces_of (drop 1 (drop (cond (not blank) (1 + field_len bytes) 0) (b ∷ bytes)))
piece_before true b bytes after = refl
piece_before false b [] after = refl
piece_before false b (c ∷ bytes) after =
    let e : 1 + field_len (c ∷ bytes) ≡ suc (field_len (c ∷ bytes)) = omega arith in
    rw (after (omega arith), e) refl

first_piece : (bytes : List ℕ) → 0 < length bytes → pieces_of bytes ≡ take (field_len bytes) bytes ∷ pieces_of (drop 1 (drop (field_len bytes) bytes))
first_piece [] some = absurd (omega arith)
first_piece (b ∷ bytes) some = piece_before (is_blank b) b bytes (first_piece bytes)

-- the blank behind a field is left out
behind_before : (blank : Bool) (b : ℕ) (bytes : List ℕ) → is_blank b ≡ blank
    → fields_of (drop 1 (drop (field_len bytes) bytes)) ≡ fields_of (drop (field_len bytes) bytes)
    → fields_of (drop 1 (drop (cond (not blank) (1 + field_len bytes) 0) (b ∷ bytes))) ≡ fields_of (drop (cond (not blank) (1 + field_len bytes) 0) (b ∷ bytes))
behind_before true b bytes is same = rw is refl
behind_before false b bytes is same = let e : 1 + field_len bytes ≡ suc (field_len bytes) = omega arith in rw e same

behind_field : (bytes : List ℕ) → fields_of (drop 1 (drop (field_len bytes) bytes)) ≡ fields_of (drop (field_len bytes) bytes)
behind_field [] = refl
behind_field (b ∷ bytes) = behind_before (is_blank b) b bytes refl (behind_field bytes)

keeps : (piece : List ℕ) (pieces : List (List ℕ)) → is_empty piece ≡ false → kept (piece ∷ pieces) ≡ piece ∷ kept pieces
keeps piece pieces some = rw some refl

some_bytes : (blank : Bool) (b n : ℕ) (bytes : List ℕ) → not blank ≡ true → is_empty (take (cond (not blank) (1 + n) 0) (b ∷ bytes)) ≡ false
some_bytes true b n bytes is = absurd (cc)
some_bytes false b n bytes is = let e : 1 + n ≡ suc n = omega arith in rw e refl

first_field : (bytes : List ℕ) → is_started bytes ≡ true → 0 < length bytes → fields_of bytes ≡ take (field_len bytes) bytes ∷ fields_of (drop (field_len bytes) bytes)
first_field [] started some = absurd (omega arith)
first_field (b ∷ bytes) started some =
    rw (first_piece (b ∷ bytes) some, sym (behind_field (b ∷ bytes)))
    (keeps (take (field_len (b ∷ bytes)) (b ∷ bytes)) (pieces_of (drop 1 (drop (field_len (b ∷ bytes)) (b ∷ bytes)))) (some_bytes (is_blank b) b (field_len bytes) bytes started))

shorter_before : (blank : Bool) (b n : ℕ) (bytes : List ℕ) → not blank ≡ true → 0 < cond (not blank) (1 + n) 0
shorter_before true b n bytes is = absurd (cc)
shorter_before false b n bytes is = omega arith

some_field : (bytes : List ℕ) → is_started bytes ≡ true → 0 < length bytes → 0 < field_len bytes
some_field [] started some = absurd (omega arith)
some_field (b ∷ bytes) started some = shorter_before (is_blank b) b (field_len bytes) bytes started

pub blanks_len-le : (bytes : List ℕ) → blanks_len bytes ≤ length bytes
blanks_len-le bytes = prefix_len-le-length is_blank bytes

pub field_len-le : (bytes : List ℕ) → field_len bytes ≤ length bytes
field_len-le bytes = prefix_len-le-length (λ b. not (is_blank b)) bytes

-- where only blanks are left there is no field
pub no_field : (bytes rest : List ℕ) → rest ≡ drop (blanks_len bytes) bytes → length rest ≡ 0 → fields_of bytes ≡ []
no_field bytes [] e none = rw (behind_blanks bytes, sym e) refl
no_field bytes (b ∷ rest) e none = absurd (omega arith)

-- the first field and what is behind it
pub next_field : (bytes rest : List ℕ) → rest ≡ drop (blanks_len bytes) bytes → 0 < length rest
    → (fields_of bytes ≡ take (field_len rest) rest ∷ fields_of (drop (field_len rest) rest)) × (length (drop (field_len rest) rest) < length bytes)
next_field bytes rest e some =
    let begun : is_started rest ≡ true = rw e (started bytes) in
    let fewer : length (drop (field_len rest) rest) < length rest =
    omega (arith, length-drop (field_len rest) rest, some_field rest begun some, field_len-le rest) in
    let front : length rest ≤ length bytes = rw e (omega (arith, length-drop (blanks_len bytes) bytes)) in
    (rw (behind_blanks bytes, sym e) (first_field rest begun some), omega (arith, fewer, front))
