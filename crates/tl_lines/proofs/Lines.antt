-- The first line of the bytes, and the bytes after it.
use Rattle.std.proofs.Common.{◌≡◌, ℕ, suc, ◌+◌, ◌<◌, ◌≤◌, ◌==◌, ◌&&◌, Bool, true, false, not, cond, List, [], ◌∷◌, ◌++◌, length, take, drop, refl, sym, ap, subst, ◌∙◌, append-nil, take-append-drop, arith}
use Rattle.std.proofs.lemmas.Bool.Decides.{nat_tests}
use Rattle.std.proofs.lemmas.List.Sums.{prefix_len-le-length}
use Rattle.std.specs.List.{AllByRecursion, prefix_len, onto_first}
use Rattle.tl_lines.specs.Lines.{is_return, lines_of, without_return}

abbrev pub line_len : List ℕ → ℕ
line_len bytes = prefix_len (λ b. not (b == 10)) bytes

pub line_len-le : (bytes : List ℕ) → line_len bytes ≤ length bytes
line_len-le bytes = prefix_len-le-length (λ b. not (b == 10)) bytes

-- no line feed is among the bytes
abbrev pub IsUnfed : List ℕ → Type 0
IsUnfed line = AllByRecursion (λ b. (b == 10) ≡ false) line

unfed_before : (feed : Bool) (b : ℕ) (bytes : List ℕ) → (b == 10) ≡ feed → IsUnfed (take (line_len bytes) bytes)
    → IsUnfed (take (cond (not feed) (1 + line_len bytes) 0) (b ∷ bytes))
unfed_before true b bytes is more = tt
unfed_before false b bytes is more = let e : 1 + line_len bytes ≡ suc (line_len bytes) = omega arith in rw e (is, more)

-- none is before the first one
pub front_unfed : (bytes : List ℕ) → IsUnfed (take (line_len bytes) bytes)
front_unfed [] = tt
front_unfed (b ∷ bytes) = unfed_before (b == 10) b bytes refl (front_unfed bytes)

abbrev pub first_is_feed : List ℕ → Bool
first_is_feed [] = true
first_is_feed (b ∷ bytes) = b == 10

feed_before : (feed : Bool) (b : ℕ) (bytes : List ℕ) → (b == 10) ≡ feed → first_is_feed (drop (line_len bytes) bytes) ≡ true
    → first_is_feed (drop (cond (not feed) (1 + line_len bytes) 0) (b ∷ bytes)) ≡ true
feed_before true b bytes is more = is
feed_before false b bytes is more = let e : 1 + line_len bytes ≡ suc (line_len bytes) = omega arith in rw e more

behind_feeds : (bytes : List ℕ) → first_is_feed (drop (line_len bytes) bytes) ≡ true
behind_feeds [] = refl
behind_feeds (b ∷ bytes) = feed_before (b == 10) b bytes refl (behind_feeds bytes)

-- and it stands behind them
pub behind_feed : (bytes after : List ℕ) (b : ℕ) → drop (line_len bytes) bytes ≡ b ∷ after → (b == 10) ≡ true
behind_feed bytes after b e = subst (λ (bs : List ℕ). first_is_feed bs ≡ true) e (behind_feeds bytes)

returned : (is : Bool) (b : ℕ) (after : List ℕ) → (b == 13) ≡ is
    → cond (is && true) ([] ∷ lines_of after) (onto_first b ([] ∷ lines_of after)) ≡ cond is [] (b ∷ []) ∷ lines_of after
returned true b after e = refl
returned false b after e = refl

no_return : (is : Bool) → (is && false) ≡ false
no_return true = refl
no_return false = refl

-- a byte more in front of a line
further : (b : ℕ) (lines : List (List ℕ)) (line : List ℕ) (more : List (List ℕ)) → lines ≡ line ∷ more → onto_first b lines ≡ (b ∷ line) ∷ more
further b lines line more e = rw e refl

-- a line with its line feed
pub fed : (line after : List ℕ) → IsUnfed line → lines_of (line ++ 10 ∷ after) ≡ without_return line ∷ lines_of after
fed [] after unfed = refl
fed (b ∷ []) after unfed = rw unfed.0 (returned (b == 13) b after refl)
fed (b ∷ c ∷ line) after unfed =
    rw (unfed.0, unfed.1.0, no_return (b == 13))
    (further b (cond false ([] ∷ lines_of (line ++ 10 ∷ after)) (cond (is_return c (line ++ 10 ∷ after)) (lines_of (line ++ 10 ∷ after)) (onto_first c (lines_of (line ++ 10 ∷ after))))) (without_return (c ∷ line)) (lines_of after)
    (rw unfed.1.0 at (fed (c ∷ line) after unfed.1)))

-- a line without one
pub unfed_line : (line : List ℕ) → IsUnfed line → 0 < length line → lines_of line ≡ line ∷ []
unfed_line [] unfed some = absurd (omega arith)
unfed_line (b ∷ []) unfed some = rw unfed.0 refl
unfed_line (b ∷ c ∷ line) unfed some =
    rw (unfed.0, unfed.1.0, no_return (b == 13))
    (further b (cond false ([] ∷ lines_of line) (cond (is_return c line) (lines_of line) (onto_first c (lines_of line)))) (c ∷ line) []
    (rw unfed.1.0 at (unfed_line (c ∷ line) unfed.1 (omega arith))))

feed_is : (b : ℕ) → (b == 10) ≡ true → b ≡ 10
feed_is b e = grind (arith, nat_tests)

parts : (bytes front back : List ℕ) → front ≡ take (line_len bytes) bytes → back ≡ drop (line_len bytes) bytes → front ++ back ≡ bytes
parts bytes front back e f = rw (e, f) (take-append-drop (line_len bytes) bytes)

-- the first line has a line feed
pub first_of_lines : (bytes front back after : List ℕ) (b : ℕ) → front ≡ take (line_len bytes) bytes → back ≡ drop (line_len bytes) bytes → back ≡ b ∷ after
    → lines_of bytes ≡ without_return front ∷ lines_of after
first_of_lines bytes front back after b e f is =
    let feed : b ≡ 10 = feed_is b (behind_feed bytes after b (sym f ∙ is)) in
    let whole : front ++ 10 ∷ after ≡ bytes = rw (sym feed, sym is) (parts bytes front back e f) in
    subst (λ (bs : List ℕ). lines_of bs ≡ without_return front ∷ lines_of after) whole (fed front after (subst IsUnfed (sym e) (front_unfed bytes)))

-- the first line is the last
pub last_of_lines : (bytes front back : List ℕ) → front ≡ take (line_len bytes) bytes → back ≡ drop (line_len bytes) bytes → length back ≡ 0 → 0 < length bytes
    → lines_of bytes ≡ front ∷ lines_of back
last_of_lines bytes front [] e f is some =
    let whole : front ≡ bytes = sym (append-nil front) ∙ parts bytes front [] e f in
    rw whole (unfed_line bytes (subst IsUnfed (sym e ∙ whole) (front_unfed bytes)) some)
last_of_lines bytes front (b ∷ back) e f is some = absurd (omega arith)

pushed : (is : Bool) (c : ℕ) (front : List ℕ) (b : ℕ) → c ∷ cond is front (front ++ b ∷ []) ≡ cond is (c ∷ front) (c ∷ front ++ b ∷ [])
pushed true c front b = refl
pushed false c front b = refl

-- what stands before the last byte, where that is a carriage return
pub without_last : (front : List ℕ) (b : ℕ) → without_return (front ++ b ∷ []) ≡ cond (b == 13) front (front ++ b ∷ [])
without_last [] b = refl
without_last (c ∷ []) b = ap (λ (line : List ℕ). c ∷ line) (without_last [] b) ∙ pushed (b == 13) c [] b
without_last (c ∷ d ∷ front) b = ap (λ (line : List ℕ). c ∷ line) (without_last (d ∷ front) b) ∙ pushed (b == 13) c (d ∷ front) b

last_byte : (line front : List ℕ) (b : ℕ) (is : Bool) → line ≡ front ++ b ∷ [] → (b == 13) ≡ is → without_return line ≡ cond is front line
last_byte line front b is e test = subst (λ (l : List ℕ). without_return l ≡ cond is front l) (sym e) (rw (sym test) (without_last front b))

-- a carriage return stands at the end
pub without_it : (line front : List ℕ) (b : ℕ) → line ≡ front ++ b ∷ [] → b ≡ 13 → front ≡ without_return line
without_it line front b e is = sym (last_byte line front b true e (rw is refl))

-- another byte does
pub as_it_is : (line front : List ℕ) (b : ℕ) → line ≡ front ++ b ∷ [] → (b == 13) ≡ false → line ≡ without_return line
as_it_is line front b e is = sym (last_byte line front b false e is)

pub nothing_is : (line : List ℕ) → length line ≡ 0 → line ≡ without_return line
nothing_is [] e = refl
nothing_is (b ∷ line) e = absurd (omega arith)

one_or_none : (is : Bool) (b : ℕ) → length (cond is [] (b ∷ [])) ≤ 1
one_or_none true b = omega arith
one_or_none false b = omega arith

pub without_return-le : (line : List ℕ) → length (without_return line) ≤ length line
without_return-le [] = omega arith
without_return-le (b ∷ []) = one_or_none (b == 13) b
without_return-le (b ∷ c ∷ line) = omega (arith, without_return-le (c ∷ line))
