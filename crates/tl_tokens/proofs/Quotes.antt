-- Two quotes in a text, of which one is kept.
use Rattle.std.proofs.Common.{◌≡◌, ℕ, suc, ◌+◌, ◌-◌, ◌<◌, get_or, ◌==◌, Bool, true, false, not, cond, List, [], ◌∷◌, ◌++◌, length, take, drop, refl, subst, sym, ap, ◌∙◌, append_assoc, arith}
use Rattle.std.proofs.lemmas.Bool.Decides.{nat_tests}
use Rattle.std.specs.Prelude.{IsUtf8}
use Rattle.std.proofs.lemmas.List.{length-drop}
use Rattle.std.proofs.lemmas.List.Sums.{passes_at_first}
use Rattle.std.proofs.lemmas.Str.{IsCharBoundary-after_ascii, IsUtf8-drop}
use Rattle.std.specs.List.{after_first, before_first, position_or_len}
use Rattle.tl_tokens.specs.Lexemes.{is_second, quote_unless, without_doubles}

-- where the first quote stands
abbrev pub place : List ℕ → ℕ
place bs = position_or_len (λ b. b == 39) bs

abbrev pub before : List ℕ → List ℕ
before bs = before_first (λ b. b == 39) bs

abbrev pub after : List ℕ → List ℕ
after bs = after_first (λ b. b == 39) bs

plain_step : (b : ℕ) (bs : List ℕ) (p : ℕ) (t : Bool) → (b == 39) ≡ t → cond (not t) (1 + p) 0 < length (b ∷ bs)
    → (p < length bs → without_doubles bs false ≡ (take p bs ++ 39 ∷ []) ++ without_doubles (drop (p + 1) bs) true)
    → b ∷ without_doubles bs t ≡ (take (cond (not t) (1 + p) 0) (b ∷ bs) ++ 39 ∷ []) ++ without_doubles (drop (cond (not t) (1 + p) 0 + 1) (b ∷ bs)) true
plain_step b bs p true e h ih = let is : b ≡ 39 = grind (arith, nat_tests) in ap (λ (x : ℕ). x ∷ without_doubles bs true) is
plain_step b bs p false e h ih =
    let one : 1 + p ≡ suc p = omega arith in
    let two : suc p + 1 ≡ suc (p + 1) = omega arith in
    rw one (rw two (ap (λ (l : List ℕ). b ∷ l) (ih (omega arith))))

pub plain : (bs : List ℕ) → place bs < length bs → without_doubles bs false ≡ (before bs ++ 39 ∷ []) ++ without_doubles (after bs) true
plain [] h = absurd (omega arith)
plain (b ∷ bs) h = plain_step b bs (place bs) (b == 39) refl h (plain bs)

second_step : (b : ℕ) (bs : List ℕ) (p : ℕ) (t : Bool) → (b == 39) ≡ t → cond (not t) (1 + p) 0 < length (b ∷ bs)
    → (p < length bs → without_doubles bs false ≡ (take p bs ++ 39 ∷ []) ++ without_doubles (drop (p + 1) bs) true)
    → cond t (without_doubles bs false) (b ∷ without_doubles bs false)
    ≡ (take (cond (not t) (1 + p) 0) (b ∷ bs) ++ quote_unless (is_second true (take (cond (not t) (1 + p) 0) (b ∷ bs))))
    ++ without_doubles (drop (cond (not t) (1 + p) 0 + 1) (b ∷ bs)) (not (is_second true (take (cond (not t) (1 + p) 0) (b ∷ bs))))
second_step b bs p true e h ih = refl
second_step b bs p false e h ih =
    let one : 1 + p ≡ suc p = omega arith in
    let two : suc p + 1 ≡ suc (p + 1) = omega arith in
    rw one (rw two (ap (λ (l : List ℕ). b ∷ l) (ih (omega arith))))

is_second-false : (bs : List ℕ) → is_second false bs ≡ false
is_second-false [] = refl
is_second-false (b ∷ bs) = refl

-- at the first quote
pub at_quote : (bs : List ℕ) (q : Bool) → place bs < length bs
    → without_doubles bs q ≡ (before bs ++ quote_unless (is_second q (before bs))) ++ without_doubles (after bs) (not (is_second q (before bs)))
at_quote bs false h = rw (is_second-false (before bs)) (plain bs h)
at_quote [] true h = absurd (omega arith)
at_quote (b ∷ bs) true h = second_step b bs (place bs) (b == 39) refl h (plain bs)

none_step : (b : ℕ) (bs : List ℕ) (p : ℕ) (t : Bool) → (b == 39) ≡ t → cond (not t) (1 + p) 0 ≡ length (b ∷ bs)
    → (p ≡ length bs → without_doubles bs false ≡ bs) → (q : Bool) → without_doubles (b ∷ bs) q ≡ b ∷ bs
none_step b bs p true e h ih q = absurd (omega arith)
none_step b bs p false e h ih true = rw e (ap (λ (l : List ℕ). b ∷ l) (ih (omega arith)))
none_step b bs p false e h ih false = rw e (ap (λ (l : List ℕ). b ∷ l) (ih (omega arith)))

-- without a quote
pub no_quote : (bs : List ℕ) (q : Bool) → place bs ≡ length bs → without_doubles bs q ≡ bs
no_quote [] q h = refl
no_quote (b ∷ bs) q h = none_step b bs (place bs) (b == 39) refl h (no_quote bs false) q

-- a turn
pub one_quote_more : (found new rest left right quoted : List ℕ) (q quote : Bool) → found ++ without_doubles rest q ≡ quoted → place rest < length rest
    → left ≡ before rest → right ≡ after rest → quote ≡ not (is_second q left) → new ≡ found ++ left ++ quote_unless (is_second q left)
    → new ++ without_doubles right quote ≡ quoted
one_quote_more found new rest left right quoted q quote kept h l r e n =
    rw n (rw e (rw l (rw r (append_assoc (found ++ before rest) (quote_unless (is_second q (before rest))) (without_doubles (after rest) (not (is_second q (before rest))))
    ∙ append_assoc found (before rest) (quote_unless (is_second q (before rest)) ++ without_doubles (after rest) (not (is_second q (before rest))))
    ∙ ap (λ (x : List ℕ). found ++ x) (sym (append_assoc (before rest) (quote_unless (is_second q (before rest))) (without_doubles (after rest) (not (is_second q (before rest))))) ∙ sym (at_quote rest q h))
    ∙ kept))))

-- the end
pub no_quote_more : (found rest new quoted result : List ℕ) (q : Bool) → found ++ without_doubles rest q ≡ quoted → place rest ≡ length rest
    → new ≡ found ++ rest → result ≡ new → result ≡ quoted
no_quote_more found rest new quoted result q kept h n r = r ∙ n ∙ ap (λ (x : List ℕ). found ++ x) (sym (no_quote rest q h)) ∙ kept

pub shorter : (bs right : List ℕ) → place bs < length bs → right ≡ after bs → length right < length bs
shorter bs right h is = let e : length (after bs) ≡ length bs - (place bs + 1) = length-drop (place bs + 1) bs in rw is (omega arith)

pub after_utf8 : (bs right : List ℕ) → IsUtf8 bs → place bs < length bs → right ≡ after bs → IsUtf8 right
after_utf8 bs right utf8 h is_after =
    let is : (get_or bs (place bs) 0 == 39) ≡ true = passes_at_first (λ b. b == 39) bs 0 h in
    let ascii : get_or bs (place bs) 0 < 128 = grind (arith, nat_tests) in
    subst IsUtf8 (sym is_after) (IsUtf8-drop bs (place bs + 1) utf8 (IsCharBoundary-after_ascii bs (place bs) utf8 h ascii))
