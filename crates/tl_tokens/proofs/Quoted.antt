-- What stands between the quotes of a text that a lexer found.
use Rattle.std.proofs.Common.{◌≡◌, ℕ, suc, ◌+◌, ◌-◌, ◌<◌, ◌≤◌, ◌==◌, ◌&&◌, not, Bool, true, false, cond, List, [], ◌∷◌, length, take, get_or, Option, Some, None, slice_range, refl, subst, sym, ap, ◌∙◌, arith}
use Rattle.std.proofs.lemmas.Bool.Decides.{nat_tests}
use Rattle.std.proofs.lemmas.Str.{IsCharBoundary-after_ascii, IsCharBoundary-before_ascii}
use Rattle.std.specs.Prelude.{IsCharBoundary, IsUtf8, unwrap_or}
use Rattle.std.specs.Option.{option_map}
use Rattle.tl_lex.specs.declared.token.TokenKind.TheVariants as lexed
use Rattle.tl_lex.specs.Front.{rest_of_text}
use Rattle.tl_grammar.specs.Token.{unquoted, without_second_quotes}
use Rattle.tl_tokens.specs.Lexemes.{without_doubles}
use Rattle.tl_tokens.specs.Tokens.{IsPiece}

one_less : (found : Option ℕ) (n : ℕ) → option_map (λ m. m + 1) found ≡ Some (suc n) → found ≡ Some n
one_less None n e = absurd (cc)
one_less (Some m) n e = let is : m + 1 ≡ suc n = ap (λ (o : Option ℕ). unwrap_or o 0) e in ap Some (omega arith)

no_end : (n : ℕ) → Some 0 ≡ Some (suc n) → ⊥
no_end n e = let is : 0 ≡ suc n = ap (λ (o : Option ℕ). unwrap_or o 0) e in omega arith

-- a text goes on at a byte: it isn't closed before
goes_on : (t closed : Bool) (found : Option ℕ) (n : ℕ) → cond (closed && not t) (Some 0) (option_map (λ m. m + 1) found) ≡ Some (suc n) → (closed ≡ true → t ≡ true) × (found ≡ Some n)
goes_on true true found n e = ((λ h. refl), one_less found n e)
goes_on false true found n e = absurd (no_end n e)
goes_on true false found n e = ((λ h. refl), one_less found n e)
goes_on false false found n e = ((λ h. absurd (cc)), one_less found n e)

-- its bytes but the last one
abbrev pub inner : List ℕ → List ℕ
inner [] = []
inner (b ∷ []) = []
inner (b ∷ c ∷ cs) = b ∷ inner (c ∷ cs)

inner_is : (cs : List ℕ) → take (length cs - 1) cs ≡ inner cs
inner_is [] = refl
inner_is (b ∷ []) = let e : length (b ∷ []) - 1 ≡ 0 = omega arith in ap (λ (n : ℕ). take n (b ∷ [])) e
inner_is (b ∷ c ∷ cs) =
    let e : length (b ∷ c ∷ cs) - 1 ≡ suc (length (c ∷ cs) - 1) = omega arith in
    ap (λ (n : ℕ). take n (b ∷ c ∷ cs)) e ∙ ap (λ (l : List ℕ). b ∷ l) (inner_is (c ∷ cs))

abbrev Same : Bool → List ℕ → Type 0
Same closed bytes = without_doubles bytes closed ≡ without_second_quotes bytes closed

same_step : (b : ℕ) (bytes : List ℕ) (t closed : Bool) → (b == 39) ≡ t → (closed ≡ true → t ≡ true) → Same (t && not closed) bytes → Same closed (b ∷ bytes)
same_step b bytes true true e must h = rw e h
same_step b bytes false true e must h = absurd (let f : false ≡ true = must refl in cc)
same_step b bytes true false e must h = rw e (ap (λ (l : List ℕ). b ∷ l) h)
same_step b bytes false false e must h = rw e (ap (λ (l : List ℕ). b ∷ l) h)

same : (cs : List ℕ) (closed : Bool) → rest_of_text closed cs ≡ Some (length cs) → Same closed (inner cs)
same [] closed e = refl
same (b ∷ []) closed e = refl
same (b ∷ c ∷ cs) closed e =
    let on = goes_on (b == 39) closed (rest_of_text ((b == 39) && not closed) (c ∷ cs)) (length (c ∷ cs)) e in
    same_step b (inner (c ∷ cs)) (b == 39) closed refl on.0 (same (c ∷ cs) ((b == 39) && not closed) on.1)

closes : (t closed : Bool) (b : ℕ) → (b == 39) ≡ t → cond {A = Option ℕ} (t && not closed) (Some 0) None ≡ Some 0 → b ≡ 39
closes true closed b e h = grind (arith, nat_tests)
closes false closed b e h = absurd (cc)

last : (cs : List ℕ) (closed : Bool) → 0 < length cs → rest_of_text closed cs ≡ Some (length cs) → get_or cs (length cs - 1) 0 ≡ 39
last [] closed some e = absurd (omega arith)
last (b ∷ []) closed some e =
    let on = goes_on (b == 39) closed (rest_of_text ((b == 39) && not closed) []) 0 e in
    let at : length (b ∷ []) - 1 ≡ 0 = omega arith in
    ap (λ (i : ℕ). get_or (b ∷ []) i 0) at ∙ closes (b == 39) closed b refl on.1
last (b ∷ c ∷ cs) closed some e =
    let on = goes_on (b == 39) closed (rest_of_text ((b == 39) && not closed) (c ∷ cs)) (length (c ∷ cs)) e in
    let at : length (b ∷ c ∷ cs) - 1 ≡ suc (length (c ∷ cs) - 1) = omega arith in
    ap (λ (i : ℕ). get_or (b ∷ c ∷ cs) i 0) at ∙ last (c ∷ cs) ((b == 39) && not closed) (omega arith) on.1

behind_quote : (b : ℕ) (bytes : List ℕ) → IsPiece lexed.Text (b ∷ bytes) → rest_of_text false bytes ≡ Some (length bytes)
behind_quote b bytes piece = let e : length (b ∷ bytes) - 1 ≡ length bytes = omega arith in piece.spelled ∙ ap Some e

-- two quotes at least
pub two : (bytes : List ℕ) → IsPiece lexed.Text bytes → 2 ≤ length bytes
two [] piece = absurd (let some : 0 < 0 = piece.some in omega arith)
two (b ∷ []) piece = absurd (let e : None ≡ Some 0 = behind_quote b [] piece in cc)
two (b ∷ c ∷ bytes) piece = omega arith

pub after_first_quote : (bytes : List ℕ) → IsUtf8 bytes → IsPiece lexed.Text bytes → IsCharBoundary bytes 1
after_first_quote bytes utf8 piece =
    let is : (get_or bytes 0 0 == 39) ≡ true = piece.first in
    let ascii : get_or bytes 0 0 < 128 = grind (arith, nat_tests) in
    IsCharBoundary-after_ascii bytes 0 utf8 piece.some ascii

last_byte : (bytes : List ℕ) → IsPiece lexed.Text bytes → get_or bytes (length bytes - 1) 0 ≡ 39
last_byte [] piece = absurd (let some : 0 < 0 = piece.some in omega arith)
last_byte (b ∷ []) piece = absurd (let e : None ≡ Some 0 = behind_quote b [] piece in cc)
last_byte (b ∷ c ∷ bytes) piece =
    let at : length (b ∷ c ∷ bytes) - 1 ≡ suc (length (c ∷ bytes) - 1) = omega arith in
    ap (λ (i : ℕ). get_or (b ∷ c ∷ bytes) i 0) at ∙ last (c ∷ bytes) false (omega arith) (behind_quote b (c ∷ bytes) piece)

pub before_last_quote : (bytes : List ℕ) → IsPiece lexed.Text bytes → IsCharBoundary bytes (length bytes - 1)
before_last_quote bytes piece =
    let some : 0 < length bytes = piece.some in
    let is : get_or bytes (length bytes - 1) 0 ≡ 39 = last_byte bytes piece in
    IsCharBoundary-before_ascii bytes (length bytes - 1) (omega arith) (omega arith)

pub between : (bytes : List ℕ) → IsPiece lexed.Text bytes → without_doubles (slice_range bytes 1 (length bytes - 1)) false ≡ unquoted bytes
between [] piece = absurd (let some : 0 < 0 = piece.some in omega arith)
between (b ∷ bytes) piece =
    let one : length (b ∷ bytes) - 1 - 1 ≡ length bytes - 1 = omega arith in
    let twice : length bytes - 1 ≡ length (b ∷ bytes) - 2 = omega arith in
    ap (λ (n : ℕ). without_doubles (take n bytes) false) one
    ∙ subst (Same false) (sym (inner_is bytes)) (same bytes false (behind_quote b bytes piece))
    ∙ ap (λ (n : ℕ). without_second_quotes (take n bytes) false) twice

pub ruleset quoted = (two, after_first_quote, before_last_quote, between)
