-- A text up to its closing quote.
use Rattle.std.proofs.Common.{◌≡◌, ℕ, ◌+◌, ◌<◌, ◌&&◌, not, Bool, true, false, cond, List, length, drop, get_or, Option, Some, None, refl, sym, ap, arith, add-one, drop-cons}
use Rattle.std.proofs.lemmas.List.{drop_all}
use Rattle.std.specs.Option.{option_map}
use Rattle.tl_lex.specs.Front.{is_quote, rest_of_text}

-- counted from this place on
abbrev pub counted : ℕ → Option ℕ → Option ℕ
counted i found = option_map (λ n. n + i) found

counted_more : (i : ℕ) (found : Option ℕ) → counted i (option_map (λ n. n + 1) found) ≡ counted (i + 1) found
counted_more i None = refl
counted_more i (Some n) = ap Some (omega arith)

counted_none : (found : Option ℕ) → counted 0 found ≡ found
counted_none None = refl
counted_none (Some n) = ap Some (omega arith)

-- the next byte
abbrev step : ℕ → Bool → List ℕ → Option ℕ
step b closed bytes = cond (closed && not (is_quote b)) (Some 0) (option_map (λ n. n + 1) (rest_of_text (is_quote b && not closed) bytes))

at_byte : (bytes : List ℕ) (i : ℕ) (closed : Bool) → i < length bytes → rest_of_text closed (drop i bytes) ≡ step (get_or bytes i 0) closed (drop (i + 1) bytes)
at_byte bytes i closed within = rw (add-one, drop-cons bytes i 0) refl

pub text_begins : (bytes : List ℕ) → counted 0 (rest_of_text false (drop 0 bytes)) ≡ rest_of_text false bytes
text_begins bytes = counted_none (rest_of_text false bytes)

step_on : (i : ℕ) (q closed : Bool) (more : Option ℕ) → (closed && not q) ≡ false → counted i (cond (closed && not q) (Some 0) (option_map (λ n. n + 1) more)) ≡ counted (i + 1) more
step_on i q closed more h = rw h (counted_more i more)

-- a byte that doesn't end it
pub text_goes_on : (bytes : List ℕ) (i : ℕ) (closed : Bool) → i < length bytes → (closed && not (is_quote (get_or bytes i 0))) ≡ false
    → counted (i + 1) (rest_of_text (is_quote (get_or bytes i 0) && not closed) (drop (i + 1) bytes)) ≡ counted i (rest_of_text closed (drop i bytes))
text_goes_on bytes i closed within h =
    rw (at_byte bytes i closed within) (sym (step_on i (is_quote (get_or bytes i 0)) closed (rest_of_text (is_quote (get_or bytes i 0) && not closed) (drop (i + 1) bytes)) h))

-- the byte behind its end
pub text_ends : (bytes : List ℕ) (i : ℕ) (closed : Bool) → i < length bytes → (closed && not (is_quote (get_or bytes i 0))) ≡ true
    → counted i (rest_of_text closed (drop i bytes)) ≡ Some i
text_ends bytes i closed within h = rw (at_byte bytes i closed within) (rw h (ap Some (omega arith)))

-- no byte is left
pub text_over : (bytes : List ℕ) (i : ℕ) (closed : Bool) → i ≡ length bytes → counted i (rest_of_text closed (drop i bytes)) ≡ cond closed (Some i) None
text_over bytes i true e = rw (drop_all i bytes (omega arith)) (ap Some (omega arith))
text_over bytes i false e = rw (drop_all i bytes (omega arith)) refl

pub ruleset texts = (text_begins, text_goes_on, text_ends, text_over)
