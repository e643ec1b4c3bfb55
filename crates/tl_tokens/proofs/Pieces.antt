-- A token of a text is a piece of it.
use Rattle.std.proofs.Common.{◌≡◌, ℕ, ◌+◌, ◌-◌, ◌<◌, ◌≤◌, ◌&&◌, min, Bool, true, false, List, [], ◌∷◌, length, drop, get_or, slice_range, refl, subst, sym, ap, ◌∙◌, arith}
use Rattle.std.proofs.lemmas.Bool.Decides.{nat_tests}
use Rattle.std.proofs.lemmas.List.Elements.{All-cons, All-nil, recursion_from_All}
use Rattle.std.proofs.lemmas.List.{get_or-drop, get_or-take, length-drop, length-take}
use Rattle.std.specs.Prelude.{All}
use Rattle.std.specs.Char.{digit_value, is_ascii_digit}
use Rattle.std.specs.List.{AllByRecursion, list_all}
use Rattle.std.specs.Str.Parse.{AllDigits}
use Rattle.tl_lex.specs.declared.token.Token.{Token}
use Rattle.tl_lex.specs.Spans.{InOrder, IsCut, begins}
use Rattle.tl_tokens.specs.Tokens.{IsPiece, IsWritten}

pub piece_of_text : (text : List ℕ) (token : Token) → IsWritten text token → IsPiece token.kind (slice_range text token.start token.end)
piece_of_text text token written =
    let order : token.start < token.end = written.order in
    let within : token.end ≤ length text = written.cut.ends.0 in
    let len : length (drop token.start text) ≡ length text - token.start = length-drop token.start text in
    let first : get_or (slice_range text token.start token.end) 0 0 ≡ get_or text token.start 0 =
    get_or-take (token.end - token.start) (drop token.start text) 0 0 (omega arith) ∙ get_or-drop token.start text 0 0
    ∙ (let e : token.start + 0 ≡ token.start = omega arith in ap (λ (i : ℕ). get_or text i 0) e) in
    record {
      some = let e : length (slice_range text token.start token.end) ≡ min (token.end - token.start) (length (drop token.start text)) = length-take (token.end - token.start) (drop token.start text) in omega arith;
      first = subst (λ (b : ℕ). begins token.kind b ≡ true) (sym first) written.cut.kind;
      spelled = written.cut.spelled;
    }

digit : (c : ℕ) → is_ascii_digit c ≡ true → digit_value c < 10
digit c h = grind (arith, nat_tests)

digits_step : (c : ℕ) (cs : List ℕ) (t s : Bool) → is_ascii_digit c ≡ t → list_all is_ascii_digit cs ≡ s → (t && s) ≡ true → (list_all is_ascii_digit cs ≡ true → AllDigits 10 cs) → AllDigits 10 (c ∷ cs)
digits_step c cs true true e f h ih = (digit c e, ih f)
digits_step c cs true false e f h ih = absurd (cc)
digits_step c cs false s e f h ih = absurd (cc)

pub all_digits : (cs : List ℕ) → list_all is_ascii_digit cs ≡ true → AllDigits 10 cs
all_digits [] h = tt
all_digits (c ∷ cs) h = digits_step c cs (is_ascii_digit c) (list_all is_ascii_digit cs) refl refl h (all_digits cs)

pub within_limit : (n : ℕ) → n ≤ 9223372036854775808 → min n 9223372036854775809 ≡ n
within_limit n h = omega arith

written_by_recursion : (text : List ℕ) (from : ℕ) (tokens : List Token) → InOrder text from tokens → AllByRecursion (IsCut text) tokens → All (IsWritten text) tokens
written_by_recursion text from [] order cut = All-nil (IsWritten text)
written_by_recursion text from (t ∷ ts) order cut = All-cons (IsWritten text) t ts (record { order = order.2; cut = cut.0 }) (written_by_recursion text t.end ts order.3 cut.1)

-- what a lexer finds
pub all_written : (text : List ℕ) (tokens : List Token) → InOrder text 0 tokens → All (IsCut text) tokens → All (IsWritten text) tokens
all_written text tokens order cut = written_by_recursion text 0 tokens order (recursion_from_All (IsCut text) tokens cut)

pub ruleset small_numbers = (all_digits, within_limit)
