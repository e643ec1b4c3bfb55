-- Where the tokens of a text stand.
use Rattle.std.proofs.Common.{◌≡◌, ℕ, zero, suc, ◌+◌, ◌-◌, ◌<◌, ◌≤◌, ◌==◌, Bool, true, false, cond, List, [], ◌∷◌, length, take, drop, get_or, Option, Some, None, Result, Ok, Err, refl, subst, arith, sym, ap, slice_range}
use Rattle.std.specs.Prelude.{IsUtf8, IsCharBoundary, IfOk, IfErr, All, codes}
use Rattle.std.proofs.lemmas.Bool.Decides.{nat_tests}
use Rattle.std.proofs.lemmas.List.{get_or-drop, length-drop}
use Rattle.std.proofs.lemmas.List.Elements.{All-nil, All-cons}
use Rattle.std.proofs.lemmas.List.Sums.{prefix_len-le-length}
use Rattle.std.specs.List.{list_all, prefix_len}
use Rattle.std.specs.Str.Parse.{digits_value}
use Rattle.std.proofs.lemmas.Str.{IsCharBoundary-before_ascii, IsCharBoundary-after_ascii}
use Rattle.tl_lex.specs.declared.before.Before.{Before}
use Rattle.tl_lex.specs.declared.before.Before.TheVariants.{Free, Minus, Value}
use Rattle.tl_lex.specs.declared.fault.LexError.{LexError}
use Rattle.tl_lex.specs.declared.fault.LexError.TheVariants as error
use Rattle.tl_lex.specs.declared.fault.LexFault.{LexFault}
use Rattle.tl_lex.specs.declared.fault.LexKind.{LexKind}
use Rattle.tl_lex.specs.declared.token.Token.{Token}
use Rattle.tl_lex.specs.declared.token.TokenKind.{TokenKind}
use Rattle.tl_lex.specs.declared.token.TokenKind.TheVariants as kind
use Rattle.tl_lex.specs.Before.{after, after_minus}
use Rattle.tl_lex.specs.Front.{is_blank, token_at}
use Rattle.tl_lex.specs.Lexed.{Gives, ◌>>=◌, and_behind, bytes_of, lexed, next_token, past_blanks, placed, tokens_from}
use Rattle.tl_lex.specs.Spans.{AreBlank, AreSigned, InOrder, IsCut, IsPlaced, IsSpelled, begins, goes_on, fault_begins}
use Rattle.tl_lex.proofs.Fronts.{Fronts, IsSmall, run_all, run_stops, token_front}

-- a token behind this place
record IsFound (text : List ℕ) (before : Before) (at : ℕ) (token : Token) : Type 0 where
  pub behind : at ≤ token.start
  pub blank : AreBlank text at token.start
  pub some : token.start < token.end
  pub within : token.end ≤ length text
  pub kind : begins token.kind (get_or text token.start 0) ≡ true
  pub last : get_or text (token.end - 1) 0 < 128
  pub spelled : IsSpelled token.kind (slice_range text token.start token.end)
  pub longest : goes_on token.kind (slice_range text token.start token.end) (get_or text token.end 0) ≡ false
  pub small : IsSmall before token.kind (slice_range text token.start token.end)

-- a fault at its place
abbrev Faulty : List ℕ → LexFault → Type 0
Faulty text wrong = (wrong.at < length text) × (fault_begins wrong.kind (get_or text wrong.at 0) ≡ true)

abbrev FoundAt : List ℕ → Before → ℕ → Result (Option Token) LexFault → Type 0
FoundAt text before at (Ok None) = AreBlank text at (length text)
FoundAt text before at (Ok (Some token)) = IsFound text before at token
FoundAt text before at (Err wrong) = Faulty text wrong

-- where the blanks end
record IsPast (text : List ℕ) (at start : ℕ) : Type 0 where
  pub behind : at ≤ start
  pub within : start ≤ length text
  pub blank : AreBlank text at start
  pub stops : is_blank (get_or text start 0) ≡ false

past : (text : List ℕ) (at : ℕ) → at ≤ length text → IsPast text at (past_blanks text at)
past text at within =
    let len : past_blanks text at - at ≡ prefix_len is_blank (drop at text) = omega arith in
    record {
      behind = omega arith;
      within = omega (arith, prefix_len-le-length is_blank (drop at text), length-drop at text);
      blank = subst (λ (n : ℕ). list_all is_blank (take n (drop at text)) ≡ true) (sym len) (run_all is_blank (drop at text));
      stops = subst (λ (b : ℕ). is_blank b ≡ false) (get_or-drop at text (prefix_len is_blank (drop at text)) 0) (run_stops is_blank (drop at text) refl);
    }

placed_found : (text : List ℕ) (before : Before) (at start : ℕ) (found : Result (TokenKind × ℕ) LexKind) → IsPast text at start → start < length text
    → Fronts before (drop start text) found → FoundAt text before at (placed start found)
placed_found text before at start (Ok found) past within front =
    let some : 0 < found.1 = front.some in
    let inside : found.1 ≤ length (drop start text) = front.within in
    let here : start + 0 ≡ start = omega arith in
    let there : start + (found.1 - 1) ≡ start + found.1 - 1 = omega arith in
    let len : start + found.1 - start ≡ found.1 = omega arith in
    record {
      behind = past.behind;
      blank = past.blank;
      some = omega arith;
      within = omega (arith, length-drop start text);
      kind = subst (λ (i : ℕ). begins found.0 (get_or text i 0) ≡ true) here (subst (λ (b : ℕ). begins found.0 b ≡ true) (get_or-drop start text 0 0) front.kind);
      spelled = subst (λ (n : ℕ). IsSpelled found.0 (take n (drop start text))) (sym len) front.spelled;
      last = subst (λ (i : ℕ). get_or text i 0 < 128) there (subst (λ (b : ℕ). b < 128) (get_or-drop start text (found.1 - 1) 0) front.last);
      longest =
          subst (λ (n : ℕ). goes_on found.0 (take n (drop start text)) (get_or text (start + found.1) 0) ≡ false) (sym len)
          (subst (λ (b : ℕ). goes_on found.0 (take found.1 (drop start text)) b ≡ false) (get_or-drop start text found.1 0) front.longest);
      small = subst (λ (n : ℕ). IsSmall before found.0 (take n (drop start text))) (sym len) front.small;
    }
placed_found text before at start (Err wrong) past within front =
    let here : start + 0 ≡ start = omega arith in
    let same : get_or (drop start text) 0 0 ≡ get_or text start 0 = subst (λ (i : ℕ). get_or (drop start text) 0 0 ≡ get_or text i 0) here (get_or-drop start text 0 0) in
    (within, subst (λ (b : ℕ). fault_begins wrong b ≡ true) same (front (subst (λ (b : ℕ). is_blank b ≡ false) (sym same) past.stops)))

found_unless : (text : List ℕ) (before : Before) (at start : ℕ) (test : Bool) (found : Result (TokenKind × ℕ) LexKind) → (start == length text) ≡ test → IsPast text at start
    → Fronts before (drop start text) found → FoundAt text before at (cond test (Ok None) (placed start found))
found_unless text before at start true found e past front =
    let over : start ≡ length text = grind (arith, nat_tests) in
    subst (AreBlank text at) over past.blank
found_unless text before at start false found e past front =
    let most : start ≤ length text = past.within in
    let inside : start < length text = grind (arith, nat_tests) in
    placed_found text before at start found past inside front

next_found : (text : List ℕ) (before : Before) (at : ℕ) → at ≤ length text → FoundAt text before at (next_token text before at)
unfolding next_token
next_found text before at within =
    found_unless text before at (past_blanks text at) (past_blanks text at == length text) (token_at before (drop (past_blanks text at) text)) refl (past text at within)
    (token_front before (drop (past_blanks text at) text))

begins-lt : (sort : TokenKind) (b : ℕ) → begins sort b ≡ true → b < 128
begins-lt kind.Name b h = grind (arith, nat_tests)
begins-lt kind.Number b h = grind (arith, nat_tests)
begins-lt kind.Text b h = grind (arith, nat_tests)
begins-lt kind.Sign b h = grind (arith, nat_tests)

found_cut : (text : List ℕ) (before : Before) (at : ℕ) (token : Token) → IsUtf8 text → IsFound text before at token → IsCut text token
found_cut text before at token utf8 found =
    let some : token.start < token.end = found.some in
    let within : token.end ≤ length text = found.within in
    let e : token.end - 1 + 1 ≡ token.end = omega arith in
    record {
      starts = IsCharBoundary-before_ascii text token.start (omega arith) (begins-lt token.kind _ found.kind);
      ends = subst (IsCharBoundary text) e (IsCharBoundary-after_ascii text (token.end - 1) utf8 (omega arith) found.last);
      kind = found.kind;
      spelled = found.spelled;
      longest = λ _. found.longest;
    }

-- a minus sign that begins a literal is the token of these bytes
abbrev Tells : List ℕ → Before → Type 0
Tells last before = before ≡ Minus → last ≡ codes "-"

name_tells : (last : List ℕ) (test : Bool) → Tells last (cond test Free Value)
name_tells last true = λ e. absurd (cc)
name_tells last false = λ e. absurd (cc)

abbrev len_of : Result (TokenKind × ℕ) LexKind → ℕ
len_of (Ok found) = found.1
len_of (Err wrong) = 0

-- 45 is `-`
minus_alone : (b : ℕ) (bytes : List ℕ) → b ≡ 45 → IsSpelled kind.Sign (b ∷ bytes) → b ∷ bytes ≡ codes "-"
minus_alone b [] e spelled = rw e refl
minus_alone b (c ∷ bytes) e spelled =
    let alone = rw e at spelled in
    let one : 1 ≡ suc (suc (length bytes)) = ap len_of alone in
    absurd (omega arith)

sign_tells : (before : Before) (b : ℕ) (bytes : List ℕ) (closes minus : Bool) → (b == 45) ≡ minus → IsSpelled kind.Sign (b ∷ bytes)
    → Tells (b ∷ bytes) (cond closes Value (cond minus (after_minus before) Free))
sign_tells before b bytes true minus e spelled = λ f. absurd (cc)
sign_tells before b bytes false false e spelled = λ f. absurd (cc)
sign_tells before b bytes false true e spelled = λ f. minus_alone b bytes (grind (arith, nat_tests)) spelled

after_tells : (before : Before) (sort : TokenKind) (bytes : List ℕ) → IsSpelled sort bytes → Tells bytes (after before sort bytes)
after_tells before kind.Name bytes spelled = name_tells bytes _
after_tells before kind.Number bytes spelled = λ e. absurd (cc)
after_tells before kind.Text bytes spelled = λ e. absurd (cc)
after_tells before kind.Sign [] spelled = λ e. absurd (cc)
after_tells before kind.Sign (b ∷ bytes) spelled = sign_tells before b bytes (b == 41) (b == 45) refl spelled

number_signed : (before : Before) (last bytes : List ℕ) → Tells last before → IsSmall before kind.Number bytes → 9223372036854775807 < digits_value 10 bytes → last ≡ codes "-"
number_signed Free last bytes tells small = λ great. absurd (omega arith)
number_signed Minus last bytes tells small = λ great. tells refl
number_signed Value last bytes tells small = λ great. absurd (omega arith)

small_signed : (before : Before) (last : List ℕ) (sort : TokenKind) (bytes : List ℕ) → Tells last before → IsSmall before sort bytes
    → sort ≡ kind.Number → 9223372036854775807 < digits_value 10 bytes → last ≡ codes "-"
small_signed before last kind.Number bytes tells small = λ e. number_signed before last bytes tells small
small_signed before last kind.Name bytes tells small = λ e. absurd (cc)
small_signed before last kind.Text bytes tells small = λ e. absurd (cc)
small_signed before last kind.Sign bytes tells small = λ e. absurd (cc)

-- all of them, or the first fault
record AllStand (text : List ℕ) (last : List ℕ) (at : ℕ) (tokens : List Token) : Type 0 where
  pub in_order : InOrder text at tokens
  pub cut : All (IsCut text) tokens
  pub signed : AreSigned text last tokens

abbrev Stand : List ℕ → List ℕ → ℕ → Result (List Token) LexFault → Type 0
Stand text last at (Ok tokens) = AllStand text last at tokens
Stand text last at (Err wrong) = Faulty text wrong

stand_behind : (text last : List ℕ) (before : Before) (at : ℕ) (token : Token) (behind : Result (List Token) LexFault) → IsUtf8 text → Tells last before
    → IsFound text before at token → Stand text (bytes_of text token) token.end behind → Stand text last at (behind >>= λ more. Ok (token ∷ more))
stand_behind text last before at token (Ok more) utf8 tells found stand =
    record {
      in_order = (found.behind, found.blank, found.some, stand.in_order);
      cut = All-cons (IsCut text) token more (found_cut text before at token utf8 found) stand.cut;
      signed = (small_signed before last token.kind (bytes_of text token) tells found.small, stand.signed);
    }
stand_behind text last before at token (Err wrong) utf8 tells found stand = stand

stand_from : (text last : List ℕ) (before : Before) (at : ℕ) (found : Result (Option Token) LexFault) (behind : Token → Result (List Token) LexFault) → IsUtf8 text → at ≤ length text → Tells last before
    → FoundAt text before at found → ((token : Token) → IsFound text before at token → Stand text (bytes_of text token) token.end (behind token))
    → Stand text last at (found >>= λ token. and_behind token behind)
stand_from text last before at (Ok None) behind utf8 within tells found stand = record { in_order = (within, found); cut = All-nil (IsCut text); signed = tt }
stand_from text last before at (Ok (Some token)) behind utf8 within tells found stand = stand_behind text last before at token (behind token) utf8 tells found (stand token found)
stand_from text last before at (Err wrong) behind utf8 within tells found stand = found

-- where enough turns are left
tokens_stand : (turns : ℕ) (text last : List ℕ) (before : Before) (at : ℕ) → IsUtf8 text → at ≤ length text → length text < at + turns → Tells last before
    → Stand text last at (tokens_from turns text before at)
unfolding tokens_from
tokens_stand zero text last before at utf8 within enough tells = absurd (omega arith)
tokens_stand (suc turns) text last before at utf8 within enough tells =
    stand_from text last before at (next_token text before at) (λ token. tokens_from turns text (after before token.kind (bytes_of text token)) token.end) utf8 within tells
    (next_found text before at within)
    (λ token found.
    let behind : at ≤ token.start = found.behind in
    let some : token.start < token.end = found.some in
    tokens_stand turns text (bytes_of text token) (after before token.kind (bytes_of text token)) token.end utf8 found.within (omega arith)
    (after_tells before token.kind (bytes_of text token) found.spelled))

lexed_stand : (text : List ℕ) → IsUtf8 text → Stand text [] 0 (lexed text)
unfolding lexed
lexed_stand text utf8 = tokens_stand (length text + 1) text [] Free 0 utf8 (omega arith) (omega arith) (λ e. absurd (cc))

-- what was answered
pub order_given : (text : List ℕ) (result : Result (List Token) LexError) → IsUtf8 text → Gives result (lexed text) → IfOk result (λ tokens. InOrder text 0 tokens)
order_given text (Ok tokens) utf8 e = (subst (Stand text [] 0) e (lexed_stand text utf8)).in_order
order_given text (Err error) utf8 e = tt

pub cut_given : (text : List ℕ) (result : Result (List Token) LexError) → IsUtf8 text → Gives result (lexed text) → IfOk result (λ tokens. All (IsCut text) tokens)
cut_given text (Ok tokens) utf8 e = (subst (Stand text [] 0) e (lexed_stand text utf8)).cut
cut_given text (Err error) utf8 e = tt

pub signed_given : (text : List ℕ) (result : Result (List Token) LexError) → IsUtf8 text → Gives result (lexed text) → IfOk result (λ tokens. AreSigned text [] tokens)
signed_given text (Ok tokens) utf8 e = (subst (Stand text [] 0) e (lexed_stand text utf8)).signed
signed_given text (Err error) utf8 e = tt

pub place_given : (text : List ℕ) (result : Result (List Token) LexError) → IsUtf8 text → Gives result (lexed text) → IfErr result (λ e. IsPlaced text e)
place_given text (Ok tokens) utf8 e = tt
place_given text (Err error.NoMemory) utf8 e = tt
place_given text (Err (error.Fault wrong)) utf8 e = subst (Stand text [] 0) e (lexed_stand text utf8)
