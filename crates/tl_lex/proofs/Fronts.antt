-- The token at the front of bytes is some of them, its first and last bytes are ASCII, and the byte behind is none of it.
use Rattle.std.proofs.Common.{◌≡◌, ℕ, zero, suc, ◌+◌, ◌-◌, ◌<◌, ◌≤◌, ◌&&◌, ◌||◌, not, Bool, true, false, cond, List, [], ◌∷◌, length, take, get_or, Option, Some, None, Result, Ok, Err, refl, sym, subst, arith, add-one}
use Rattle.std.specs.Prelude.{nat_le}
use Rattle.std.specs.List.{list_all}
use Rattle.std.proofs.lemmas.List.{length-take}
use Rattle.std.proofs.lemmas.List.Folds.{length-prefix_len}
use Rattle.std.proofs.lemmas.Bool.Decides.{nat_tests}
use Rattle.std.proofs.lemmas.List.Sums.{prefix_len-le-length, prefix_len_passes}
use Rattle.std.specs.Char.{is_ascii_digit}
use Rattle.std.specs.List.{prefix_len}
use Rattle.std.specs.Option.{option_map}
use Rattle.std.specs.Str.Parse.{digits_value}
use Rattle.tl_lex.specs.declared.before.Before.{Before}
use Rattle.tl_lex.specs.declared.before.Before.TheVariants as before
use Rattle.tl_lex.specs.declared.fault.LexKind.{LexKind}
use Rattle.tl_lex.specs.declared.fault.LexKind.TheVariants.{BadCharacter, LongName, Wide}
use Rattle.tl_lex.specs.declared.token.TokenKind.{TokenKind}
use Rattle.tl_lex.specs.declared.token.TokenKind.TheVariants as kind
use Rattle.tl_lex.specs.Front.{greatest, in_name, is_blank, is_letter, is_long_sign, is_quote, is_short_sign, name_at, number_at, rest_of_text, closed_text, short_sign_at, sign_at, text_at, token_at}
use Rattle.tl_lex.specs.Spans.{IsSpelled, begins, goes_on, fault_begins}

-- a number that may stand here
abbrev pub IsSmall : Before → TokenKind → List ℕ → Type 0
IsSmall before kind.Number bytes = digits_value 10 bytes ≤ greatest before
IsSmall before kind.Name bytes = Unit {0}
IsSmall before kind.Text bytes = Unit {0}
IsSmall before kind.Sign bytes = Unit {0}

pub record IsFront (before : Before) (bytes : List ℕ) (sort : TokenKind) (len : ℕ) : Type 0 where
  pub some : 0 < len
  pub within : len ≤ length bytes
  pub kind : begins sort (get_or bytes 0 0) ≡ true
  pub last : get_or bytes (len - 1) 0 < 128
  pub spelled : IsSpelled sort (take len bytes)
  pub longest : goes_on sort (take len bytes) (get_or bytes len 0) ≡ false
  pub small : IsSmall before sort (take len bytes)

abbrev pub Fronts : Before → List ℕ → Result (TokenKind × ℕ) LexKind → Type 0
Fronts before bytes (Ok found) = IsFront before bytes found.0 found.1
Fronts before bytes (Err wrong) = is_blank (get_or bytes 0 0) ≡ false → fault_begins wrong (get_or bytes 0 0) ≡ true

kept : (test : Bool) (before : Before) (bytes : List ℕ) (sort : TokenKind) (len : ℕ) (wrong : LexKind) → fault_begins wrong (get_or bytes 0 0) ≡ true
    → (test ≡ true → IsFront before bytes sort len) → Fronts before bytes (cond test (Ok (sort, len)) (Err wrong))
kept true before bytes sort len wrong at front = front refl
kept false before bytes sort len wrong at front = λ k. at

in_name-lt : (b : ℕ) → in_name b ≡ true → b < 128
in_name-lt b h = grind (arith, nat_tests)

is_digit-lt : (b : ℕ) → is_ascii_digit b ≡ true → b < 128
is_digit-lt b h = grind (arith, nat_tests)

is_quote-lt : (b : ℕ) → is_quote b ≡ true → b < 128
is_quote-lt b h = grind (arith, nat_tests)

letter_in_name : (b : ℕ) → is_letter b ≡ true → in_name b ≡ true
letter_in_name b h = rw h refl

-- bytes from the front on that pass
run_some : (p : ℕ → Bool) (b : ℕ) (bytes : List ℕ) → p b ≡ true → 0 < prefix_len p (b ∷ bytes)
run_some p b bytes h = rw h (omega arith)

run_last : (p : ℕ → Bool) (bytes : List ℕ) → 0 < prefix_len p bytes → p (get_or bytes (prefix_len p bytes - 1) 0) ≡ true
run_last p bytes h = prefix_len_passes p bytes (prefix_len p bytes - 1) 0 (omega arith)

run_all_from : (test : Bool) (p : ℕ → Bool) (b n : ℕ) (bytes : List ℕ) → p b ≡ test → list_all p (take n bytes) ≡ true → list_all p (take (cond test (1 + n) 0) (b ∷ bytes)) ≡ true
run_all_from true p b n bytes e all = let more : 1 + n ≡ suc n = omega arith in rw (more, e) all
run_all_from false p b n bytes e all = refl

pub run_all : (p : ℕ → Bool) (bytes : List ℕ) → list_all p (take (prefix_len p bytes) bytes) ≡ true
run_all p [] = refl
run_all p (b ∷ bytes) = run_all_from (p b) p b (prefix_len p bytes) bytes refl (run_all p bytes)

-- and the byte behind them doesn't
run_stops_from : (test : Bool) (p : ℕ → Bool) (b n : ℕ) (bytes : List ℕ) → p b ≡ test → p (get_or bytes n 0) ≡ false → p (get_or (b ∷ bytes) (cond test (1 + n) 0) 0) ≡ false
run_stops_from true p b n bytes e stops = let more : 1 + n ≡ suc n = omega arith in rw more stops
run_stops_from false p b n bytes e stops = e

pub run_stops : (p : ℕ → Bool) (bytes : List ℕ) → p 0 ≡ false → p (get_or bytes (prefix_len p bytes) 0) ≡ false
run_stops p [] zero_stops = zero_stops
run_stops p (b ∷ bytes) zero_stops = run_stops_from (p b) p b (prefix_len p bytes) bytes refl (run_stops p bytes zero_stops)

at_most : (a b : ℕ) → nat_le a b ≡ true → a ≤ b
at_most a b h = grind (arith, nat_tests)

name_front : (before : Before) (b : ℕ) (bytes : List ℕ) → is_letter b ≡ true → Fronts before (b ∷ bytes) (name_at (b ∷ bytes))
name_front before b bytes h =
    let some : 0 < prefix_len in_name (b ∷ bytes) = run_some in_name b bytes (letter_in_name b h) in
    kept _ before (b ∷ bytes) kind.Name (prefix_len in_name (b ∷ bytes)) LongName h (λ few. record {
      some = some;
      within = prefix_len-le-length in_name (b ∷ bytes);
      kind = h;
      last = in_name-lt _ (run_last in_name (b ∷ bytes) some);
      spelled = (run_all in_name (b ∷ bytes), subst (λ (n : ℕ). n ≤ 31) (sym (length-prefix_len in_name (b ∷ bytes))) (at_most _ 31 few));
      longest = run_stops in_name (b ∷ bytes) refl;
      small = tt;
    })

greatest-le : (before : Before) → greatest before ≤ 9223372036854775808
greatest-le before.Free = omega arith
greatest-le before.Minus = omega arith
greatest-le before.Value = omega arith

number_front : (before : Before) (b : ℕ) (bytes : List ℕ) → is_ascii_digit b ≡ true → Fronts before (b ∷ bytes) (number_at before (b ∷ bytes))
number_front before b bytes h =
    let some : 0 < prefix_len is_ascii_digit (b ∷ bytes) = run_some is_ascii_digit b bytes h in
    kept _ before (b ∷ bytes) kind.Number (prefix_len is_ascii_digit (b ∷ bytes)) Wide h (λ few. record {
      some = some;
      within = prefix_len-le-length is_ascii_digit (b ∷ bytes);
      kind = h;
      last = is_digit-lt _ (run_last is_ascii_digit (b ∷ bytes) some);
      spelled = (run_all is_ascii_digit (b ∷ bytes), omega (arith, at_most _ _ few, greatest-le before));
      longest = run_stops is_ascii_digit (b ∷ bytes) refl;
      small = at_most _ _ few;
    })

-- behind this byte the text ends with a quote
abbrev Closes : ℕ → List ℕ → Option ℕ → Type 0
Closes c bytes None = Unit {0}
Closes c bytes (Some n) = (n ≤ length bytes) × (is_quote (get_or (c ∷ bytes) n 0) ≡ true)

closes_here : (c : ℕ) (bytes : List ℕ) (closed : Bool) → (closed ≡ true → is_quote c ≡ true) → Closes c bytes (cond closed (Some 0) None)
closes_here c bytes true h = (omega arith, h refl)
closes_here c bytes false h = tt

closes_later : (c b : ℕ) (bytes : List ℕ) (found : Option ℕ) → Closes b bytes found → Closes c (b ∷ bytes) (option_map (λ n. n + 1) found)
closes_later c b bytes None h = tt
closes_later c b bytes (Some n) h = rw add-one (omega arith, h.1)

closes_either : (c b : ℕ) (bytes : List ℕ) (closed q : Bool) (found : Option ℕ) → (closed ≡ true → is_quote c ≡ true) → Closes b bytes found
    → Closes c (b ∷ bytes) (cond (closed && not q) (Some 0) (option_map (λ n. n + 1) found))
closes_either c b bytes false q found h later = closes_later c b bytes found later
closes_either c b bytes true true found h later = closes_later c b bytes found later
closes_either c b bytes true false found h later = (omega arith, h refl)

and_first : (p q : Bool) → (p && q) ≡ true → p ≡ true
and_first true q h = refl
and_first false q h = h

some_same : (m n : ℕ) → Some m ≡ Some n → m ≡ n
some_same m n h = cc

text_closes : (c : ℕ) (closed : Bool) (bytes : List ℕ) → (closed ≡ true → is_quote c ≡ true) → Closes c bytes (rest_of_text closed bytes)
text_closes c closed [] h = closes_here c [] closed h
text_closes c closed (b ∷ bytes) h =
    closes_either c b bytes closed (is_quote b) (rest_of_text (is_quote b && not closed) bytes) h
    (text_closes b (is_quote b && not closed) bytes (and_first (is_quote b) (not closed)))

-- and no quote stands behind it
abbrev Stops : List ℕ → Option ℕ → Type 0
Stops bytes None = Unit {0}
Stops bytes (Some n) = is_quote (get_or bytes n 0) ≡ false

stops_over : (closed : Bool) → Stops [] (cond closed (Some 0) None)
stops_over true = refl
stops_over false = tt

stops_later : (b : ℕ) (bytes : List ℕ) (found : Option ℕ) → Stops bytes found → Stops (b ∷ bytes) (option_map (λ n. n + 1) found)
stops_later b bytes None h = tt
stops_later b bytes (Some n) h = rw add-one h

stops_either : (b : ℕ) (bytes : List ℕ) (closed q : Bool) (found : Option ℕ) → is_quote b ≡ q → Stops bytes found
    → Stops (b ∷ bytes) (cond (closed && not q) (Some 0) (option_map (λ n. n + 1) found))
stops_either b bytes false q found e later = stops_later b bytes found later
stops_either b bytes true true found e later = stops_later b bytes found later
stops_either b bytes true false found e later = e

text_stops : (closed : Bool) (bytes : List ℕ) → Stops bytes (rest_of_text closed bytes)
text_stops closed [] = stops_over closed
text_stops closed (b ∷ bytes) =
    stops_either b bytes closed (is_quote b) (rest_of_text (is_quote b && not closed) bytes) refl (text_stops (is_quote b && not closed) bytes)

-- the bytes up to its end, alone, end there too
alone_more : (q closed : Bool) (b m : ℕ) (bytes : List ℕ) → is_quote b ≡ q → (closed && not q) ≡ false
    → rest_of_text (q && not closed) (take m bytes) ≡ Some m → rest_of_text closed (take (m + 1) (b ∷ bytes)) ≡ Some (m + 1)
alone_more q closed b m bytes e goes_on more = rw (add-one, e, goes_on, more, add-one) refl

alone_from : (closed q : Bool) (b n : ℕ) (bytes : List ℕ) (found : Option ℕ) → is_quote b ≡ q → rest_of_text (q && not closed) bytes ≡ found
    → ((m : ℕ) → found ≡ Some m → rest_of_text (q && not closed) (take m bytes) ≡ Some m)
    → cond (closed && not q) (Some 0) (option_map (λ n. n + 1) found) ≡ Some n → rest_of_text closed (take n (b ∷ bytes)) ≡ Some n
alone_from true false b zero bytes found e f more h = refl
alone_from true false b (suc n) bytes found e f more h = absurd (cc)
alone_from true true b n bytes None e f more h = absurd (cc)
alone_from false q b n bytes None e f more h = absurd (cc)
alone_from true true b n bytes (Some m) e f more h =
    subst (λ (k : ℕ). rest_of_text true (take k (b ∷ bytes)) ≡ Some k) (some_same (m + 1) n h) (alone_more true true b m bytes e refl (more m refl))
alone_from false q b n bytes (Some m) e f more h =
    subst (λ (k : ℕ). rest_of_text false (take k (b ∷ bytes)) ≡ Some k) (some_same (m + 1) n h) (alone_more q false b m bytes e refl (more m refl))

text_alone : (closed : Bool) (bytes : List ℕ) (n : ℕ) → rest_of_text closed bytes ≡ Some n → rest_of_text closed (take n bytes) ≡ Some n
text_alone true [] n h = subst (λ (k : ℕ). rest_of_text true (take k []) ≡ Some k) (some_same 0 n h) refl
text_alone false [] n h = absurd (cc)
text_alone closed (b ∷ bytes) n h =
    alone_from closed (is_quote b) b n bytes (rest_of_text (is_quote b && not closed) bytes) refl refl
    (λ m e. text_alone (is_quote b && not closed) bytes m e) h

text_found : (before : Before) (b : ℕ) (bytes : List ℕ) (found : Option ℕ) → is_quote b ≡ true → rest_of_text false bytes ≡ found → Closes b bytes found → Stops bytes found
    → Fronts before (b ∷ bytes) (closed_text found)
text_found before b bytes None h e closes stops = λ k. h
text_found before b bytes (Some n) h e closes stops =
    let less : n + 1 - 1 ≡ n = omega arith in
    let w : n ≤ length bytes = closes.0 in
    let whole : length (take n bytes) ≡ n = omega (arith, length-take n bytes) in
    let rest : suc (length (take n bytes)) - 1 ≡ n = omega (arith, length-take n bytes) in
    record {
      some = omega arith;
      within = omega arith;
      kind = h;
      last = rw less (is_quote-lt _ closes.1);
      spelled = rw add-one (rw rest (text_alone false bytes n e));
      longest = rw add-one stops;
      small = tt;
    }

text_front : (before : Before) (b : ℕ) (bytes : List ℕ) → is_quote b ≡ true → Fronts before (b ∷ bytes) (text_at (b ∷ bytes))
text_front before b bytes h =
    text_found before b bytes (rest_of_text false bytes) h refl (text_closes b false bytes (λ e. absurd (cc))) (text_stops false bytes)

-- a byte that begins nothing else
pub record IsOther (b : ℕ) : Type 0 where
  pub letter : is_letter b ≡ false
  pub digit : is_ascii_digit b ≡ false
  pub quote : is_quote b ≡ false

none_of : (l d q k s : Bool) → l ≡ false → d ≡ false → q ≡ false → k ≡ false → s ≡ false → not (l || d || q || k || s) ≡ true
none_of l d q k s el ed eq ek es = rw (el, ed, eq, ek, es) refl

short_front : (before : Before) (b : ℕ) (bytes : List ℕ) (test : Bool) → IsOther b → is_long_sign b (get_or bytes 0 0) ≡ false → is_short_sign b ≡ test
    → Fronts before (b ∷ bytes) (cond test (Ok (kind.Sign, 1)) (Err BadCharacter))
short_front before b bytes true other alone h =
    record { some = omega arith; within = omega arith; kind = rw h refl; last = grind (arith, nat_tests); spelled = rw h refl; longest = alone; small = tt }
short_front before b bytes false other alone h =
    λ k. none_of (is_letter b) (is_ascii_digit b) (is_quote b) (is_blank b) (is_short_sign b) other.letter other.digit other.quote k h

long_front : (before : Before) (b c : ℕ) (bytes : List ℕ) (test : Bool) → IsOther b → is_long_sign b c ≡ test → Fronts before (b ∷ c ∷ bytes) (cond test (Ok (kind.Sign, 2)) (short_sign_at b))
long_front before b c bytes true other h =
    record {
      some = omega arith;
      within = omega arith;
      kind = grind (arith, nat_tests);
      last = grind (arith, nat_tests);
      spelled = rw h refl;
      longest = refl;
      small = tt;
    }
long_front before b c bytes false other h = short_front before b (c ∷ bytes) (is_short_sign b) other h refl

no_long_sign : (b : ℕ) → is_long_sign b 0 ≡ false
no_long_sign b = grind (arith, nat_tests)

sign_front : (before : Before) (b : ℕ) (bytes : List ℕ) → IsOther b → Fronts before (b ∷ bytes) (sign_at (b ∷ bytes))
sign_front before b [] other = short_front before b [] (is_short_sign b) other (no_long_sign b) refl
sign_front before b (c ∷ bytes) other = long_front before b c bytes (is_long_sign b c) other refl

any_front : (before : Before) (b : ℕ) (bytes : List ℕ) (letter digit quote : Bool) → is_letter b ≡ letter → is_ascii_digit b ≡ digit → is_quote b ≡ quote
    → Fronts before (b ∷ bytes) (cond letter (name_at (b ∷ bytes)) (cond digit (number_at before (b ∷ bytes)) (cond quote (text_at (b ∷ bytes)) (sign_at (b ∷ bytes)))))
any_front before b bytes true digit quote l d q = name_front before b bytes l
any_front before b bytes false true quote l d q = number_front before b bytes d
any_front before b bytes false false true l d q = text_front before b bytes q
any_front before b bytes false false false l d q = sign_front before b bytes (record { letter = l; digit = d; quote = q })

pub token_front : (before : Before) (bytes : List ℕ) → Fronts before bytes (token_at before bytes)
unfolding token_at
token_front before [] = λ k. refl
token_front before (b ∷ bytes) = any_front before b bytes (is_letter b) (is_ascii_digit b) (is_quote b) refl refl refl

-- of one that is found
pub found_front : (before : Before) (bytes : List ℕ) (found : TokenKind × ℕ) → token_at before bytes ≡ Ok found → IsFront before bytes found.0 found.1
found_front before bytes found e = subst (Fronts before bytes) e (token_front before bytes)
