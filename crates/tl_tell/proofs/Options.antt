-- The words of the command line, one option after the other.
use Rattle.std.proofs.Common.{◌≡◌, ℕ, zero, suc, ◌+◌, ◌<◌, ◌≤◌, List, [], ◌∷◌, Some, None, Ok, Err, length, drop, get_or, refl, sym, ap, ◌∙◌, arith}
use Rattle.std.specs.Prelude.{slice_get}
use Rattle.std.specs.Option.{option_and_then}
use Rattle.std.proofs.lemmas.List.{drop_more, drop_all, drop-drop}
use Rattle.tl_tell.specs.declared.command.Given.{Given}
use Rattle.tl_tell.specs.declared.command.Name.{Name}
use Rattle.tl_tell.specs.declared.command.Word.TheVariants.{Gives, Awaits}
use Rattle.tl_tell.specs.Words.{read_from, value_of, with_value, word_in, settings_of}

-- ---- reading on

no_word : (given : Given) (place : ℕ) (word : List ℕ) (words : List (List ℕ)) → word_in given word ≡ None → read_from given place (word ∷ words) ≡ Err place
unfolding read_from
no_word given place word [] e = rw e refl
no_word given place word (next ∷ words) e = rw e refl

gives : (given : Given) (place : ℕ) (word : List ℕ) (words : List (List ℕ)) (name : Name) (value : ℕ) → word_in given word ≡ Some (Gives name value)
    → read_from given place (word ∷ words) ≡ read_from (with_value name value given) (place + 1) words
unfolding read_from
gives given place word [] name value e = rw e refl
gives given place word (next ∷ words) name value e = rw e refl

awaits : (given : Given) (place : ℕ) (word : List ℕ) (words : List (List ℕ)) (name : Name) (value : ℕ) → word_in given word ≡ Some (Awaits name)
    → option_and_then (value_of name) (slice_get words 0) ≡ Some value
    → read_from given place (word ∷ words) ≡ read_from (with_value name value given) (place + 2) (drop 1 words)
unfolding read_from
awaits given place word [] name value e v = absurd (cc)
awaits given place word (next ∷ words) name value e v = rw (e, v) refl

no_value : (given : Given) (place : ℕ) (word : List ℕ) (words : List (List ℕ)) (name : Name) → word_in given word ≡ Some (Awaits name)
    → option_and_then (value_of name) (slice_get words 0) ≡ None
    → read_from given place (word ∷ words) ≡ Err (place + 1)
unfolding read_from
no_value given place word [] name e v = rw e refl
no_value given place word (next ∷ words) name e v = rw (e, v) refl

first_behind : {A : Type 0} (xs : List A) (i : ℕ) → slice_get xs i ≡ slice_get (drop i xs) 0
first_behind [] zero = refl
first_behind [] (suc i) = refl
first_behind (x ∷ xs) zero = refl
first_behind (x ∷ xs) (suc i) = first_behind xs i

-- the word at this place
module _ (words : List (List ℕ)) (at : ℕ) (given : Given) (word : List ℕ) (there : at < length words) (is : word ≡ get_or words at word) where
  here : drop at words ≡ word ∷ drop (at + 1) words
  here = rw (← is) at (drop_more words at word there)

  pub on_none : word_in given word ≡ None → read_from given (at + 1) (drop at words) ≡ Err (at + 1)
  on_none e = rw here (no_word given (at + 1) word (drop (at + 1) words) e)

  pub on_gives : (name : Name) (value : ℕ) → word_in given word ≡ Some (Gives name value)
      → read_from given (at + 1) (drop at words) ≡ read_from (with_value name value given) (at + 1 + 1) (drop (at + 1) words)
  on_gives name value e = rw here (gives given (at + 1) word (drop (at + 1) words) name value e)

  pub on_awaits : (name : Name) (value : ℕ) → word_in given word ≡ Some (Awaits name)
      → option_and_then (value_of name) (slice_get words (at + 1)) ≡ Some value
      → read_from given (at + 1) (drop at words) ≡ read_from (with_value name value given) (at + 2 + 1) (drop (at + 2) words)
  on_awaits name value e v =
      let later : at + 2 + 1 ≡ at + 1 + 2 = omega arith in
      let two : at + 2 ≡ at + 1 + 1 = omega arith in
      let behind : drop (at + 2) words ≡ drop 1 (drop (at + 1) words) = ap (λ n. drop n words) two ∙ sym (drop-drop 1 (at + 1) words) in
      rw (here, later, behind)
      (awaits given (at + 1) word (drop (at + 1) words) name value e (rw (first_behind words (at + 1)) at v))

  pub on_no_value : (name : Name) → word_in given word ≡ Some (Awaits name)
      → option_and_then (value_of name) (slice_get words (at + 1)) ≡ None
      → read_from given (at + 1) (drop at words) ≡ Err (at + 1 + 1)
  on_no_value name e v =
      rw here (no_value given (at + 1) word (drop (at + 1) words) name e (rw (first_behind words (at + 1)) at v))

-- behind the last word
pub on_end : (words : List (List ℕ)) (at : ℕ) (given : Given) → length words ≤ at → read_from given (at + 1) (drop at words) ≡ Ok (settings_of given)
unfolding read_from
on_end words at given past = rw (drop_all at words past) refl
