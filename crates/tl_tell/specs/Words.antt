-- The words of the command line: the settings that they give, or the place of the first one that is refused.
use Rattle.std.specs.Prelude.{◌≡◌, ℕ, ◌+◌, ◌==◌, ◌<◌, ◌≤◌, false, List, [], ◌∷◌, Option, Result, codes, drop, length, nat_eq, nat_lt, slice_get, IfSome, if◌then◌else◌}
use Rattle.std.specs.declared.option.Option.TheVariants.{Some, None}
use Rattle.std.specs.declared.result.Result.TheVariants.{Ok, Err}
use Rattle.std.specs.List.{starts_with}
use Rattle.std.specs.Option.{is_none, option_and_then, option_map, unwrap_or}
use Rattle.tl_base.specs.declared.place.Settings.{Settings}
use Rattle.tl_script.specs.Number.{number_within}
use Rattle.tl_tell.specs.declared.command.Given.{Given}
use Rattle.tl_tell.specs.declared.command.Name.{Name}
use Rattle.tl_tell.specs.declared.command.RefusedWord.{RefusedWord}
use Rattle.tl_tell.specs.declared.command.Name.TheVariants.{Shards, Managers, Budget}
use Rattle.tl_tell.specs.declared.command.Word.{Word}
use Rattle.tl_tell.specs.declared.command.Word.TheVariants.{Gives, Awaits}

-- ---- values

abbrev pub greatest : Name → ℕ
greatest Shards = 16
greatest Managers = 4
greatest Budget = 100000

-- 1 to 10 digits, from 1 to the greatest
unfoldable pub value_of : Name → List ℕ → Option ℕ
value_of name digits = if nat_lt 10 (length digits) then None else number_within 1 (greatest name) digits

abbrev pub given_by : Given → Name → Option ℕ
given_by given Shards = given.shards
given_by given Managers = given.managers
given_by given Budget = given.budget

abbrev pub with_value : Name → ℕ → Given → Given
with_value Shards value given = record given { shards = Some value }
with_value Managers value given = record given { managers = Some value }
with_value Budget value given = record given { budget = Some value }

abbrev pub no_words : Given
no_words = record { shards = None; managers = None; budget = None }

-- what isn't given is 4 shards, 1 manager and a budget of 20,000
abbrev pub settings_of : Given → Settings
settings_of given =
    record {
      shards = unwrap_or given.shards 4;
      managers = unwrap_or given.managers 1;
      fan = 32;
      budget = unwrap_or given.budget 20000;
      threads = false;
    }

-- a value that is given is from 1 to the greatest of its option
abbrev pub IsWithin : Name → Option ℕ → Type 0
IsWithin name given = IfSome given (λ value. (1 ≤ value) × (value ≤ greatest name))

pub record AreWithin (given : Given) : Type 0 where
  pub shards : IsWithin Shards given.shards
  pub managers : IsWithin Managers given.managers
  pub budget : IsWithin Budget given.budget

abbrev pub one_if : {A : Type 0} → Option A → ℕ
one_if None = 0
one_if (Some x) = 1

-- how many options are given
abbrev pub count : Given → ℕ
count given = one_if given.shards + one_if given.managers + one_if given.budget

-- ---- words

-- what stands behind this text at the front of a word
abbrev pub behind : List ℕ → List ℕ → Option (List ℕ)
behind text word = if starts_with nat_eq word text then Some (drop (length text) word) else None

-- the first of the options whose name was found, and what stands behind it
abbrev pub first_found : Option (List ℕ) → Option (List ℕ) → Option (List ℕ) → Option (Name × List ℕ)
first_found (Some rest) managers budget = Some (Shards, rest)
first_found None (Some rest) budget = Some (Managers, rest)
first_found None None (Some rest) = Some (Budget, rest)
first_found None None None = None

-- the option that a word begins with, and what stands behind its name
unfoldable pub name_in : List ℕ → Option (Name × List ℕ)
name_in word = first_found (behind (codes "--shards") word) (behind (codes "--managers") word) (behind (codes "--budget") word)

-- nothing stands behind the name, or = and a value
abbrev pub word_of : Name → List ℕ → Option Word
word_of name [] = Some (Awaits name)
word_of name (b ∷ digits) = if b == 61 then option_map (λ value. Gives name value) (value_of name digits) else None

-- what a word is behind those that have given this; each option comes once
unfoldable pub word_in : Given → List ℕ → Option Word
word_in given word = option_and_then (λ found. if is_none (given_by given found.0) then word_of found.0 found.1 else None) (name_in word)

-- what follows from the word at this place, which is refused where it is none
abbrev pub after_word : ℕ → Option Word → (Name → ℕ → Result Settings ℕ) → (Name → Result Settings ℕ) → Result Settings ℕ
after_word place None gives awaits = Err place
after_word place (Some (Gives name value)) gives awaits = gives name value
after_word place (Some (Awaits name)) gives awaits = awaits name

-- so with the word at this place that is to be a value
abbrev pub after_value : ℕ → Option ℕ → (ℕ → Result Settings ℕ) → Result Settings ℕ
after_value place None goes_on = Err place
after_value place (Some value) goes_on = goes_on value

-- the settings after these words, of which the first stands at this place, behind those that have given this
unfoldable pub read_from : Given → ℕ → List (List ℕ) → Result Settings ℕ
read_from given place [] = Ok (settings_of given)
read_from given place (word ∷ []) =
    after_word place (word_in given word) (λ name value. Ok (settings_of (with_value name value given))) (λ name. Err (place + 1))
read_from given place (word ∷ next ∷ words) =
    after_word place (word_in given word)
    (λ name value. read_from (with_value name value given) (place + 1) (next ∷ words))
    (λ name. after_value (place + 1) (value_of name next) (λ value. read_from (with_value name value given) (place + 2) words))

-- the settings that the words give, or the place, from 1, of the first word that can't follow those before it; one more than there
-- are words where a value is missing at the end
abbrev pub words_of : List (List ℕ) → Result Settings ℕ
words_of words = read_from no_words 1 words

-- what was answered is what the words give
abbrev pub Reads : Result Settings RefusedWord → Result Settings ℕ → Type 0
Reads (Ok settings) read = read ≡ Ok settings
Reads (Err refused) read = read ≡ Err refused.0

-- one option was read at this place, and then the words behind it are
abbrev pub ReadsOn : List (List ℕ) → ℕ → Given → Result ℕ RefusedWord → Given → Type 0
ReadsOn words at old (Ok next) new = (at < next) × (read_from old (at + 1) (drop at words) ≡ read_from new (next + 1) (drop next words))
ReadsOn words at old (Err refused) new = read_from old (at + 1) (drop at words) ≡ Err refused.0

-- the value in the word at this place, or the word is refused
abbrev pub GetsValue : List (List ℕ) → ℕ → Name → Result ℕ RefusedWord → Type 0
GetsValue words at name (Ok value) = option_and_then (value_of name) (slice_get words at) ≡ Some value
GetsValue words at name (Err refused) = (option_and_then (value_of name) (slice_get words at) ≡ None) × (refused.0 ≡ at + 1)
