-- What a word that isn't refused says: an option that wasn't given, and a value from 1 to its greatest.
use Rattle.std.proofs.Common.{◌≡◌, ℕ, ◌+◌, ◌==◌, ◌≤◌, ◌&&◌, Bool, true, false, cond, List, [], ◌∷◌, Option, Some, None, length, refl, subst, arith}
use Rattle.std.specs.Prelude.{nat_le, nat_lt, not}
use Rattle.std.specs.Char.{is_ascii_digit}
use Rattle.std.specs.List.{list_all}
use Rattle.std.specs.Option.{is_none, option_and_then, option_map}
use Rattle.std.specs.Str.Parse.{digits_value}
use Rattle.std.proofs.lemmas.Bool.Decides.{nat_tests}
use Rattle.tl_script.specs.Number.{is_empty, number_within}
use Rattle.tl_tell.specs.declared.command.Given.{Given}
use Rattle.tl_tell.specs.declared.command.Name.{Name}
use Rattle.tl_tell.specs.declared.command.Name.TheVariants.{Shards, Managers, Budget}
use Rattle.tl_tell.specs.declared.command.Word.{Word}
use Rattle.tl_tell.specs.declared.command.Word.TheVariants.{Gives, Awaits}
use Rattle.tl_tell.specs.Words.{AreWithin, count, given_by, greatest, name_in, one_if, value_of, with_value, word_in, word_of}

-- ---- values

tested : (a b : Bool) (least most x v : ℕ) → cond (a && b && nat_le least x && nat_le x most) (Some x) None ≡ Some v → (least ≤ v) × (v ≤ most)
tested true true least most x v e = grind (arith, nat_tests)
tested true false least most x v e = absurd (cc)
tested false b least most x v e = absurd (cc)

unless : {A : Type 0} (test : Bool) (o : Option A) (v : A) → cond test None o ≡ Some v → o ≡ Some v
unless true o v e = absurd (cc)
unless false o v e = e

pub value_within : (name : Name) (digits : List ℕ) (v : ℕ) → value_of name digits ≡ Some v → (1 ≤ v) × (v ≤ greatest name)
unfolding value_of
value_within name digits v e =
    tested (not (is_empty digits)) (list_all is_ascii_digit digits) 1 (greatest name) (digits_value 10 digits) v
    (unless (nat_lt 10 (length digits)) (number_within 1 (greatest name) digits) v e)

pub given_within : (name : Name) (o : Option (List ℕ)) (v : ℕ) → option_and_then (value_of name) o ≡ Some v → (1 ≤ v) × (v ≤ greatest name)
given_within name None v e = absurd (cc)
given_within name (Some digits) v e = value_within name digits v e

-- ---- words

abbrev pub Suits : Given → Word → Type 0
Suits given (Gives name value) = (given_by given name ≡ None) × (1 ≤ value) × (value ≤ greatest name)
Suits given (Awaits name) = given_by given name ≡ None

mapped : (given : Given) (name : Name) (o : Option ℕ) (w : Word) → given_by given name ≡ None → ((v : ℕ) → o ≡ Some v → (1 ≤ v) × (v ≤ greatest name))
    → option_map (λ value. Gives name value) o ≡ Some w → Suits given w
mapped given name None w new within e = absurd (cc)
mapped given name (Some v) w new within e = let is : Gives name v ≡ w = cc in subst (Suits given) is (new, (within v refl).0, (within v refl).1)

behind_name : (given : Given) (name : Name) (rest : List ℕ) (w : Word) → given_by given name ≡ None → word_of name rest ≡ Some w → Suits given w
behind_name given name [] w new e = let is : Awaits name ≡ w = cc in subst (Suits given) is new
behind_name given name (b ∷ digits) w new e = by (b == 61) e
  where
    by : (test : Bool) → cond test (option_map (λ value. Gives name value) (value_of name digits)) None ≡ Some w → Suits given w
    by true e = mapped given name (value_of name digits) w new (value_within name digits) e
    by false e = absurd (cc)

chosen : {A : Type 0} (o : Option A) (x : Option Word) (w : Word) → cond (is_none o) x None ≡ Some w → (o ≡ None) × (x ≡ Some w)
chosen None x w e = (refl, e)
chosen (Some a) x w e = absurd (cc)

found_word : (given : Given) (found : Option (Name × List ℕ)) (w : Word)
    → option_and_then (λ (found : Name × List ℕ). cond (is_none (given_by given found.0)) (word_of found.0 found.1) None) found ≡ Some w → Suits given w
found_word given None w e = absurd (cc)
found_word given (Some found) w e =
    let both = chosen (given_by given found.0) (word_of found.0 found.1) w e in
    behind_name given found.0 found.1 w both.0 both.1

pub suits : (given : Given) (word : List ℕ) (w : Word) → word_in given word ≡ Some w → Suits given w
unfolding word_in
suits given word w e = found_word given (name_in word) w e

-- ---- what is given

one_at_most : {A : Type 0} (o : Option A) → one_if o ≤ 1
one_at_most None = omega arith
one_at_most (Some x) = omega arith

pub count_more : (name : Name) (value : ℕ) (given : Given) → given_by given name ≡ None → count (with_value name value given) ≡ count given + 1
count_more Shards value given new = rw new (omega arith)
count_more Managers value given new = rw new (omega arith)
count_more Budget value given new = rw new (omega arith)

pub count_most : (given : Given) → count given ≤ 3
count_most given = omega (arith, one_at_most given.shards, one_at_most given.managers, one_at_most given.budget)

pub count_fewer : (name : Name) (given : Given) → given_by given name ≡ None → count given ≤ 2
count_fewer name given new = omega (arith, count_more name 1 given new, count_most (with_value name 1 given))

pub within_with : (name : Name) (value : ℕ) (given : Given) → AreWithin given → 1 ≤ value → value ≤ greatest name → AreWithin (with_value name value given)
within_with Shards value given within least most = record { shards = (least, most); managers = within.managers; budget = within.budget }
within_with Managers value given within least most = record { shards = within.shards; managers = (least, most); budget = within.budget }
within_with Budget value given within least most = record { shards = within.shards; managers = within.managers; budget = (least, most) }
