-- The table that a CREATE TABLE without faults makes fits.
use Rattle.std.proofs.Common.{◌≡◌, ℕ, zero, suc, ◌+◌, ◌<◌, ◌≤◌, ◌==◌, Bool, true, false, inl, inr, List, [], ◌∷◌, ◌++◌, length, map, find, cond, Option, Some, None, refl, ap, sym, subst, ◌∙◌, arith}
use Rattle.std.specs.Prelude.{filter, flat_map, nat_lt, not, position}
use Rattle.std.specs.List.{AllByRecursion, IsDistinct, list_any}
use Rattle.std.proofs.Math.Dec.{eqb}
use Rattle.std.proofs.lemmas.Bool.{both_ways, eq-eqb, eqb-true, not-false, or_cases, or_left, or_right}
use Rattle.std.proofs.lemmas.Bool.Decides.{nat_tests}
use Rattle.std.proofs.lemmas.List.{length-map, map-id}
use Rattle.std.proofs.lemmas.Map.Steps.{length-le_from_distinct_below}
use Rattle.std.proofs.lemmas.Option.{slice_get_within}
use Rattle.tl_lemmas.proofs.Lists.{all_both, all_map, weaker}
use Rattle.tl_lemmas.proofs.Tests.{or_first, or_second}
use Rattle.tl_schema.specs.declared.catalog.Catalog.{Catalog}
use Rattle.tl_protocol.specs.Move.{is_empty}
use Rattle.tl_journal.specs.Binding.{EachOnce, TableFits, refuses_null}
use Rattle.tl_grammar.specs.declared.name.Name.{Name}
use Rattle.tl_grammar.specs.declared.statement.ColumnForm.{ColumnForm}
use Rattle.tl_grammar.specs.Whole.{HasOne, HasOneWhereGiven}
use Rattle.tl_scope.specs.declared.fault.BindKind.TheVariants as kind
use Rattle.tl_scope.specs.Change.{is_in_key}
use Rattle.tl_scope.specs.Create.{column_form_faults, create_table_faults, form_name, form_text, has_one_key, is_primary, key_faults, key_name_faults, keys_behind, table_name_faults}
use Rattle.tl_scope.specs.Fault.{each_from, fault_if}
use Rattle.tl_scope.specs.Named.{is_among, is_none, repeated_faults}
use Rattle.tl_scope.specs.Scope.{same, table_named}
use Rattle.tl_scope.proofs.Firsts.{both_empty, no_fault}
use Rattle.tl_bind.specs.Select.{number_or_zero}
use Rattle.tl_names.specs.Define.{and_if, columns_made, form_place, key_places, primary_from, table_made}
use Rattle.tl_names.proofs.Within.{forms_few}
use Rattle.tl_fits.proofs.Lists.{each_none, position_at, position_found}
use Rattle.tl_fits.proofs.Names.{each_once, place_once, same_is, same_self}

-- numbers below a bound that differ are no more than it
none_of : {X : Type 0} (p : X → Bool) (xs : List X) → list_any p xs ≡ false → AllByRecursion (λ x. p x ≡ false) xs
none_of p [] e = tt
none_of p (x ∷ xs) e = (or_first (p x) (list_any p xs) e, none_of p xs (or_second (p x) (list_any p xs) e))

distinct : (xs : List ℕ) → EachOnce (λ (place : ℕ). place) xs → IsDistinct eqb xs
unfolding IsDistinct
distinct [] h = tt
distinct (x ∷ xs) h = (none_of (λ y. x == y) xs h.0, distinct xs h.1)

below_any : (n : ℕ) (xs : List ℕ) → AllByRecursion (λ q. q < n) xs → (q : ℕ) → list_any (eqb q) xs ≡ true → q < n
below_any n [] h q e = absurd cc
below_any n (x ∷ xs) h q e =
    elim (or_cases (eqb q x) (list_any (eqb q) xs) e) [
      | inl i ↦ subst (λ (m : ℕ). m < n) (sym (eqb-true q x i)) h.0
      | inr i ↦ below_any n xs h.1 q i
    ]

few_places : (n : ℕ) (xs : List ℕ) → EachOnce (λ (place : ℕ). place) xs → AllByRecursion (λ q. q < n) xs → length xs ≤ n
few_places n xs once within = length-le_from_distinct_below xs n (distinct xs once) (below_any n xs within)

-- each is one of them
in_all : (xs : List ℕ) → AllByRecursion (λ p. is_in_key xs p ≡ true) xs
in_all [] = tt
in_all (x ∷ xs) =
    let here : (x == x) ≡ true = eq-eqb x x refl in
    (or_left (x == x) (is_in_key xs x) here, weaker (λ p. is_in_key xs p ≡ true) (λ p. is_in_key (x ∷ xs) p ≡ true) (λ p h. or_right (x == p) (is_in_key xs p) h) xs (in_all xs))

made_length : (key : List ℕ) (at : ℕ) (cs : List ColumnForm) → length (columns_made key at cs) ≡ length cs
made_length key at [] = refl
made_length key at (c ∷ cs) = let rest = made_length key (at + 1) cs in omega arith

-- a column of the key refuses NULL
refused : (key : List ℕ) (at : ℕ) (cs : List ColumnForm) (i : ℕ) → i < length cs → is_in_key key (at + i) ≡ true → refuses_null (columns_made key at cs) i ≡ true
refused key at [] i there e = absurd (omega arith)
refused key at (c ∷ cs) zero there e = let here : at + 0 ≡ at = omega arith in or_right c.not_null (is_in_key key at) (subst (λ (n : ℕ). is_in_key key n ≡ true) here e)
refused key at (c ∷ cs) (suc i) there e =
    let next : at + suc i ≡ (at + 1) + i = omega arith in
    refused key (at + 1) cs i (omega arith) (subst (λ (n : ℕ). is_in_key key n ≡ true) next e)

-- what the places of a key are
pub record IsKey (columns : List ColumnForm) (places : List ℕ) : Type 0 where
  pub within : AllByRecursion (λ (place : ℕ). place < length columns) places
  pub some : is_empty places ≡ false
  pub once : EachOnce (λ (place : ℕ). place) places

made_fits : (name : Name) (columns : List ColumnForm) (key : Option (List Name)) → IsKey columns (key_places columns key) → length columns ≤ 32 → TableFits (table_made name columns key)
made_fits name columns key is few =
    let places = key_places columns key in
    let long = made_length places 0 columns in
    let count = few_places (length columns) places is.once is.within in
    record {
      keyed =
          record {
            columns = weaker (λ (place : ℕ). place < length columns) (λ (place : ℕ). place < length (columns_made places 0 columns)) (λ place h. omega (arith, long, h)) places is.within;
            some = is.some;
            not_null =
                weaker (λ (place : ℕ). (place < length columns) × (is_in_key places place ≡ true)) (λ (place : ℕ). refuses_null (columns_made places 0 columns) place ≡ true)
                (λ place h.
                let here : place ≡ 0 + place = omega arith in
                refused places 0 columns place h.0 (subst (λ (n : ℕ). is_in_key places n ≡ true) here h.1)) places
                (all_both (λ (place : ℕ). place < length columns) (λ (place : ℕ). is_in_key places place ≡ true) places is.within (in_all places));
          };
      once = is.once;
      key = omega (arith, count, few);
      columns = omega (arith, long, few);
      indexes = tt;
      few = omega arith;
    }

-- a key at a column
and_if_within : (b : Bool) (at n : ℕ) (rest : List ℕ) → at < n → AllByRecursion (λ (p : ℕ). p < n) rest → AllByRecursion (λ (p : ℕ). p < n) (and_if b at rest)
and_if_within true at n rest l h = (l, h)
and_if_within false at n rest l h = h

primary_within : (at n : ℕ) (cs : List ColumnForm) → at + length cs ≤ n → AllByRecursion (λ (p : ℕ). p < n) (primary_from at cs)
primary_within at n [] l = tt
primary_within at n (c ∷ cs) l = and_if_within c.primary at n (primary_from (at + 1) cs) (omega arith) (primary_within (at + 1) n cs (omega arith))

primary_count : (at : ℕ) (cs : List ColumnForm) → length (primary_from at cs) ≡ length (filter is_primary cs)
primary_count at [] = refl
primary_count at (c ∷ cs) =
    let rest = primary_count (at + 1) cs in
    elim (c.primary) as (λ b. length (and_if b at (primary_from (at + 1) cs)) ≡ length (cond b (c ∷ filter is_primary cs) (filter is_primary cs))) [
      | true ↦ omega (arith, rest)
      | false ↦ rest
    ]

one_once : (xs : List ℕ) → length xs ≡ 1 → EachOnce (λ (place : ℕ). place) xs
one_once [] e = tt
one_once (x ∷ []) e = (refl, tt)
one_once (x ∷ y ∷ ys) e = absurd (omega arith)

pub one_some : (xs : List ℕ) → 1 ≤ length xs → is_empty xs ≡ false
one_some [] e = absurd (omega arith)
one_some (x ∷ xs) e = refl

primary_key_is : (columns : List ColumnForm) → has_one_key columns None ≡ true → IsKey columns (key_places columns None)
primary_key_is columns one =
    let count = primary_count 0 columns in
    let is = eqb-true (length (filter is_primary columns) + keys_behind None) 1 one in
    let alone : length (primary_from 0 columns) ≡ 1 = omega (arith, count, is) in
    record {
      within = primary_within 0 (length columns) columns (omega arith);
      some = one_some (primary_from 0 columns) (omega (arith, alone));
      once = one_once (primary_from 0 columns) alone;
    }

-- a key behind the columns
abbrev is_called : List ℕ → ColumnForm → Bool
is_called name c = same c.name.text name

called_there : (name : List ℕ) (cs : List ColumnForm) → is_among (map form_text cs) name ≡ true → (c : ColumnForm) × (find (is_called name) cs ≡ Some c)
called_there name [] e = absurd cc
called_there name (c ∷ cs) e =
    elim (is_called name c) as (λ b. is_called name c ≡ b → (d : ColumnForm) × (cond b (Some c) (find (is_called name) cs) ≡ Some d)) [
      | true ↦ λ is. (c, refl)
      | false ↦ λ is.
          elim (or_cases (same name c.name.text) (is_among (map form_text cs) name) e) [
            | inl h ↦ absurd (both_ways (is_called name c) is (same_self c.name.text name (sym (same_is name c.name.text h))))
            | inr h ↦ called_there name cs h
          ]
    ] refl

module _ (columns : List ColumnForm) where
  abbrev IsNamed : Name → Type 0
  IsNamed n = (i : ℕ) × (position (is_called n.text) columns ≡ Some i)

  named : (n : Name) → key_name_faults columns n ≡ [] → IsNamed n
  named n none =
      let there = called_there n.text columns (not-false (is_among (map form_text columns) n.text) (no_fault (not (is_among (map form_text columns) n.text)) n.at kind.UnknownColumn none)) in
      let p = position_found (is_called n.text) columns there.0 there.1 in
      (p.0, p.1)

  named_within : (n : Name) → IsNamed n → form_place columns n < length columns
  named_within n p =
      let at = position_at (is_called n.text) columns p.0 p.1 in
      subst (λ (m : ℕ). m < length columns) (sym (ap number_or_zero p.1)) (slice_get_within columns p.0 at.0 at.1)

  named_tells : (a b : Name) → IsNamed a → IsNamed b → form_place columns a ≡ form_place columns b → a.text ≡ b.text
  named_tells a b p q e =
      let same_place : p.0 ≡ q.0 = ap number_or_zero (sym p.1) ∙ e ∙ ap number_or_zero q.1 in
      place_once (λ (c : ColumnForm). c.name.text) columns p.0 a.text b.text (position_at (is_called a.text) columns p.0 p.1)
      (position_at (is_called b.text) columns p.0 (q.1 ∙ ap (λ (n : ℕ). Some n) (sym same_place)))

  named_key_is : (names : List Name) → HasOne names → key_faults columns (Some names) ≡ [] → IsKey columns (key_places columns (Some names))
  named_key_is names some none =
      let parts = both_empty (flat_map (key_name_faults columns) names) (repeated_faults names) none in
      let all = weaker (λ (n : Name). key_name_faults columns n ≡ []) IsNamed named names (each_none (key_name_faults columns) names parts.0) in
      let long = length-map names (form_place columns) in
      record {
        within = all_map IsNamed (λ (place : ℕ). place < length columns) (form_place columns) named_within names all;
        some = one_some (map (form_place columns) names) (omega (arith, long, some));
        once = each_once (λ (n : Name). n) (form_place columns) (λ (place : ℕ). place) IsNamed named_tells [] names (subst (λ (l : List Name). repeated_faults l ≡ []) (sym (map-id names)) parts.1) all;
      }

key_is : (columns : List ColumnForm) (key : Option (List Name)) → HasOneWhereGiven key → has_one_key columns key ≡ true → key_faults columns key ≡ [] → IsKey columns (key_places columns key)
key_is columns None some one none = primary_key_is columns one
key_is columns (Some names) some one none = named_key_is columns names some none

pub create_fits : (catalog : Catalog) (name : Name) (columns : List ColumnForm) (key : Option (List Name)) → HasOneWhereGiven key → create_table_faults catalog name columns key ≡ []
    → (length catalog.tables ≤ 63) × TableFits (table_made name columns key)
create_fits catalog name columns key some none =
    let a = table_name_faults catalog name in
    let one = has_one_key columns key in
    let b = fault_if (not one) name.at kind.NoKey in
    let c = repeated_faults (map form_name columns) in
    let d = each_from column_form_faults 0 columns in
    let abcd = both_empty (a ++ b ++ c ++ d) (key_faults columns key) none in
    let abc = both_empty (a ++ b ++ c) d abcd.0 in
    let ab = both_empty (a ++ b) c abc.0 in
    let parts = both_empty a b ab.0 in
    let full = nat_lt 63 (length catalog.tables) in
    let free = both_empty (fault_if (not (is_none (table_named catalog name.text))) name.at kind.Twice) (fault_if full name.at kind.TooMany) parts.0 in
    let room : full ≡ false = no_fault full name.at kind.TooMany free.1 in
    let few = forms_few 0 columns (omega arith) abc.1 in
    (grind (arith, nat_tests, room), made_fits name columns key (key_is columns key some (not-false one (no_fault (not one) name.at kind.NoKey parts.1)) abcd.1) (omega (arith, few)))
