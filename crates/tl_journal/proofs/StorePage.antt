-- A page of a shard has the record cells of its part of the range.
use Rattle.std.proofs.Common.{◌≡◌, ℕ, zero, suc, Bool, true, false, cond, ltb, eqb, [], ◌∷◌, ◌++◌, Ordering, Less, Equal, Greater, refl, sym, ap, ◌∙◌, arith}
use Rattle.std.specs.Prelude.{◌==◌}
use Rattle.std.specs.Ordering.{is_le, is_lt, nat_cmp, ordering_reverse, ordering_then}
use Rattle.std.specs.Cmp.Lexicographic.{nat_list_cmp_total, slice_cmp}
use Rattle.std.proofs.lemmas.Bool.{false≢true}
use Rattle.std.proofs.lemmas.Bool.Decides.{nat_tests}
use Rattle.tl_lemmas.proofs.Orders.{less_is}
use Rattle.tl_write.specs.Own.{key_cmp}
use Rattle.tl_protocol.specs.Store.{Key}
use Rattle.tl_journal.specs.Served.{is_record_key}
use Rattle.tl_journal.proofs.StoreLogs.{record_key_is}

-- ---- the order of keys

turned : (a b : Key) → key_cmp a b ≡ ordering_reverse (key_cmp b a)
turned a b = nat_list_cmp_total.antisymm a b

pub below_below : (a b c : Key) → is_lt (key_cmp a b) ≡ true → is_lt (key_cmp b c) ≡ true → is_lt (key_cmp a c) ≡ true
below_below a b c h g = ap is_lt (nat_list_cmp_total.trans a b c (less_is (key_cmp a b) h) (less_is (key_cmp b c) g))

-- one after the other
from_turned : (o : Ordering) → is_lt o ≡ false → is_le (ordering_reverse o) ≡ true
from_turned Less h = absurd (false≢true (sym h))
from_turned Equal h = refl
from_turned Greater h = refl

pub from_on : (from key : Key) → is_lt (key_cmp key from) ≡ false → is_le (key_cmp from key) ≡ true
from_on from key h = ap is_le (turned from key) ∙ from_turned (key_cmp key from) h

back_turned : (o : Ordering) → is_le o ≡ true → is_lt (ordering_reverse o) ≡ false
back_turned Less h = refl
back_turned Equal h = refl
back_turned Greater h = absurd (false≢true h)

pub not_before : (from key : Key) → is_le (key_cmp from key) ≡ true → is_lt (key_cmp key from) ≡ false
not_before from key h = ap is_lt (turned key from) ∙ back_turned (key_cmp from key) h

-- nothing stands between a key and the one right behind it
step_less : (x y : ℕ) (o u : Ordering) → (is_lt o ≡ true → is_lt u ≡ false) → is_lt (ordering_then (nat_cmp x y) o) ≡ true → is_lt (ordering_then (nat_cmp y x) u) ≡ false
step_less x y o u f h = by (ltb x y) (eqb x y) (ltb y x) (eqb y x) refl refl refl refl h
  where
    by : (a b c d : Bool) → ltb x y ≡ a → eqb x y ≡ b → ltb y x ≡ c → eqb y x ≡ d
        → is_lt (ordering_then (cond a Less (cond b Equal Greater)) o) ≡ true → is_lt (ordering_then (cond c Less (cond d Equal Greater)) u) ≡ false
    by true b c d p q r t h = later c d r t
      where
        later : (c d : Bool) → ltb y x ≡ c → eqb y x ≡ d → is_lt (ordering_then (cond c Less (cond d Equal Greater)) u) ≡ false
        later true d r t = absurd (both p r)
          where
            both : ltb x y ≡ true → ltb y x ≡ true → ⊥
            both p r = grind (arith, nat_tests)
        later false true r t = absurd (both p t)
          where
            both : ltb x y ≡ true → eqb y x ≡ true → ⊥
            both p t = grind (arith, nat_tests)
        later false false r t = refl
    by false true true d p q r t h = absurd (both q r)
      where
        both : eqb x y ≡ true → ltb y x ≡ true → ⊥
        both q r = grind (arith, nat_tests)
    by false true false true p q r t h = f h
    by false true false false p q r t h = refl
    by false false c d p q r t h = absurd (false≢true h)

pub right_behind : (a b : Key) → is_lt (key_cmp a b) ≡ true → is_lt (key_cmp b (a ++ 0 ∷ [])) ≡ false
right_behind [] [] h = absurd (false≢true h)
right_behind [] (zero ∷ ys) h = none ys
  where
    none : (ys : Key) → is_lt (slice_cmp nat_cmp ys []) ≡ false
    none [] = refl
    none (y ∷ ys) = refl
right_behind [] (suc y ∷ ys) h = grind (arith, nat_tests)
right_behind (x ∷ xs) [] h = absurd (false≢true h)
right_behind (x ∷ xs) (y ∷ ys) h = step_less x y (key_cmp xs ys) (key_cmp ys (xs ++ 0 ∷ [])) (right_behind xs ys) h

-- what stands right before is below or equal
pub just_before : (a b : Key) → is_lt (key_cmp b (a ++ 0 ∷ [])) ≡ true → is_lt (key_cmp a b) ≡ false
just_before a b h = by (is_lt (key_cmp a b)) refl
  where
    by : (t : Bool) → is_lt (key_cmp a b) ≡ t → t ≡ false
    by true e = absurd (false≢true (sym (right_behind a b e) ∙ h))
    by false e = refl

-- a key between two record keys is one
between_four : (x : ℕ) (o u : Ordering) → is_lt (ordering_then (nat_cmp x 4) o) ≡ false → is_lt (ordering_then (nat_cmp x 4) u) ≡ true → (x == 4) ≡ true
between_four x o u h g = by (ltb x 4) (eqb x 4) refl refl h g
  where
    by : (a b : Bool) → ltb x 4 ≡ a → eqb x 4 ≡ b → is_lt (ordering_then (cond a Less (cond b Equal Greater)) o) ≡ false
        → is_lt (ordering_then (cond a Less (cond b Equal Greater)) u) ≡ true → eqb x 4 ≡ true
    by true b p q h g = absurd (false≢true (sym h))
    by false true p q h g = q
    by false false p q h g = absurd (false≢true g)

between_parts : (from before key : Key) → is_lt (key_cmp key (4 ∷ from)) ≡ false → is_lt (key_cmp key (4 ∷ before)) ≡ true → is_record_key key ≡ true
between_parts from before [] h g = absurd (false≢true (sym h))
between_parts from before (x ∷ xs) h g = between_four x (key_cmp xs from) (key_cmp xs before) h g

pub between_records : (from before key : Key) → is_record_key from ≡ true → is_record_key before ≡ true
    → is_lt (key_cmp key from) ≡ false → is_lt (key_cmp key before) ≡ true → is_record_key key ≡ true
between_records from before key f b h g =
    let first = record_key_is from f in
    let last = record_key_is before b in
    between_parts first.0 last.0 key (ap (λ (k : Key). is_lt (key_cmp key k)) (sym first.1) ∙ h) (ap (λ (k : Key). is_lt (key_cmp key k)) (sym last.1) ∙ g)
