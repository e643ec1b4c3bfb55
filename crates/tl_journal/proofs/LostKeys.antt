-- The records that the log cell of a lost transaction names: those that are seen to, and those that are left.
use Rattle.std.proofs.Common.{◌≡◌, Bool, true, false, List, [], ◌∷◌, ◌++◌, Ordering, Less, Greater, refl, sym, ap, ◌∙◌, subst, append_assoc, arith}
use Rattle.std.specs.Prelude.{◌||◌, ◌&&◌, not, if◌then◌else◌}
use Rattle.std.specs.List.{list_all}
use Rattle.std.specs.Ordering.{is_eq, is_lt}
use Rattle.std.specs.Cmp.Lexicographic.{nat_list_cmp_total}
use Rattle.std.proofs.lemmas.List.Folds.{list_any-append}
use Rattle.tl_lemmas.proofs.Orders.{less_is}
use Rattle.tl_logrec.specs.Entry.{are_rising, rise_from}
use Rattle.tl_write.specs.Own.{key_cmp}
use Rattle.tl_write.proofs.Rising.{turned}
use Rattle.tl_protocol.specs.Store.{Key, put_at, same_key}
use Rattle.tl_protocol.specs.Move.{is_named}
use Rattle.tl_journal.proofs.Meets.{IsPartOf, seen_but}
use Rattle.tl_write.proofs.Keys.{key_eq, key_itself}

-- ---- what the log cell names

named_append : (k : Key) (front back : List Key) → is_named k (front ++ back) ≡ (is_named k front || is_named k back)
named_append k front back = list_any-append (λ key. same_key key k) front back

split_at : (whole : List Key) (key : Key) (keys : List Key) (part : IsPartOf (key ∷ keys) whole) → whole ≡ part.0 ++ (key ∷ (keys ++ part.1))
split_at whole key keys part = part.2 ∙ append_assoc part.0 (key ∷ keys) part.1

-- one that is left is named
pub left_named : (whole : List Key) (key : Key) (keys : List Key) → IsPartOf (key ∷ keys) whole → is_named key whole ≡ true
left_named whole key keys part =
    ap (is_named key) (split_at whole key keys part) ∙ named_append key part.0 (key ∷ (keys ++ part.1))
    ∙ right (is_named key part.0) (same_key key key) (is_named key (keys ++ part.1)) (key_itself key)
  where
    right : (x y z : Bool) → y ≡ true → (x || (y || z)) ≡ true
    right x y z e = grind arith

-- and isn't seen to
pub left_new : (whole : List Key) (key : Key) (keys : List Key) → seen_but whole (key ∷ keys) key ≡ false
left_new whole key keys = none (is_named key whole) (same_key key key) (is_named key keys) (key_itself key)
  where
    none : (x y z : Bool) → y ≡ true → (x && not (y || z)) ≡ false
    none x y z e = grind arith

-- the first of those that are left is seen to
pub part_rest : (whole : List Key) (key : Key) (keys : List Key) → IsPartOf (key ∷ keys) whole → IsPartOf keys whole
part_rest whole key keys part = (part.0 ++ key ∷ [], part.1, part.2 ∙ ap (λ x. x ++ part.1) (sym (append_assoc part.0 (key ∷ []) keys)))

-- ---- no key is left twice

rise_drop : (front : List Key) (key : Key) (keys : List Key) → are_rising (front ++ key ∷ keys) ≡ true → rise_from key keys ≡ true
rise_drop [] key keys h = h
rise_drop (x ∷ []) key keys h = second (is_lt (key_cmp x key)) (rise_from key keys) h
  where
    second : (a b : Bool) → (a && b) ≡ true → b ≡ true
    second a b e = grind arith
rise_drop (x ∷ y ∷ front) key keys h = rise_drop (y ∷ front) key keys (second (is_lt (key_cmp x y)) (rise_from y (front ++ key ∷ keys)) h)
  where
    second : (a b : Bool) → (a && b) ≡ true → b ≡ true
    second a b e = grind arith

-- keys that rise from one above this aren't this
above_apart : (low key : Key) (keys back : List Key) → is_lt (key_cmp low key) ≡ true → rise_from key (keys ++ back) ≡ true
    → (same_key key low || is_named low keys) ≡ false
above_apart low key [] back l h = none (same_key key low) (apart low key l)
  where
    none : (x : Bool) → x ≡ false → (x || false) ≡ false
    none x e = grind arith

    unequal : (o : Ordering) → o ≡ Greater → is_eq o ≡ false
    unequal o e = ap is_eq e

    apart : (low key : Key) → is_lt (key_cmp low key) ≡ true → same_key key low ≡ false
    apart low key l = unequal (key_cmp key low) (turned low key Less (less_is (key_cmp low key) l))
above_apart low key (next ∷ keys) back l h =
    both (same_key key low) (same_key next low || is_named low keys) (apart low key l)
    (above_apart low next keys back (ap is_lt (nat_list_cmp_total.trans low key next (less_is (key_cmp low key) l) (less_is (key_cmp key next) (first (is_lt (key_cmp key next)) (rise_from next (keys ++ back)) h))))
    (second (is_lt (key_cmp key next)) (rise_from next (keys ++ back)) h))
  where
    both : (x y : Bool) → x ≡ false → y ≡ false → (x || y) ≡ false
    both x y e f = grind arith

    first : (a b : Bool) → (a && b) ≡ true → a ≡ true
    first a b e = grind arith

    second : (a b : Bool) → (a && b) ≡ true → b ≡ true
    second a b e = grind arith

    unequal : (o : Ordering) → o ≡ Greater → is_eq o ≡ false
    unequal o e = ap is_eq e

    apart : (low key : Key) → is_lt (key_cmp low key) ≡ true → same_key key low ≡ false
    apart low key l = unequal (key_cmp key low) (turned low key Less (less_is (key_cmp low key) l))

rise_apart : (key : Key) (keys back : List Key) → rise_from key (keys ++ back) ≡ true → is_named key keys ≡ false
rise_apart key [] back h = refl
rise_apart key (next ∷ keys) back h =
    above_apart key next keys back (first (is_lt (key_cmp key next)) (rise_from next (keys ++ back)) h) (second (is_lt (key_cmp key next)) (rise_from next (keys ++ back)) h)
  where
    first : (a b : Bool) → (a && b) ≡ true → a ≡ true
    first a b e = grind arith

    second : (a b : Bool) → (a && b) ≡ true → b ≡ true
    second a b e = grind arith

left_once : (whole : List Key) (key : Key) (keys : List Key) → are_rising whole ≡ true → IsPartOf (key ∷ keys) whole → is_named key keys ≡ false
left_once whole key keys rising part =
    rise_apart key keys part.1 (rise_drop part.0 key (keys ++ part.1) (sym (ap are_rising (split_at whole key keys part)) ∙ rising))

-- ---- what is seen to

pub seen_none : (keys : List Key) (k : Key) → false ≡ seen_but keys keys k
seen_none keys k = none (is_named k keys)
  where
    none : (x : Bool) → false ≡ (x && not x)
    none x = grind arith

pub seen_next : (whole : List Key) (key : Key) (keys : List Key) (seen : Key → Bool) → are_rising whole ≡ true → IsPartOf (key ∷ keys) whole
    → ((k : Key) → seen k ≡ seen_but whole (key ∷ keys) k) → (k : Key) → put_at key true seen k ≡ seen_but whole keys k
seen_next whole key keys seen rising part h k = by (same_key key k) refl
  where
    here : (x y : Bool) → x ≡ true → y ≡ false → true ≡ (x && not y)
    here x y e f = grind arith

    there : (x y z r : Bool) → y ≡ false → r ≡ (x && not (y || z)) → r ≡ (x && not z)
    there x y z r e f = grind arith

    by : (b : Bool) → same_key key k ≡ b → (if b then true else seen k) ≡ seen_but whole keys k
    by true e = subst (λ x. true ≡ seen_but whole keys x) (key_eq key k e)
        (here (is_named key whole) (is_named key keys) (left_named whole key keys part) (left_once whole key keys rising part))
    by false e = there (is_named k whole) (same_key key k) (is_named k keys) (seen k) e (h k)

all_passed : (seen : Key → Bool) (keys : List Key) → ((k : Key) → is_named k keys ≡ true → seen k ≡ true) → list_all seen keys ≡ true
all_passed seen [] h = refl
all_passed seen (key ∷ keys) h =
    both (seen key) (list_all seen keys) (h key (left (same_key key key) (is_named key keys) (key_itself key)))
    (all_passed seen keys (λ k e. h k (right (same_key key k) (is_named k keys) e)))
  where
    both : (x y : Bool) → x ≡ true → y ≡ true → (x && y) ≡ true
    both x y e f = grind arith

    left : (x y : Bool) → x ≡ true → (x || y) ≡ true
    left x y e = grind arith

    right : (x y : Bool) → y ≡ true → (x || y) ≡ true
    right x y e = grind arith

-- where none is left all are seen to
pub seen_all : (whole : List Key) (seen : Key → Bool) → ((k : Key) → seen k ≡ seen_but whole [] k) → list_all seen whole ≡ true
seen_all whole seen h = all_passed seen whole (λ k e. h k ∙ none (is_named k whole) e)
  where
    none : (x : Bool) → x ≡ true → (x && not false) ≡ true
    none x e = grind arith
