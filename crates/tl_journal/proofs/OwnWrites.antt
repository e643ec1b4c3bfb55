-- Own writes, in rising order of keys: those whose versions stand, and those that are left.
use Rattle.std.proofs.Common.{◌≡◌, Bool, true, false, List, [], ◌∷◌, ◌++◌, length, Some, refl, sym, ap, ◌∙◌, subst, append_assoc, arith}
use Rattle.std.specs.Prelude.{◌||◌, ◌&&◌, not, slice_get, if◌then◌else◌}
use Rattle.std.specs.List.{list_all}
use Rattle.std.specs.Ordering.{is_eq, is_lt}
use Rattle.std.proofs.lemmas.Bool.{or_left}
use Rattle.tl_lemmas.proofs.Lists.{behind_first}
use Rattle.tl_lemmas.proofs.Tests.{and_first, and_second}
use Rattle.tl_lemmas.proofs.Orders.{less_is}
use mathlib.Core.Path.{fun_ext}
use Rattle.tl_write.specs.declared.write.Write.{Write}
use Rattle.tl_write.specs.Own.{is_rising, is_written, key_cmp}
use Rattle.tl_write.proofs.Rising.{below, none_below}
use Rattle.tl_protocol.specs.Store.{Key, put_at, same_key}
use Rattle.tl_journal.proofs.Meets.{IsPartOf}
use Rattle.tl_write.proofs.Keys.{key_eq, key_itself}

-- ---- lists

-- the one, and those after it
pub one_more : {A : Type 0} (xs : List A) (x : A) (ys : List A) → xs ++ x ∷ ys ≡ (xs ++ x ∷ []) ++ ys
one_more xs x ys = sym (append_assoc xs (x ∷ []) ys)

-- the and_first ones are a part
pub first_part : {A : Type 0} (whole xs ys : List A) → whole ≡ xs ++ ys → IsPartOf xs whole
first_part whole xs ys e = ([], ys, e)

-- and a part without its and_first element
pub less_part : {A : Type 0} (x : A) (xs whole : List A) → IsPartOf (x ∷ xs) whole → IsPartOf xs whole
less_part x xs whole p = (p.0 ++ x ∷ [], p.1, p.2 ∙ ap (λ ys. ys ++ p.1) (one_more p.0 x xs))

-- ---- tests over writes

whether : (x y z : Bool) → x || (y || z) ≡ (x || y) || z
whether x y z = grind arith

pub written_append : (k : Key) (os ps : List Write) → is_written k (os ++ ps) ≡ (is_written k os || is_written k ps)
written_append k [] ps = refl
written_append k (o ∷ os) ps =
    ap (λ b. same_key o.key k || b) (written_append k os ps) ∙ whether (same_key o.key k) (is_written k os) (is_written k ps)

right_true : (x y : Bool) → y ≡ true → x || y ≡ true
right_true x y e = grind arith

both_true : (x y : Bool) → x ≡ true → y ≡ true → x && y ≡ true
both_true x y e f = grind arith

-- the key of the one is written
pub has_one : (os : List Write) (o : Write) (ps : List Write) → is_written o.key (os ++ o ∷ ps) ≡ true
has_one os o ps =
    written_append o.key os (o ∷ ps)
    ∙ right_true (is_written o.key os) (same_key o.key o.key || is_written o.key ps) (or_left (same_key o.key o.key) (is_written o.key ps) (key_itself o.key))

all_more : (o : Write) (os ps : List Write) → list_all (λ (p : Write). is_written p.key os) ps ≡ true
    → list_all (λ (p : Write). is_written p.key (o ∷ os)) ps ≡ true
all_more o os [] h = refl
all_more o os (p ∷ ps) h =
    both_true (is_written p.key (o ∷ os)) (list_all (λ (p : Write). is_written p.key (o ∷ os)) ps)
    (right_true (same_key o.key p.key) (is_written p.key os) (and_first _ _ h)) (all_more o os ps (and_second _ _ h))

-- each of the writes is among them
pub all_among : (os : List Write) → list_all (λ (o : Write). is_written o.key os) os ≡ true
all_among [] = refl
all_among (o ∷ os) =
    both_true (is_written o.key (o ∷ os)) (list_all (λ (p : Write). is_written p.key (o ∷ os)) os)
    (or_left (same_key o.key o.key) (is_written o.key os) (key_itself o.key)) (all_more o os os (all_among os))

-- and none among none
pub none_among : (os : List Write) → list_all (λ (o : Write). not (is_written o.key [])) os ≡ true
none_among [] = refl
none_among (o ∷ os) = none_among os

-- ---- rising writes

all_front : (f : Write → Bool) (os ps : List Write) → list_all f (os ++ ps) ≡ true → list_all f os ≡ true
all_front f [] ps h = refl
all_front f (o ∷ os) ps h = both_true (f o) (list_all f os) (and_first _ _ h) (all_front f os ps (and_second _ _ h))

pub rising_front : (os ps : List Write) → is_rising (os ++ ps) ≡ true → is_rising os ≡ true
rising_front [] ps h = refl
rising_front (o ∷ os) ps h =
    both_true (below o.key os) (is_rising os) (all_front (λ x. is_lt (key_cmp o.key x.key)) os ps (and_first _ _ h)) (rising_front os ps (and_second _ _ h))

pub rising_back : (os ps : List Write) → is_rising (os ++ ps) ≡ true → is_rising ps ≡ true
rising_back [] ps h = h
rising_back (o ∷ os) ps h = rising_back os ps (and_second _ _ h)

-- a part of them rises
pub rising_part : (part whole : List Write) → IsPartOf part whole → is_rising whole ≡ true → is_rising part ≡ true
rising_part part whole p h =
    rising_back p.0 part (rising_front (p.0 ++ part) p.1 (subst (λ ws. is_rising ws ≡ true) p.2 h))

all_here : (f : Write → Bool) (os : List Write) (o : Write) (ps : List Write) → list_all f (os ++ o ∷ ps) ≡ true → f o ≡ true
all_here f [] o ps h = and_first _ _ h
all_here f (x ∷ os) o ps h = all_here f os o ps (and_second _ _ h)

-- a key below another is not that one
lower_differs : (k l : Key) → is_lt (key_cmp k l) ≡ true → same_key k l ≡ false
lower_differs k l h = ap is_eq (less_is (key_cmp k l) h)

both_false : (x y : Bool) → x ≡ false → y ≡ false → x || y ≡ false
both_false x y e f = grind arith

-- the key of the one is written by none before it
pub not_before : (os : List Write) (o : Write) (ps : List Write) → is_rising (os ++ o ∷ ps) ≡ true → is_written o.key os ≡ false
not_before [] o ps h = refl
not_before (x ∷ os) o ps h =
    both_false (same_key x.key o.key) (is_written o.key os)
    (lower_differs x.key o.key (all_here (λ y. is_lt (key_cmp x.key y.key)) os o ps (and_first _ _ h)))
    (not_before os o ps (and_second _ _ h))

-- ---- the records in which a version stands

-- one more
pub one_stored : (o : Write) (os : List Write) → put_at o.key true (λ k. is_written k os) ≡ (λ k. is_written k (os ++ o ∷ []))
one_stored o os = fun_ext (λ k. on (same_key o.key k) (is_written k os) (is_written k (os ++ o ∷ [])) (written_append k os (o ∷ [])))
  where
    on : (x y z : Bool) → z ≡ (y || (x || false)) → (if x then true else y) ≡ z
    on x y z e = grind arith

-- one less_is
pub one_removed : (o : Write) (os : List Write) → is_rising (o ∷ os) ≡ true → put_at o.key false (λ k. is_written k (o ∷ os)) ≡ (λ k. is_written k os)
one_removed o os h =
    fun_ext (λ k. on (same_key o.key k) (is_written k os) (λ e. subst (λ q. is_written q os ≡ false) (key_eq o.key k e) (none_below o.key os (and_first _ _ h))))
  where
    on : (x y : Bool) → (x ≡ true → y ≡ false) → (if x then false else (x || y)) ≡ y
    on true y f = sym (f refl)
    on false y f = refl
