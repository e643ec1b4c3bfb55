-- Groups that grow by one row after the other are the groups of all rows.
use Rattle.std.proofs.Common.{◌≡◌, ℕ, Bool, true, false, not, ◌||◌, cond, List, [], ◌∷◌, ◌++◌, map, filter, refl, ap, sym, ◌∙◌, append_assoc, append-nil}
use Rattle.std.specs.List.{AllByRecursion, list_any}
use Rattle.std.proofs.lemmas.Cmp.{eq_by_cmp_equiv}
use Rattle.std.proofs.lemmas.List.{map-append}
use Rattle.std.specs.Cmp.{IsEquivalence}
use Rattle.std.proofs.lemmas.Bool.{not-false, or_parts}
use Rattle.tl_lemmas.proofs.Lists.{weaker}
use Rattle.tl_values.specs.declared.value.Value.{Value}
use Rattle.tl_values.proofs.ValueOrder.{row_total}
use Rattle.tl_values.specs.Value.{values_at}
use Rattle.tl_algebra.specs.declared.group.Group.{Group}
use Rattle.tl_algebra.specs.Group.{distinct, grouped, same_row}
use Rattle.tl_algebra.specs.Steps.{added}
use Rattle.tl_algebra.proofs.Groups.{either, new, passed_by, picked, with_row}

same_laws : IsEquivalence same_row
same_laws = eq_by_cmp_equiv row_total

filter_push : {A : Type 0} (p : A → Bool) (xs : List A) (x : A) → filter p (xs ++ x ∷ []) ≡ filter p xs ++ cond (p x) (x ∷ []) []
filter_push p [] x = refl
filter_push p (y ∷ ys) x = either (p y)
    (λ t. picked (p y) _ _ t ∙ ap (λ (l : List _). y ∷ l) (filter_push p ys x) ∙ ap (λ (l : List _). l ++ cond (p x) (x ∷ []) []) (sym (picked (p y) _ _ t)))
    (λ f. passed_by (p y) _ _ f ∙ filter_push p ys x ∙ ap (λ (l : List _). l ++ cond (p x) (x ∷ []) []) (sym (passed_by (p y) _ _ f)))

-- ---- distinct values, and one more

push_step : {A : Type 0} (a b : Bool) (y x : A) (ds : List A) (fs : List A) (q : A → Bool) → filter q ds ≡ fs → q x ≡ not a →
    y ∷ filter q (cond b ds (ds ++ x ∷ [])) ≡ cond (a || b) (y ∷ fs) ((y ∷ fs) ++ x ∷ [])
push_step true true y x ds fs q e h = ap (λ (l : List _). y ∷ l) e
push_step false true y x ds fs q e h = ap (λ (l : List _). y ∷ l) e
push_step true false y x ds fs q e h =
    ap (λ (l : List _). y ∷ l) (filter_push q ds x ∙ ap (λ (l : List _). filter q ds ++ l) (passed_by (q x) _ _ h) ∙ append-nil (filter q ds) ∙ e)
push_step false false y x ds fs q e h =
    ap (λ (l : List _). y ∷ l) (filter_push q ds x ∙ ap (λ (l : List _). filter q ds ++ l) (picked (q x) _ _ h) ∙ ap (λ (l : List _). l ++ x ∷ []) e)

distinct_push : {A : Type 0} (same : A → A → Bool) (xs : List A) (x : A) →
    distinct same (xs ++ x ∷ []) ≡ cond (list_any (λ y. same y x) xs) (distinct same xs) (distinct same xs ++ x ∷ [])
distinct_push same [] x = refl
distinct_push same (y ∷ ys) x =
    ap (λ (l : List _). y ∷ filter (λ z. not (same y z)) l) (distinct_push same ys x)
    ∙ push_step (same y x) (list_any (λ y. same y x) ys) y x (distinct same ys) _ (λ z. not (same y z)) refl refl

-- ---- no two of them are the same

abbrev AreDistinct : List (List Value) → Type 0
AreDistinct [] = Unit {0}
AreDistinct (k ∷ ks) = AllByRecursion (λ y. same_row k y ≡ false) ks × AreDistinct ks

kept : {A : Type 0} (P : A → Type 0) (b : Bool) (x : A) (xs : List A) → P x → AllByRecursion P xs → AllByRecursion P (cond b (x ∷ xs) xs)
kept P true x xs p all = (p, all)
kept P false x xs p all = all

filter_all : {A : Type 0} (P : A → Type 0) (q : A → Bool) (xs : List A) → AllByRecursion P xs → AllByRecursion P (filter q xs)
filter_all P q [] h = tt
filter_all P q (x ∷ xs) h = kept P (q x) x (filter q xs) h.0 (filter_all P q xs h.1)

kept_distinct : (b : Bool) (k : List Value) (ks : List (List Value)) → AllByRecursion (λ y. same_row k y ≡ false) ks → AreDistinct ks → AreDistinct (cond b (k ∷ ks) ks)
kept_distinct true k ks a d = (a, d)
kept_distinct false k ks a d = d

filter_distinct : (q : List Value → Bool) (ks : List (List Value)) → AreDistinct ks → AreDistinct (filter q ks)
filter_distinct q [] d = tt
filter_distinct q (k ∷ ks) d = kept_distinct (q k) k (filter q ks) (filter_all (λ y. same_row k y ≡ false) q ks d.0) (filter_distinct q ks d.1)

apart : (b : Bool) (x y : List Value) (ys : List (List Value)) → same_row x y ≡ b → AllByRecursion (λ z. same_row x z ≡ false) ys →
    AllByRecursion (λ z. same_row x z ≡ false) (cond (not b) (y ∷ ys) ys)
apart true x y ys e all = all
apart false x y ys e all = (e, all)

others : (x : List Value) (ys : List (List Value)) → AllByRecursion (λ z. same_row x z ≡ false) (filter (λ z. not (same_row x z)) ys)
others x [] = tt
others x (y ∷ ys) = apart (same_row x y) x y (filter (λ z. not (same_row x z)) ys) refl (others x ys)

are_distinct : (xs : List (List Value)) → AreDistinct (distinct same_row xs)
are_distinct [] = tt
are_distinct (x ∷ xs) = (others x (distinct same_row xs), filter_distinct (λ z. not (same_row x z)) (distinct same_row xs) (are_distinct xs))

-- ---- some distinct one is the same as x where some one is

any_filter : {A : Type 0} (p q : A → Bool) → ((z : A) → q z ≡ false → p z ≡ false) → (xs : List A) → list_any p (filter q xs) ≡ list_any p xs
any_filter p q h [] = refl
any_filter p q h (x ∷ xs) = either (q x)
    (λ t. ap (list_any p) (picked (q x) _ _ t) ∙ ap (λ b. p x || b) (any_filter p q h xs))
    (λ f. ap (list_any p) (passed_by (q x) _ _ f) ∙ any_filter p q h xs ∙ ap (λ b. b || list_any p xs) (sym (h x f)))

any_distinct : (x : List Value) (ys : List (List Value)) → list_any (λ y. same_row y x) (distinct same_row ys) ≡ list_any (λ y. same_row y x) ys
any_distinct x [] = refl
any_distinct x (y ∷ ys) = either (same_row y x)
    (λ t. ap (λ b. b || list_any (λ z. same_row z x) (filter (λ z. not (same_row y z)) (distinct same_row ys))) t ∙ ap (λ b. b || list_any (λ z. same_row z x) ys) (sym t))
    (λ f. ap (λ b. same_row y x || b)
    (any_filter (λ z. same_row z x) (λ z. not (same_row y z)) (λ z e. sym (same_laws.congr y z x (not-false (same_row y z) e)) ∙ f) (distinct same_row ys) ∙ any_distinct x ys))

or_true : (a b : Bool) → a ≡ false → (a || b) ≡ true → b ≡ true
or_true true b f e = absurd cc
or_true false b f e = e

none_from_any : {A : Type 0} (p : A → Bool) (xs : List A) → list_any p xs ≡ false → AllByRecursion (λ x. p x ≡ false) xs
none_from_any p [] e = tt
none_from_any p (x ∷ xs) e = let o = or_parts (p x) (list_any p xs) e in (o.0, none_from_any p xs o.1)

-- ---- the groups, with one row more

abbrev of_key : List ℕ → List (List Value) → List Value → Group
of_key places rows k = record { values = k; rows = filter (λ row. same_row k (values_at places row)) rows }

key_more : (places : List ℕ) (rows : List (List Value)) (row k : List Value) → same_row k (values_at places row) ≡ true →
    with_row row (of_key places rows k) ≡ of_key places (rows ++ row ∷ []) k
key_more places rows row k t =
    ap (λ (rs : List (List Value)). record { values = k; rows = rs })
    (sym (filter_push (λ r. same_row k (values_at places r)) rows row ∙ ap (λ (l : List (List Value)). filter (λ r. same_row k (values_at places r)) rows ++ l) (picked (same_row k (values_at places row)) _ _ t)))

key_stays : (places : List ℕ) (rows : List (List Value)) (row k : List Value) → same_row k (values_at places row) ≡ false →
    of_key places rows k ≡ of_key places (rows ++ row ∷ []) k
key_stays places rows row k f =
    let kept : List (List Value) = filter (λ r. same_row k (values_at places r)) rows in
    ap (λ (rs : List (List Value)). record { values = k; rows = rs })
    (sym (filter_push (λ r. same_row k (values_at places r)) rows row ∙ ap (λ (l : List (List Value)). kept ++ l) (passed_by (same_row k (values_at places row)) _ _ f) ∙ append-nil kept))

keys_stay : (places : List ℕ) (rows : List (List Value)) (row : List Value) (ks : List (List Value)) → AllByRecursion (λ k. same_row k (values_at places row) ≡ false) ks →
    map (of_key places rows) ks ≡ map (of_key places (rows ++ row ∷ [])) ks
keys_stay places rows row [] all = refl
keys_stay places rows row (k ∷ ks) all =
    ap (λ (g : Group). g ∷ map (of_key places rows) ks) (key_stays places rows row k all.0)
    ∙ ap (λ (gs : List Group). of_key places (rows ++ row ∷ []) k ∷ gs) (keys_stay places rows row ks all.1)

grown : (places : List ℕ) (rows : List (List Value)) (row : List Value) (ks : List (List Value)) → AreDistinct ks → list_any (λ k. same_row k (values_at places row)) ks ≡ true →
    added places row (map (of_key places rows) ks) ≡ map (of_key places (rows ++ row ∷ [])) ks
grown places rows row [] d e = absurd cc
grown places rows row (k ∷ ks) d e =
    let x : List Value = values_at places row in
    either (same_row k x)
    (λ t. picked (same_row k x) _ _ t
    ∙ ap (λ (g : Group). g ∷ map (of_key places rows) ks) (key_more places rows row k t)
    ∙ ap (λ (gs : List Group). of_key places (rows ++ row ∷ []) k ∷ gs)
    (keys_stay places rows row ks (weaker (λ y. same_row k y ≡ false) (λ y. same_row y x ≡ false) (λ y f. same_laws.symm y x ∙ sym (same_laws.congr k x y t) ∙ f) ks d.0)))
    (λ f. passed_by (same_row k x) _ _ f
    ∙ ap (λ (g : Group). g ∷ added places row (map (of_key places rows) ks)) (key_stays places rows row k f)
    ∙ ap (λ (gs : List Group). of_key places (rows ++ row ∷ []) k ∷ gs) (grown places rows row ks d.1 (or_true (same_row k x) _ f e)))

begun : (places : List ℕ) (rows : List (List Value)) (row : List Value) (ks : List (List Value)) → AllByRecursion (λ k. same_row k (values_at places row) ≡ false) ks →
    added places row (map (of_key places rows) ks) ≡ map (of_key places rows) ks ++ new places row ∷ []
begun places rows row [] all = refl
begun places rows row (k ∷ ks) all = passed_by (same_row k (values_at places row)) _ _ all.0 ∙ ap (λ (gs : List Group). of_key places rows k ∷ gs) (begun places rows row ks all.1)

none_of : (places : List ℕ) (x : List Value) (rows : List (List Value)) → list_any (λ y. same_row y x) (map (values_at places) rows) ≡ false →
    filter (λ row. same_row x (values_at places row)) rows ≡ []
none_of places x [] e = refl
none_of places x (row ∷ rows) e =
    let o = or_parts (same_row (values_at places row) x) (list_any (λ y. same_row y x) (map (values_at places) rows)) e in
    passed_by (same_row x (values_at places row)) _ _ (same_laws.symm x (values_at places row) ∙ o.0) ∙ none_of places x rows o.1

first_of_key : (places : List ℕ) (rows : List (List Value)) (row : List Value) → list_any (λ y. same_row y (values_at places row)) (map (values_at places) rows) ≡ false →
    new places row ≡ of_key places (rows ++ row ∷ []) (values_at places row)
first_of_key places rows row e =
    let x : List Value = values_at places row in
    ap (λ (rs : List (List Value)). record { values = x; rows = rs })
    (sym (filter_push (λ r. same_row x (values_at places r)) rows row
    ∙ ap (λ (l : List (List Value)). l ++ cond (same_row x x) (row ∷ []) []) (none_of places x rows e)
    ∙ picked (same_row x x) (row ∷ []) [] (same_laws.refl x)))

abbrev keys : List ℕ → List (List Value) → List (List Value)
keys places rows = distinct same_row (map (values_at places) rows)

abbrev by_keys : List ℕ → List (List Value) → List Group
by_keys places rows = map (of_key places rows) (keys places rows)

keys_push : (places : List ℕ) (rows : List (List Value)) (row : List Value) →
    keys places (rows ++ row ∷ []) ≡ cond (list_any (λ y. same_row y (values_at places row)) (map (values_at places) rows)) (keys places rows) (keys places rows ++ values_at places row ∷ [])
keys_push places rows row = ap (distinct same_row) (map-append (values_at places) rows (row ∷ [])) ∙ distinct_push same_row (map (values_at places) rows) (values_at places row)

one_on : (places : List ℕ) (rows : List (List Value)) (row : List Value) → added places row (by_keys places rows) ≡ by_keys places (rows ++ row ∷ [])
one_on places rows row =
    let x : List Value = values_at places row in
    let ks : List (List Value) = keys places rows in
    let values : List (List Value) = map (values_at places) rows in
    let more : List (List Value) = rows ++ row ∷ [] in
    either (list_any (λ y. same_row y x) values)
    (λ t. grown places rows row ks (are_distinct values) (any_distinct x values ∙ t)
    ∙ ap (map (of_key places more)) (sym (keys_push places rows row ∙ picked (list_any (λ y. same_row y x) values) _ _ t)))
    (λ f. let none : AllByRecursion (λ k. same_row k x ≡ false) ks = none_from_any (λ k. same_row k x) ks (any_distinct x values ∙ f) in
    begun places rows row ks none
    ∙ ap (λ (gs : List Group). gs ++ new places row ∷ []) (keys_stay places rows row ks none)
    ∙ ap (λ (g : Group). map (of_key places more) ks ++ g ∷ []) (first_of_key places rows row f)
    ∙ sym (map-append (of_key places more) ks (x ∷ []))
    ∙ ap (map (of_key places more)) (sym (keys_push places rows row ∙ passed_by (list_any (λ y. same_row y x) values) _ _ f)))

-- the groups with further rows
abbrev pub added_all : List ℕ → List (List Value) → List Group → List Group
added_all places [] groups = groups
added_all places (row ∷ rows) groups = added_all places rows (added places row groups)

all_on : (places : List ℕ) (more rows : List (List Value)) → added_all places more (by_keys places rows) ≡ by_keys places (rows ++ more)
all_on places [] rows = ap (by_keys places) (sym (append-nil rows))
all_on places (row ∷ more) rows =
    ap (added_all places more) (one_on places rows row) ∙ all_on places more (rows ++ row ∷ []) ∙ ap (by_keys places) (append_assoc rows (row ∷ []) more)

rows_of_keys : (places : List ℕ) (rows ks : List (List Value)) →
    map (λ (g : Group). g.rows) (map (of_key places rows) ks) ≡ map (λ (k : List Value). filter (λ row. same_row k (values_at places row)) rows) ks
rows_of_keys places rows [] = refl
rows_of_keys places rows (k ∷ ks) = ap (λ (l : List (List (List Value))). filter (λ row. same_row k (values_at places row)) rows ∷ l) (rows_of_keys places rows ks)

pub are_grouped : (places : List ℕ) (rows : List (List Value)) → map (λ (g : Group). g.rows) (added_all places rows []) ≡ grouped places rows
unfolding grouped
are_grouped places rows = ap (map (λ (g : Group). g.rows)) (all_on places rows []) ∙ rows_of_keys places rows (keys places rows)
