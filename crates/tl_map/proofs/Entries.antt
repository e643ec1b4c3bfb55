-- What the list of a tree's entries says of the map that it is seen as.
use Rattle.std.proofs.Common.{◌≡◌, ℕ, Bool, true, false, cond, ◌&&◌, not, T, List, [], ◌∷◌, length, refl, sym, ap, subst, ◌∙◌, filter, None, Some}
use Rattle.std.specs.declared.cmp.Ordering.{Ordering}
use Rattle.std.specs.declared.cmp.Ordering.TheVariants.{Less, Equal, Greater}
use Rattle.std.specs.Ordering.{nat_cmp, is_eq, is_lt, is_le, is_gt, ordering_reverse, match_ordering, eq_by_cmp}
use Rattle.std.specs.Cmp.{IsTotalOrder, tied_itself, alike_right, eq_by_cmp_equiv}
use Rattle.std.specs.Cmp.Lexicographic.{slice_cmp, nat_list_cmp_total}
use Rattle.std.specs.BTreeMap.{insert_entry, is_at}
use Rattle.std.specs.BTreeMap.Range.{entries_between}
use Rattle.std.specs.declared.ops.Bound.TheVariants.{Included, Excluded, Unbounded}
use Rattle.std.specs.Map.{lookup, remove_entry, set_value}
use Rattle.std.specs.FinMap as map
use Rattle.std.specs.FinMap.Entries.{put, find, is_sorted, below_all, where_key, by_order, is_sorted-put, is_sorted-where_key, find-where_key}

first : (a b : Bool) → (a && b) ≡ true → a ≡ true
first true b p = refl
first false b p = p

second : (a b : Bool) → (a && b) ≡ true → b ≡ true
second true b p = p
second false b p = cc

less : (o : Ordering) → is_lt o ≡ true → o ≡ Less
less Less p = refl
less Equal p = cc
less Greater p = cc

equal : (o : Ordering) → is_eq o ≡ true → o ≡ Equal
equal Less p = cc
equal Equal p = refl
equal Greater p = cc

and_true : (b : Bool) → (b && true) ≡ b
and_true true = refl
and_true false = refl

and_false : (b : Bool) → (b && false) ≡ false
and_false true = refl
and_false false = refl

so : (b : Bool) → b ≡ true → T b
so b e = subst T (sym e) tt

true_if : (b : Bool) → T b → b ≡ true
true_if true h = refl
true_if false h = absurd h

-- whether a key is another than k
abbrev other : {K : Type 0} → (K → K → Ordering) → K → K → Bool
other R k x = not (eq_by_cmp R k x)

module _ {K X : Type 0} (R : K → K → Ordering) where
  same_choice : (o : Ordering) (a b c d : List (K × X)) → c ≡ d → match_ordering o a b c ≡ by_order o a b d
  same_choice Less a b c d e = refl
  same_choice Equal a b c d e = refl
  same_choice Greater a b c d e = e

  pub insert_entry-put : (k : K) (v : X) (es : List (K × X)) → insert_entry R es k v ≡ put R k v es
  insert_entry-put k v [] = refl
  insert_entry-put k v (e ∷ es) = same_choice (R k e.0) _ _ _ _ (ap (λ (rest : List (K × X)). e ∷ rest) (insert_entry-put k v es))

  pub lookup-find : (k : K) (es : List (K × X)) → lookup (is_at (R k)) es ≡ find R k es
  lookup-find k [] = refl
  lookup-find k (e ∷ es) = ap (cond (is_eq (R k e.0)) (Some e.1)) (lookup-find k es)

  module _ (o : IsTotalOrder R) where
    all_kept : (k : K) (y : K) (es : List (K × X)) → R k y ≡ Equal → below_all R y es ≡ true → where_key R (other R k) es ≡ es
    all_kept k y [] tied below = refl
    all_kept k y (e ∷ es) tied below =
        let apart : R k e.0 ≡ Less = o.congr k y e.0 tied ∙ less _ (first _ _ below) in
        ap (λ r. cond (not (is_eq r)) (e ∷ where_key R (other R k) es) (where_key R (other R k) es)) apart
        ∙ ap (λ (rest : List (K × X)). e ∷ rest) (all_kept k y es tied (second _ _ below))

    pub remove_entry-where_key : (k : K) (es : List (K × X)) → is_sorted R es ≡ true → remove_entry (is_at (R k)) es ≡ where_key R (other R k) es
    remove_entry-where_key k [] s = refl
    remove_entry-where_key k (e ∷ es) s =
        elim (is_eq (R k e.0)) as (λ b. is_eq (R k e.0) ≡ b → cond b es (e ∷ remove_entry (is_at (R k)) es) ≡ cond (not b) (e ∷ where_key R (other R k) es) (where_key R (other R k) es)) [
          | true ↦ λ tied. sym (all_kept k e.0 es (equal _ tied) (first _ _ s))
          | false ↦ λ _. ap (λ (rest : List (K × X)). e ∷ rest) (remove_entry-where_key k es (second _ _ s))
        ] refl

    none_below : (k y : K) (es : List (K × X)) → R k y ≡ Less → below_all R y es ≡ true → lookup (is_at (R k)) es ≡ None
    none_below k y [] low below = refl
    none_below k y (e ∷ es) low below =
        let apart : R k e.0 ≡ Less = o.trans k y e.0 low (less _ (first _ _ below)) in
        ap (λ r. cond (is_eq r) (Some e.1) (lookup (is_at (R k)) es)) apart ∙ none_below k y es low (second _ _ below)

    pub set_value-insert_entry : (k : K) (v found : X) (es : List (K × X)) → is_sorted R es ≡ true → lookup (is_at (R k)) es ≡ Some found → set_value (is_at (R k)) es v ≡ insert_entry R es k v
    set_value-insert_entry k v found [] s is = cc
    set_value-insert_entry k v found (e ∷ es) s is =
        elim (R k e.0) as (λ r. R k e.0 ≡ r → cond (is_eq r) (Some e.1) (lookup (is_at (R k)) es) ≡ Some found
        → cond (is_eq r) ((e.0, v) ∷ es) (e ∷ set_value (is_at (R k)) es v) ≡ match_ordering r ((k, v) ∷ e ∷ es) ((e.0, v) ∷ es) (e ∷ insert_entry R es k v)) [
          | Less ↦ λ low here. let none : lookup (is_at (R k)) es ≡ None = none_below k e.0 es low (first _ _ s) in cc
          | Equal ↦ λ _ _. refl
          | Greater ↦ λ _ here. ap (λ (rest : List (K × X)). e ∷ rest) (set_value-insert_entry k v found es (second _ _ s) here)
        ] refl is

-- the order of the keys
abbrev pub by_bytes : List ℕ → List ℕ → Ordering
by_bytes = slice_cmp nat_cmp

-- the map that a list of entries is seen as
abbrev pub seen : {X : Type 0} → List (List ℕ × X) → map.FinMap by_bytes X
seen es = map.from_sorted es

pub seen-none : {X : Type 0} (es : List (List ℕ × X)) → is_sorted by_bytes es ≡ true → length es ≡ 0 → seen es ≡ map.empty
seen-none es s none = map.empty_of_len (seen es) (map.len-entries (seen es) ∙ ap length (map.entries-from_sorted by_bytes es (so _ s)) ∙ none)

pub entries-seen : {X : Type 0} (es : List (List ℕ × X)) → is_sorted by_bytes es ≡ true → map.entries (seen es) ≡ es
entries-seen es s = map.entries-from_sorted by_bytes es (so _ s)

pub len-seen : {X : Type 0} (es : List (List ℕ × X)) → is_sorted by_bytes es ≡ true → map.len (seen es) ≡ length es
len-seen es s = map.len-entries (seen es) ∙ ap length (entries-seen es s)

pub get-seen : {X : Type 0} (es : List (List ℕ × X)) (k : List ℕ) → is_sorted by_bytes es ≡ true → map.get (seen es) k ≡ lookup (is_at (by_bytes k)) es
get-seen es k s = map.get-from_sorted by_bytes es k (so _ s) ∙ sym (lookup-find by_bytes k es)

pub sorted-insert : {X : Type 0} (es : List (List ℕ × X)) (k : List ℕ) (v : X) → is_sorted by_bytes es ≡ true → is_sorted by_bytes (insert_entry by_bytes es k v) ≡ true
sorted-insert es k v s = ap (is_sorted by_bytes) (insert_entry-put by_bytes k v es) ∙ true_if _ (is_sorted-put by_bytes nat_list_cmp_total k v es (so _ s))

pub seen-insert : {X : Type 0} (es : List (List ℕ × X)) (k : List ℕ) (v : X) → is_sorted by_bytes es ≡ true → seen (insert_entry by_bytes es k v) ≡ map.insert (seen es) k v
seen-insert es k v s =
    map.same_entries_map _ _ (entries-seen _ (sorted-insert es k v s)
    ∙ insert_entry-put by_bytes k v es
    ∙ ap (put by_bytes k v) (sym (entries-seen es s))
    ∙ sym (map.entries-insert nat_list_cmp_total (seen es) k v))

pub sorted-remove : {X : Type 0} (es : List (List ℕ × X)) (k : List ℕ) → is_sorted by_bytes es ≡ true → is_sorted by_bytes (remove_entry (is_at (by_bytes k)) es) ≡ true
sorted-remove es k s = ap (is_sorted by_bytes) (remove_entry-where_key by_bytes nat_list_cmp_total k es s) ∙ true_if _ (is_sorted-where_key by_bytes (other by_bytes k) es (so _ s))

unless : {A : Type 0} (b c : Bool) (x y : A) → b ≡ c → cond (not b) x y ≡ cond c y x
unless true c x y e = ap (λ t. cond t y x) e
unless false c x y e = ap (λ t. cond t y x) e

pub seen-remove : {X : Type 0} (es : List (List ℕ × X)) (k : List ℕ) → is_sorted by_bytes es ≡ true → seen (remove_entry (is_at (by_bytes k)) es) ≡ map.remove (seen es) k
seen-remove es k s =
    map.same_map nat_list_cmp_total (map.slice_cmp-IsAntisymmetric map.nat_cmp-IsAntisymmetric) _ _ (λ q.
    map.get-from_sorted by_bytes _ q (so _ (sorted-remove es k s))
    ∙ ap (find by_bytes q) (remove_entry-where_key by_bytes nat_list_cmp_total k es s)
    ∙ find-where_key by_bytes (other by_bytes k) q (λ x tied. ap (λ r. not (is_eq r)) (sym (alike_right nat_list_cmp_total q x k tied))) es
    ∙ unless _ _ _ _ ((eq_by_cmp_equiv nat_list_cmp_total).symm k q)
    ∙ ap (cond (eq_by_cmp by_bytes q k) None) (sym (map.get-from_sorted by_bytes es q (so _ s)))
    ∙ sym (map.get-remove nat_list_cmp_total (seen es) k q))

-- the entries from a key on
pub from-entries_between : {X : Type 0} (es : List (List ℕ × X)) (k : List ℕ) → entries_between by_bytes (Included k) Unbounded es ≡ filter (λ e. is_le (by_bytes k e.0)) es
from-entries_between es k = λ i. filter (λ e. and_true (is_le (by_bytes k e.0)) i) es

below_is : (a b : Bool) → a ≡ not b → (c : Bool) → (c && not b) ≡ (c && a)
below_is a b e c = ap (λ t. c && t) (sym e)

is_lt-reverse : (o : Ordering) → is_lt (ordering_reverse o) ≡ not (is_le o)
is_lt-reverse Less = refl
is_lt-reverse Equal = refl
is_lt-reverse Greater = refl

-- whether a key is below another, by the order from either side
below_turned : (k before : List ℕ) → is_lt (by_bytes k before) ≡ not (is_le (by_bytes before k))
below_turned k before = ap is_lt (nat_list_cmp_total.antisymm k before) ∙ is_lt-reverse (by_bytes before k)

-- the entries from a key on that are below another
pub within-entries_between : {X : Type 0} (es : List (List ℕ × X)) (k before : List ℕ) → entries_between by_bytes (Included k) (Excluded before) es ≡ filter (λ e. is_le (by_bytes k e.0) && is_lt (by_bytes e.0 before)) es
within-entries_between es k before = λ i. filter (λ e. below_is _ _ (below_turned e.0 before) (is_le (by_bytes k e.0)) i) es

filter-nothing : {X : Type 0} (p : X → Bool) (es : List X) → ((e : X) → p e ≡ false) → filter p es ≡ []
filter-nothing p [] none = refl
filter-nothing p (e ∷ es) none = ap (λ b. cond b (e ∷ filter p es) (filter p es)) (none e) ∙ filter-nothing p es none

-- no key is between two that fall
between_fallen : (lo hi : List ℕ) → is_gt (by_bytes lo hi) ≡ true → (key : List ℕ) → (is_le (by_bytes lo key) && is_lt (by_bytes key hi)) ≡ false
between_fallen lo hi fall key =
    elim (by_bytes key hi) as (λ r. by_bytes key hi ≡ r → (is_le (by_bytes lo key) && is_lt r) ≡ false) [
      | Less ↦ λ below. elim (by_bytes lo key) as (λ t. by_bytes lo key ≡ t → (is_le t && true) ≡ false) [
        | Less ↦ λ above. let rises : is_gt (by_bytes lo hi) ≡ false = ap is_gt (nat_list_cmp_total.trans lo key hi above below) in cc
        | Equal ↦ λ above. let rises : is_gt (by_bytes lo hi) ≡ false = ap is_gt (nat_list_cmp_total.congr lo key hi above ∙ below) in cc
        | Greater ↦ λ _. refl
      ] refl
      | Equal ↦ λ _. and_false _
      | Greater ↦ λ _. and_false _
    ] refl

pub not_above_itself : (key : List ℕ) → is_gt (by_bytes key key) ≡ false
not_above_itself key = ap is_gt (tied_itself nat_list_cmp_total key)

pub within-fallen : {X : Type 0} (es : List (List ℕ × X)) (lo hi : List ℕ) → is_gt (by_bytes lo hi) ≡ true → entries_between by_bytes (Included hi) (Excluded hi) es ≡ filter (λ e. is_le (by_bytes lo e.0) && is_lt (by_bytes e.0 hi)) es
within-fallen es lo hi fall =
    within-entries_between es hi hi
    ∙ filter-nothing _ es (λ e. itself (by_bytes hi e.0) _ (nat_list_cmp_total.antisymm e.0 hi))
    ∙ sym (filter-nothing _ es (λ e. between_fallen lo hi fall e.0))
  where
    itself : (r t : Ordering) → t ≡ ordering_reverse r → (is_le r && is_lt t) ≡ false
    itself Less t e = ap is_lt e
    itself Equal t e = ap is_lt e
    itself Greater t e = refl

-- the map after a value was written in the place of the one at a key
pub sorted-set_value : {X : Type 0} (es fs : List (List ℕ × X)) (k : List ℕ) (v found : X) → is_sorted by_bytes es ≡ true → Some found ≡ lookup (is_at (by_bytes k)) es → fs ≡ set_value (is_at (by_bytes k)) es v → is_sorted by_bytes fs ≡ true
sorted-set_value es fs k v found s here is = ap (is_sorted by_bytes) (is ∙ set_value-insert_entry by_bytes nat_list_cmp_total k v found es s (sym here)) ∙ sorted-insert es k v s

pub seen-set_value : {X : Type 0} (es fs : List (List ℕ × X)) (k : List ℕ) (v found : X) → is_sorted by_bytes es ≡ true → Some found ≡ lookup (is_at (by_bytes k)) es → fs ≡ set_value (is_at (by_bytes k)) es v → seen fs ≡ map.insert (seen es) k v
seen-set_value es fs k v found s here is = ap seen (is ∙ set_value-insert_entry by_bytes nat_list_cmp_total k v found es s (sym here)) ∙ seen-insert es k v s
