-- Record keys in their order.
use Rattle.std.proofs.Common.{◌≡◌, ℕ, ◌||◌, Bool, true, false, cond, List, [], ◌∷◌, Some, None, filter, refl, ap, ◌∙◌}
use Rattle.std.specs.Cmp.Lexicographic.{nat_list_cmp_total}
use Rattle.std.specs.FinMap as finmap
use Rattle.std.specs.FinMap.{nat_cmp-IsAntisymmetric, slice_cmp-IsAntisymmetric}
use Rattle.std.specs.FinMap.Entries.{below_all, find, is_sorted}
use Rattle.std.specs.Ordering.{is_eq, is_lt}
use Rattle.std.proofs.lemmas.Bool.{and_from}
use Rattle.tl_lemmas.proofs.Orders.{equal_is, equal_itself, equal_turned, less_differs}
use Rattle.tl_lemmas.proofs.Tests.{and_first, and_second, held}
use Rattle.tl_write.specs.Own.{key_cmp}
use Rattle.tl_write.specs.Tables.{Tables}

-- keys that test the same are the same
pub key_eq : (k l : List ℕ) → is_eq (key_cmp k l) ≡ true → k ≡ l
key_eq k l e = slice_cmp-IsAntisymmetric nat_cmp-IsAntisymmetric k l (equal_is (key_cmp k l) e)

pub key_itself : (k : List ℕ) → is_eq (key_cmp k k) ≡ true
key_itself k = equal_itself (key_cmp k k) (nat_list_cmp_total.antisymm k k)

pub key_turned : (k l : List ℕ) → is_eq (key_cmp k l) ≡ is_eq (key_cmp l k)
key_turned k l = ap is_eq (nat_list_cmp_total.antisymm k l) ∙ equal_turned (key_cmp l k)

-- a key below each of these has no entry
pub none_below : {X : Type 0} (k : List ℕ) (es : List (List ℕ × X)) → below_all key_cmp k es ≡ true → find key_cmp k es ≡ None
none_below k [] h = refl
none_below k (e ∷ es) h =
    ap (λ (b : Bool). cond b (Some e.1) (find key_cmp k es)) (less_differs (key_cmp k e.0) (and_first (is_lt (key_cmp k e.0)) (below_all key_cmp k es) h))
    ∙ none_below k es (and_second (is_lt (key_cmp k e.0)) (below_all key_cmp k es) h)

pub sorted_entries : (tables : Tables) → is_sorted key_cmp (finmap.entries tables) ≡ true
sorted_entries tables = held _ (finmap.entries_sorted tables)

-- ---- entries that a test keeps

pub below_filter : {X : Type 0} (p : List ℕ × X → Bool) (k : List ℕ) (es : List (List ℕ × X)) → below_all key_cmp k es ≡ true → below_all key_cmp k (filter p es) ≡ true
below_filter p k [] h = refl
below_filter p k (e ∷ es) h =
    let here = and_first (is_lt (key_cmp k e.0)) (below_all key_cmp k es) h in
    let later = below_filter p k es (and_second (is_lt (key_cmp k e.0)) (below_all key_cmp k es) h) in
    elim (p e) as (λ b. below_all key_cmp k (cond b (e ∷ filter p es) (filter p es)) ≡ true) [
      | true ↦ and_from (is_lt (key_cmp k e.0)) (below_all key_cmp k (filter p es)) here later
      | false ↦ later
    ]

pub sorted_filter : {X : Type 0} (p : List ℕ × X → Bool) (es : List (List ℕ × X)) → is_sorted key_cmp es ≡ true → is_sorted key_cmp (filter p es) ≡ true
sorted_filter p [] h = refl
sorted_filter p (e ∷ es) h =
    let below = below_filter p e.0 es (and_first (below_all key_cmp e.0 es) (is_sorted key_cmp es) h) in
    let later = sorted_filter p es (and_second (below_all key_cmp e.0 es) (is_sorted key_cmp es) h) in
    elim (p e) as (λ b. is_sorted key_cmp (cond b (e ∷ filter p es) (filter p es)) ≡ true) [
      | true ↦ and_from (below_all key_cmp e.0 (filter p es)) (is_sorted key_cmp (filter p es)) below later
      | false ↦ later
    ]
