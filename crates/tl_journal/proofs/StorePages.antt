-- A page of a shard has the record cells of its part of the range.
use Rattle.std.proofs.Common.{◌≡◌, ℕ, zero, suc, Bool, true, false, cond, List, [], ◌∷◌, ◌++◌, map, take, Option, Some, None, Ordering, Less, Equal, Greater, refl, sym, ap, ◌∙◌}
use Rattle.std.specs.Prelude.{◌≤◌, not, T}
use Rattle.std.specs.List.{AllByRecursion, filter}
use Rattle.std.specs.Ordering.{is_eq, is_lt, ordering_reverse}
use Rattle.std.specs.Cmp.{tied_itself}
use Rattle.std.specs.Cmp.Lexicographic.{nat_list_cmp_total}
use Rattle.std.specs.FinMap as finmap
use Rattle.std.specs.FinMap.Entries.{below_all, find, is_sorted}
use Rattle.std.proofs.lemmas.Bool.{and_from, and_parts, false≢true, not_from_false, or_parts}
use Rattle.tl_lemmas.proofs.Tests.{held, holds}
use Rattle.tl_base.specs.declared.place.Settings.{Settings}
use Rattle.tl_base.specs.declared.store.Item.{Item}
use Rattle.tl_cells.specs.declared.cell.Cell.{Cell as ShardCell}
use Rattle.tl_cells.specs.Cells.{item_of}
use Rattle.tl_versions.specs.Reading.{read_cell}
use Rattle.tl_write.specs.Own.{key_cmp}
use Rattle.tl_protocol.specs.Store.{Key, Cell, same_key}
use Rattle.tl_journal.specs.Ask.{Found}
use Rattle.tl_journal.specs.Bytes.{found_before, found_in}
use Rattle.tl_journal.specs.Reads.{key_behind}
use Rattle.tl_journal.specs.Served.{IsWithin, are_rising, is_found, is_record_key}
use Rattle.tl_journal.proofs.Fits.{FoundFits, VersionsFit}
use Rattle.tl_journal.proofs.ReadSizes.{within_is_record}
use Rattle.tl_journal.proofs.StorePage.{below_below, right_behind}
use Rattle.tl_write.proofs.Keys.{key_eq, key_turned, none_below}

abbrev Entry : Type 0
Entry = Key × ShardCell

-- ---- entries in the order of their keys

sorted : (m : finmap.FinMap key_cmp ShardCell) → is_sorted key_cmp (finmap.entries m) ≡ true
sorted m = held (is_sorted key_cmp (finmap.entries m)) (finmap.entries_sorted m)

below_lower : (k l : Key) (es : List Entry) → is_lt (key_cmp k l) ≡ true → below_all key_cmp l es ≡ true → below_all key_cmp k es ≡ true
below_lower k l [] h g = refl
below_lower k l (e ∷ es) h g =
    let parts = and_parts (is_lt (key_cmp l e.0)) (below_all key_cmp l es) g in
    and_from (is_lt (key_cmp k e.0)) (below_all key_cmp k es) (below_below k l e.0 h parts.0) (below_lower k l es h parts.1)

-- what is so of each look-up is so of each entry
pub each_entry : (P : Key → ShardCell → Type 0) (es : List Entry) → is_sorted key_cmp es ≡ true
    → ((k : Key) (x : ShardCell) → find key_cmp k es ≡ Some x → P k x) → AllByRecursion (λ e. P e.0 e.1) es
each_entry P [] s h = tt
each_entry P (e ∷ es) s h =
    let parts = and_parts (below_all key_cmp e.0 es) (is_sorted key_cmp es) s in (
      h e.0 e.1 (ap (λ (o : Ordering). cond (is_eq o) (Some e.1) (find key_cmp e.0 es)) (tied_itself nat_list_cmp_total e.0)),
      each_entry P es parts.1 (λ k x i. h k x (later k x i parts.0 (same_key k e.0) refl)),
    )
  where
    later : (k : Key) (x : ShardCell) → find key_cmp k es ≡ Some x → below_all key_cmp e.0 es ≡ true → (b : Bool) → same_key k e.0 ≡ b
        → cond b (Some e.1) (find key_cmp k es) ≡ Some x
    later k x i below true t =
        let none : find key_cmp k es ≡ None = ap (λ (l : Key). find key_cmp l es) (key_eq k e.0 t) ∙ none_below e.0 es below in
        absurd (none_some x (sym none ∙ i))
      where
        none_some : (x : ShardCell) → ◌≡◌ {A = Option ShardCell} None (Some x) → ⊥
        none_some x e = cc
    later k x i below false t = i

pub all_filtered : (P : Entry → Type 0) (test : Entry → Bool) (es : List Entry) → AllByRecursion (λ e. test e ≡ true → P e) es → AllByRecursion P (filter test es)
all_filtered P test [] h = tt
all_filtered P test (e ∷ es) h = by (test e) refl (all_filtered P test es h.1)
  where
    by : (b : Bool) → test e ≡ b → AllByRecursion P (filter test es) → AllByRecursion P (cond b (e ∷ filter test es) (filter test es))
    by true t rest = (h.0 t, rest)
    by false t rest = rest

pub all_taken : (P : Entry → Type 0) (n : ℕ) (es : List Entry) → AllByRecursion P es → AllByRecursion P (take n es)
all_taken P zero es h = tt
all_taken P (suc n) [] h = tt
all_taken P (suc n) (e ∷ es) h = (h.0, all_taken P n es h.1)

below_taken : (k : Key) (n : ℕ) (es : List Entry) → below_all key_cmp k es ≡ true → below_all key_cmp k (take n es) ≡ true
below_taken k zero es h = refl
below_taken k (suc n) [] h = refl
below_taken k (suc n) (e ∷ es) h =
    let parts = and_parts (is_lt (key_cmp k e.0)) (below_all key_cmp k es) h in
    and_from (is_lt (key_cmp k e.0)) (below_all key_cmp k (take n es)) parts.0 (below_taken k n es parts.1)

pub sorted_taken : (n : ℕ) (es : List Entry) → is_sorted key_cmp es ≡ true → is_sorted key_cmp (take n es) ≡ true
sorted_taken zero es h = refl
sorted_taken (suc n) [] h = refl
sorted_taken (suc n) (e ∷ es) h =
    let parts = and_parts (below_all key_cmp e.0 es) (is_sorted key_cmp es) h in
    and_from (below_all key_cmp e.0 (take n es)) (is_sorted key_cmp (take n es)) (below_taken e.0 n es parts.0) (sorted_taken n es parts.1)

pub taken_items : (n : ℕ) (es : List Entry) → take n (map item_of es) ≡ map item_of (take n es)
taken_items zero es = refl
taken_items (suc n) [] = refl
taken_items (suc n) (e ∷ es) = ap (λ (is : List Item). item_of e ∷ is) (taken_items n es)

-- ---- what is found

-- the entry is the cell of a record within the range
pub record EntryOk (few : ℕ) (settings : Settings) (cells : Key → Cell) (shard : ℕ) (from before : Key) (e : Entry) : Type 0 where
  pub within : IsWithin settings shard from before e.0
  pub read : read_cell e.1.value ≡ Some (cells e.0).versions
  pub fits : VersionsFit few (cells e.0).versions
  pub some : 1 ≤ (cells e.0).stamp

module _ (cells : Key → Cell) where
  pub found_of : Entry → Found
  found_of e = record { key = e.0; versions = (cells e.0).versions }

  module _ (few : ℕ) (settings : Settings) (shard : ℕ) (from before : Key) where
    pub pages_found : (es : List Entry) → AllByRecursion (EntryOk few settings cells shard from before) es → found_in (map item_of es) ≡ Some (map found_of es)
    unfolding found_of
    pages_found [] h = refl
    pages_found (e ∷ es) h = λ i. found_before e.0 (h.0.read i) (pages_found es h.1 i)

    pub pages_are : (es : List Entry) → AllByRecursion (EntryOk few settings cells shard from before) es
        → AllByRecursion (λ (f : Found). IsWithin settings shard from before f.key × (f.versions ≡ (cells f.key).versions)) (map found_of es)
    unfolding found_of
    pages_are [] h = tt
    pages_are (e ∷ es) h = ((h.0.within, refl), pages_are es h.1)

    pub pages_stored : (es : List Entry) → AllByRecursion (EntryOk few settings cells shard from before) es
        → AllByRecursion (λ (f : Found). 1 ≤ (cells f.key).stamp) (map found_of es)
    unfolding found_of
    pages_stored [] h = tt
    pages_stored (e ∷ es) h = (h.0.some, pages_stored es h.1)

    pub pages_fit : is_record_key from ≡ true → is_record_key before ≡ true → (es : List Entry) → AllByRecursion (EntryOk few settings cells shard from before) es
        → AllByRecursion (FoundFits few) (map found_of es)
    unfolding found_of
    pages_fit f b [] h = tt
    pages_fit f b (e ∷ es) h =
        let key : is_record_key e.0 ≡ true = within_is_record from before e.0 f b h.0.within.from_on h.0.within.below in
        (record { is_record = key; versions = h.0.fits }, pages_fit f b es h.1)

    pub from_each : (es : List Entry) → AllByRecursion (EntryOk few settings cells shard from before) es → AllByRecursion (λ (e : Entry). is_lt (key_cmp e.0 from) ≡ false) es
    from_each [] h = tt
    from_each (e ∷ es) h = (h.0.within.from_on, from_each es h.1)

    pub below_each : (es : List Entry) → AllByRecursion (EntryOk few settings cells shard from before) es → AllByRecursion (λ (e : Entry). is_lt (key_cmp e.0 before) ≡ true) es
    below_each [] h = tt
    below_each (e ∷ es) h = (h.0.within.below, below_each es h.1)

  behind_each : (k : Key) (es : List Entry) → below_all key_cmp k es ≡ true → AllByRecursion (λ (e : Entry). is_lt (key_cmp e.0 (k ++ 0 ∷ [])) ≡ false) es
  behind_each k [] h = tt
  behind_each k (e ∷ es) h =
      let parts = and_parts (is_lt (key_cmp k e.0)) (below_all key_cmp k es) h in
      (right_behind k e.0 parts.0, behind_each k es parts.1)

  pub pages_rise : (from : Key) (es : List Entry) → is_sorted key_cmp es ≡ true → AllByRecursion (λ (e : Entry). is_lt (key_cmp e.0 from) ≡ false) es
      → are_rising from (map found_of es) ≡ true
  unfolding found_of
  pages_rise from [] s h = refl
  pages_rise from (e ∷ es) s h =
      let parts = and_parts (below_all key_cmp e.0 es) (is_sorted key_cmp es) s in
      and_from (not (is_lt (key_cmp e.0 from))) (are_rising (e.0 ++ 0 ∷ []) (map found_of es)) (not_from_false (is_lt (key_cmp e.0 from)) h.0)
      (pages_rise (e.0 ++ 0 ∷ []) es parts.1 (behind_each e.0 es parts.0))

  -- a key that a whole page lacks has no entry
  pub whole_lacks : (key : Key) (es : List Entry) → is_found key (map found_of es) ≡ false → find key_cmp key es ≡ None
  unfolding found_of
  whole_lacks key [] h = refl
  whole_lacks key (e ∷ es) h =
      let parts = or_parts (same_key e.0 key) (is_found key (map found_of es)) h in
      ap (λ b. cond b (Some e.1) (find key_cmp key es)) (key_turned key e.0 ∙ parts.0) ∙ whole_lacks key es parts.1

  above_other : (o : Ordering) → is_lt o ≡ false → is_eq (ordering_reverse o) ≡ false → is_lt (ordering_reverse o) ≡ true
  above_other Less h g = absurd (false≢true (sym h))
  above_other Equal h g = absurd (false≢true (sym g))
  above_other Greater h g = refl

  -- nor has one that a part of it lacks, before where the part ends
  pub part_lacks : (before : Key) (n : ℕ) (es : List Entry) (from key : Key) → is_sorted key_cmp es ≡ true → AllByRecursion (λ (e : Entry). is_lt (key_cmp e.0 before) ≡ true) es
      → is_lt (key_cmp key from) ≡ false → is_lt (key_cmp key (key_behind from (map found_of (take n es)))) ≡ true → is_found key (map found_of (take n es)) ≡ false
      → (find key_cmp key es ≡ None) × (is_lt (key_cmp key before) ≡ true)
  unfolding found_of
  part_lacks before zero es from key s b h g f = absurd (false≢true (sym h ∙ g))
  part_lacks before (suc n) [] from key s b h g f = absurd (false≢true (sym h ∙ g))
  part_lacks before (suc n) (e ∷ es) from key s b h g f =
      by (λ above. part_lacks before n es (e.0 ++ 0 ∷ []) key parts.1 b.1 (right_behind e.0 key above) g others.1) (is_lt (key_cmp key e.0)) refl
    where
      parts : (below_all key_cmp e.0 es ≡ true) × (is_sorted key_cmp es ≡ true)
      parts = and_parts (below_all key_cmp e.0 es) (is_sorted key_cmp es) s

      others : (same_key e.0 key ≡ false) × (is_found key (map found_of (take n es)) ≡ false)
      others = or_parts (same_key e.0 key) (is_found key (map found_of (take n es))) f

      by : (is_lt (key_cmp e.0 key) ≡ true → (find key_cmp key es ≡ None) × (is_lt (key_cmp key before) ≡ true))
          → (t : Bool) → is_lt (key_cmp key e.0) ≡ t → (find key_cmp key (e ∷ es) ≡ None) × (is_lt (key_cmp key before) ≡ true)
      by more true t = (none_below key (e ∷ es) (and_from (is_lt (key_cmp key e.0)) (below_all key_cmp key es) t (below_lower key e.0 es t parts.0)), below_below key e.0 before t b.0)
      by more false t =
          let turned : key_cmp e.0 key ≡ ordering_reverse (key_cmp key e.0) = nat_list_cmp_total.antisymm e.0 key in
          let above : is_lt (key_cmp e.0 key) ≡ true = ap is_lt turned ∙ above_other (key_cmp key e.0) t (ap is_eq (sym turned) ∙ others.0) in
          let rest = more above in
          (ap (λ x. cond x (Some e.1) (find key_cmp key es)) (key_turned key e.0 ∙ others.0) ∙ rest.0, rest.1)
