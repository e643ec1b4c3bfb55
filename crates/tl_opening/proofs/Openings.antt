-- The opening rows as writes: those of the rows in rising order of record keys are they themselves.
use Rattle.std.proofs.Common.{◌≡◌, ℕ, Bool, true, false, cond, List, [], ◌∷◌, Option, Some, None, Ordering, map, refl, sym, ap, subst, ◌∙◌}
use Rattle.std.specs.Cmp.{tied_itself}
use Rattle.std.specs.Cmp.Lexicographic.{nat_list_cmp_total}
use Rattle.std.specs.FinMap as finmap
use Rattle.std.specs.FinMap.Entries.{below_all, find, is_sorted}
use Rattle.std.specs.List.{AllByRecursion}
use Rattle.std.specs.Ordering.{is_eq, is_lt, match_ordering}
use Rattle.tl_lemmas.proofs.Orders.{less_is}
use Rattle.tl_lemmas.proofs.Tests.{and_first, and_second}
use Rattle.tl_values.specs.declared.value.Value.{Value}
use Rattle.tl_schema.specs.declared.catalog.Catalog.{Catalog}
use Rattle.tl_schema.specs.Record.{record_key}
use Rattle.tl_write.specs.declared.write.Write.{Write}
use Rattle.tl_write.specs.Own.{key_cmp, put_write}
use Rattle.tl_write.specs.Tables.{Tables}
use Rattle.tl_write.proofs.Keys.{key_eq, none_below, sorted_entries}
use Rattle.tl_isolation.specs.Tables.{AreHome, IsHome, OpensTable, opening_writes, table_of}
use Rattle.tl_opening.specs.Rows.{number_in, opening_row}

abbrev pub Entry : Type 0
Entry = List ℕ × List Value

-- the row, written under its key
abbrev pub entry_write : Entry → Write
entry_write e = record { key = e.0; row = Some e.1 }

module _ (catalog : Catalog) where
  abbrev pub IsHomeEntry : Entry → Type 0
  IsHomeEntry e = IsHome catalog e.0 e.1

  -- what is so of each look-up is so of each entry
  listed : (es : List Entry) → is_sorted key_cmp es ≡ true → ((k : List ℕ) (row : List Value) → find key_cmp k es ≡ Some row → IsHome catalog k row)
      → AllByRecursion IsHomeEntry es
  listed [] s h = tt
  listed (e ∷ es) s h = (
    h e.0 e.1 (ap (λ (o : Ordering). cond (is_eq o) (Some e.1) (find key_cmp e.0 es)) (tied_itself nat_list_cmp_total e.0)),
    listed es (and_second (below_all key_cmp e.0 es) (is_sorted key_cmp es) s) (λ k row i. h k row (later k row i (is_eq (key_cmp k e.0)) refl)),
  )
    where
      none_some : (row : List Value) → ◌≡◌ {A = Option (List Value)} None (Some row) → ⊥
      none_some row e = cc

      later : (k : List ℕ) (row : List Value) → find key_cmp k es ≡ Some row → (b : Bool) → is_eq (key_cmp k e.0) ≡ b → cond b (Some e.1) (find key_cmp k es) ≡ Some row
      later k row i true t =
          absurd (none_some row (sym (ap (λ (l : List ℕ). find key_cmp l es) (key_eq k e.0 t) ∙ none_below e.0 es (and_first (below_all key_cmp e.0 es) (is_sorted key_cmp es) s)) ∙ i))
      later k row i false t = i

  pub home_entries : (tables : Tables) → AreHome catalog tables → AllByRecursion IsHomeEntry (finmap.entries tables)
  home_entries tables home = listed (finmap.entries tables) (sorted_entries tables) (λ k row e. home k row (finmap.get-entries tables k ∙ e))

  -- the number of its table is in its key
  its_number : (e : Entry) (h : IsHomeEntry e) → number_in e.0 ≡ h.number
  its_number e h = ap number_in h.own_key

  opens : (e : Entry) → IsHomeEntry e → OpensTable catalog (opening_row e)
  opens e h =
      subst (λ (number : ℕ). OpensTable catalog (record { table = number; row = e.1 })) (sym (its_number e h))
      (record { table = h.table; fits = h.fits; accepted = h.accepted })

  pub entries_open : (es : List Entry) → AllByRecursion IsHomeEntry es → AllByRecursion (OpensTable catalog) (map opening_row es)
  entries_open [] h = tt
  entries_open (e ∷ es) h = (opens e h.0, entries_open es h.1)

  -- a row's own record key is the key that it stands under
  same_write : (e : Entry) → IsHomeEntry e
      → ◌≡◌ {A = Write} (record { key = record_key (number_in e.0) (table_of catalog (number_in e.0)) e.1; row = Some e.1 }) (entry_write e)
  same_write e h =
      ap (λ (key : List ℕ). entry_write (key, e.1)) (ap (λ (number : ℕ). record_key number (table_of catalog number) e.1) (its_number e h) ∙ sym h.own_key)

  pub entries_written : (es : List Entry) → is_sorted key_cmp es ≡ true → AllByRecursion IsHomeEntry es → opening_writes catalog (map opening_row es) ≡ map entry_write es
  entries_written [] s h = refl
  entries_written (e ∷ es) s h =
      ap (put_write _) (entries_written es (and_second (below_all key_cmp e.0 es) (is_sorted key_cmp es) s) h.1)
      ∙ ap (λ (w : Write). put_write w (map entry_write es)) (same_write e h.0)
      ∙ in_front e es (and_first (below_all key_cmp e.0 es) (is_sorted key_cmp es) s)
    where
      in_front : (e : Entry) (es : List Entry) → below_all key_cmp e.0 es ≡ true → put_write (entry_write e) (map entry_write es) ≡ entry_write e ∷ map entry_write es
      in_front e [] b = refl
      in_front e (x ∷ xs) b =
          ap (λ (o : Ordering). match_ordering o (entry_write e ∷ map entry_write (x ∷ xs)) (entry_write e ∷ map entry_write xs) (entry_write x ∷ put_write (entry_write e) (map entry_write xs)))
          (less_is (key_cmp e.0 x.0) (and_first (is_lt (key_cmp e.0 x.0)) (below_all key_cmp e.0 xs) b))
