-- The rows of one table, with the own writes of that table over them, are those of the view.
use Rattle.std.proofs.Common.{◌≡◌, ℕ, Bool, true, false, cond, List, [], ◌∷◌, Option, Some, None, map, refl, sym, ap, ◌∙◌}
use Rattle.std.specs.Option.{option_or}
use Rattle.std.specs.Cmp.Lexicographic.{nat_list_cmp_total}
use Rattle.std.specs.FinMap as finmap
use Rattle.std.specs.FinMap.Entries.{find, find-where_key, is_sorted-where_key, same_entries}
use Rattle.std.proofs.lemmas.Bool.{false_from_ne_true}
use Rattle.tl_write.specs.declared.write.Write.{Write}
use Rattle.tl_write.specs.Own.{key_cmp}
use Rattle.tl_write.specs.Tables.{Tables, is_in, laid_over, records_in, writes_in}
use Rattle.tl_isolation.specs.Tables.{rows_in}
use Rattle.tl_si.specs.Places.{same_key}
use Rattle.tl_si.proofs.Laid.{Key, Row, equal_keys, get_laid, over, written}
use Rattle.tl_write.proofs.Keys.{key_eq}

-- what a write leaves at a key, and those after it
abbrev with_first : Bool → Write → Option (Option Row) → Option (Option Row)
with_first same w later = option_or later (cond same (Some w.row) None)

unwritten : (w : Write) (later : Option (Option Row)) (b : Bool) → b ≡ false → with_first b w later ≡ later
unwritten w later b e = ap (λ c. with_first c w later) e ∙ alone later
  where
    alone : (later : Option (Option Row)) → option_or later None ≡ later
    alone None = refl
    alone (Some x) = refl

module _ (number : ℕ) where
  -- a key of the table is another than one that isn't
  apart : (k l : Key) → is_in number k ≡ true → is_in number l ≡ false → k ≡ l → ⊥
  apart k l i o e = clash (is_in number k) i (ap (is_in number) e ∙ o)
    where
      clash : (b : Bool) → b ≡ true → b ≡ false → ⊥
      clash b e f = cc

  -- at a key of the table
  written_in : (k : Key) (ws : List Write) → is_in number k ≡ true → written k (writes_in number ws) ≡ written k ws
  written_in k [] i = refl
  written_in k (w ∷ ws) i = one (is_in number w.key) refl (written_in k ws i)
    where
      one : (b : Bool) → is_in number w.key ≡ b → written k (writes_in number ws) ≡ written k ws
          → written k (cond b (w ∷ writes_in number ws) (writes_in number ws)) ≡ with_first (same_key w.key k) w (written k ws)
      one true e later = ap (with_first (same_key w.key k) w) later
      one false e later =
          later ∙ sym (unwritten w (written k ws) (same_key w.key k) (false_from_ne_true (same_key w.key k) (λ f. apart k w.key i e (sym (key_eq w.key k f)))))

  -- at another key
  written_out : (k : Key) (ws : List Write) → is_in number k ≡ false → written k (writes_in number ws) ≡ None
  written_out k [] o = refl
  written_out k (w ∷ ws) o = one (is_in number w.key) refl (written_out k ws o)
    where
      one : (b : Bool) → is_in number w.key ≡ b → written k (writes_in number ws) ≡ None
          → written k (cond b (w ∷ writes_in number ws) (writes_in number ws)) ≡ None
      one true e later =
          unwritten w (written k (writes_in number ws)) (same_key w.key k) (false_from_ne_true (same_key w.key k) (λ f. apart w.key k e o (key_eq w.key k f))) ∙ later
      one false e later = later

  module _ (tables : Tables) (own : List Write) where
    abbrev viewed : Tables
    viewed = laid_over tables own

    -- the records of the table, with its own writes over them
    abbrev laid : Tables
    laid = laid_over (finmap.retain_keys tables (is_in number)) (writes_in number own)

    get_kept : (k : Key) → finmap.get (finmap.retain_keys tables (is_in number)) k ≡ cond (is_in number k) (finmap.get tables k) None
    get_kept k = finmap.get-retain_keys tables (is_in number) k (λ l e. ap (is_in number) (sym (equal_keys k l e)))

    get_both : (k : Key) → cond (is_in number k) (finmap.get viewed k) None ≡ finmap.get laid k
    get_both k =
        by (is_in number k) refl ∙ ap (over (written k (writes_in number own))) (sym (get_kept k))
        ∙ sym (get_laid (finmap.retain_keys tables (is_in number)) (writes_in number own) k)
      where
        by : (b : Bool) → is_in number k ≡ b
            → cond b (finmap.get viewed k) None ≡ over (written k (writes_in number own)) (cond b (finmap.get tables k) None)
        by true e = get_laid tables own k ∙ ap (λ (o : Option (Option Row)). over o (finmap.get tables k)) (sym (written_in k own e))
        by false e = sym (ap (λ (o : Option (Option Row)). over o None) (written_out k own e))

    find_records : (k : Key) → find key_cmp k (records_in number viewed) ≡ cond (is_in number k) (finmap.get viewed k) None
    find_records k =
        find-where_key key_cmp (is_in number) k (λ l e. ap (is_in number) (sym (equal_keys k l e))) (finmap.entries viewed)
        ∙ ap (λ (o : Option Row). cond (is_in number k) o None) (sym (finmap.get-entries viewed k))

    records_laid : finmap.entries laid ≡ records_in number viewed
    records_laid =
        sym (same_entries key_cmp nat_list_cmp_total equal_keys (records_in number viewed) (finmap.entries laid)
        (is_sorted-where_key key_cmp (is_in number) (finmap.entries viewed) (finmap.entries_sorted viewed)) (finmap.entries_sorted laid)
        (λ k. find_records k ∙ get_both k ∙ finmap.get-entries laid k))

    pub rows_laid : finmap.values laid ≡ rows_in number viewed
    rows_laid = ap (λ (es : List (Key × Row)). map (λ (e : Key × Row). e.1) es) records_laid
