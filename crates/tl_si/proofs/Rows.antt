-- The row that a record had after the first commits is the one at the last of its places among them.
use Rattle.std.proofs.Common.{◌≡◌, ℕ, zero, suc, ◌+◌, ◌-◌, ◌<◌, ◌≤◌, ⊎_elim, Bool, true, false, cond, List, [], ◌∷◌, ◌++◌, Option, Some, None, drop, take, reverse, refl, sym, ap, subst, ◌∙◌, arith}
use Rattle.std.specs.Prelude.{find, nat_lt, option_and_then, option_map, slice_get}
use Rattle.std.specs.Option.{option_or}
use Rattle.std.specs.FinMap as finmap
use Rattle.std.proofs.lemmas.Bool.{cases_lt, lt-ltb, le-ltb}
use Rattle.std.proofs.lemmas.List.{reverse-append}
use Rattle.std.proofs.lemmas.List.Folds.{find-append}
use Rattle.tl_write.specs.declared.write.Write.{Write}
use Rattle.tl_write.specs.Own.{key_cmp}
use Rattle.tl_write.specs.Tables.{Tables, laid_over}
use Rattle.tl_isolation.specs.declared.state.Commit.{Commit}
use Rattle.tl_isolation.specs.State.{tables_after, tables_from}
use Rattle.tl_si.specs.declared.past.Place.{Place}
use Rattle.tl_si.specs.Places.{latest, places_from, places_in, row_after, same_key, write_at}
use Rattle.tl_si.proofs.Laid.{Key, Row, get_laid, over, written}

-- what stands at a place of a list, and what behind it
drop_first : {X : Type 0} (n : ℕ) (xs : List X) (x : X) (rest : List X) → drop n xs ≡ x ∷ rest → slice_get xs n ≡ Some x
drop_first zero [] x rest e = absurd cc
drop_first zero (y ∷ ys) x rest e = ap (λ (zs : List _). slice_get zs 0) e
drop_first (suc n) [] x rest e = absurd cc
drop_first (suc n) (y ∷ ys) x rest e = drop_first n ys x rest e

drop_suc : {X : Type 0} (n : ℕ) (xs : List X) (x : X) (rest : List X) → drop n xs ≡ x ∷ rest → drop (suc n) xs ≡ rest
drop_suc zero [] x rest e = absurd cc
drop_suc zero (y ∷ ys) x rest e = ap (λ (zs : List _). drop 1 zs) e
drop_suc (suc n) [] x rest e = absurd cc
drop_suc (suc n) (y ∷ ys) x rest e = drop_suc n ys x rest e

drop_next : {X : Type 0} (n : ℕ) (xs : List X) (x : X) (rest : List X) → drop n xs ≡ x ∷ rest → drop (n + 1) xs ≡ rest
drop_next n xs x rest e = subst (λ (m : ℕ). drop m xs ≡ rest) (next n) (drop_suc n xs x rest e)
  where
    next : (n : ℕ) → suc n ≡ n + 1
    next n = omega arith

-- the row at a place
abbrev row_at : List Commit → Place → Option Row
row_at commits place = option_and_then (λ (w : Write). w.row) (write_at commits place)

abbrev read : List Commit → Option Place → Option (Option Row)
read commits o = option_map (row_at commits) o

read_or : (commits : List Commit) (o p : Option Place) → read commits (option_or o p) ≡ option_or (read commits o) (read commits p)
read_or commits None p = refl
read_or commits (Some x) p = refl

over_or : (o p : Option (Option Row)) (below : Option Row) → over (option_or o p) below ≡ over o (over p below)
over_or None p below = refl
over_or (Some x) p below = refl

latest_append : (first : ℕ) (ps qs : List Place) → latest first (ps ++ qs) ≡ option_or (latest first qs) (latest first ps)
latest_append first ps qs =
    ap (find (λ (place : Place). nat_lt place.commit first)) (reverse-append ps qs)
    ∙ find-append (λ (place : Place). nat_lt place.commit first) (reverse qs) (reverse ps)

module _ (all : List Commit) (first : ℕ) (key : Key) where
  -- within one commit that is among the first
  in_commit : (n : ℕ) (c : Commit) → slice_get all n ≡ Some c → n < first → (at : ℕ) (ws : List Write) → drop at c.writes ≡ ws
      → read all (latest first (places_in n at key ws)) ≡ written key ws
  in_commit n c here less at [] left = refl
  in_commit n c here less at (w ∷ ws) left =
      ap (read all) (latest_append first (cond (same_key w.key key) (record { commit = n; at = at } ∷ []) []) (places_in n (at + 1) key ws))
      ∙ read_or all (latest first (places_in n (at + 1) key ws)) (latest first (cond (same_key w.key key) (record { commit = n; at = at } ∷ []) []))
      ∙ ap (λ (o : Option (Option Row)). option_or o (read all (latest first (cond (same_key w.key key) (record { commit = n; at = at } ∷ []) [])))) (in_commit n c here less (at + 1) ws (drop_next at c.writes w ws left))
      ∙ ap (option_or (written key ws)) (one (same_key w.key key))
    where
      there : row_at all (record { commit = n; at = at }) ≡ w.row
      there =
          ap (λ (o : Option Commit). option_and_then (λ (w : Write). w.row) (option_and_then (λ (c : Commit). slice_get c.writes at) o)) here
          ∙ ap (λ (o : Option Write). option_and_then (λ (w : Write). w.row) o) (drop_first at c.writes w ws left)

      one : (b : Bool) → read all (latest first (cond b (record { commit = n; at = at } ∷ []) [])) ≡ cond b (Some w.row) None
      one true = ap (λ (b : Bool). read all (cond b (Some (record { commit = n; at = at })) None)) (lt-ltb n first less) ∙ ap (λ (o : Option Row). Some o) there
      one false = refl

  -- none of a commit that isn't
  none_in : (n : ℕ) → first ≤ n → (at : ℕ) (ws : List Write) → latest first (places_in n at key ws) ≡ None
  none_in n more at [] = refl
  none_in n more at (w ∷ ws) =
      latest_append first (cond (same_key w.key key) (record { commit = n; at = at } ∷ []) []) (places_in n (at + 1) key ws)
      ∙ ap (λ (o : Option Place). option_or o (latest first (cond (same_key w.key key) (record { commit = n; at = at } ∷ []) []))) (none_in n more (at + 1) ws)
      ∙ one (same_key w.key key)
    where
      one : (b : Bool) → latest first (cond b (record { commit = n; at = at } ∷ []) []) ≡ None
      one true = ap (λ (b : Bool). cond b (Some (record { commit = n; at = at })) None) (le-ltb n first more)
      one false = refl

  none_from : (n : ℕ) → first ≤ n → (cs : List Commit) → latest first (places_from n key cs) ≡ None
  none_from n more [] = refl
  none_from n more (c ∷ cs) =
      latest_append first (places_in n 0 key c.writes) (places_from (n + 1) key cs)
      ∙ ap (λ (o : Option Place). option_or o (latest first (places_in n 0 key c.writes))) (none_from (n + 1) (omega arith) cs)
      ∙ none_in n more 0 c.writes

  take_none : (n : ℕ) → ◌≡◌ {A = List Commit} (take n []) []
  take_none zero = refl
  take_none (suc n) = refl

  rows_from : (n : ℕ) (cs : List Commit) (tables : Tables) → drop n all ≡ cs
      → finmap.get (tables_from tables (take (first - n) cs)) key ≡ over (read all (latest first (places_from n key cs))) (finmap.get tables key)
  rows_from n [] tables left = ap (λ (cs : List Commit). finmap.get (tables_from tables cs) key) (take_none (first - n))
  rows_from n (c ∷ cs) tables left =
      ⊎_elim
      (λ (less : n < first).
      let count : first - n ≡ suc (first - (n + 1)) = omega arith in
      let below : Option Row = finmap.get tables key in
      ap (λ (m : ℕ). finmap.get (tables_from tables (take m (c ∷ cs))) key) count
      ∙ rows_from (n + 1) cs (laid_over tables c.writes) (drop_next n all c cs left)
      ∙ ap (over (read all (latest first (places_from (n + 1) key cs)))) (get_laid tables c.writes key)
      ∙ ap (λ (o : Option (Option Row)). over (read all (latest first (places_from (n + 1) key cs))) (over o below)) (sym (in_commit n c (drop_first n all c cs left) less 0 c.writes refl))
      ∙ sym (over_or (read all (latest first (places_from (n + 1) key cs))) (read all (latest first (places_in n 0 key c.writes))) below)
      ∙ ap (λ (o : Option (Option Row)). over o below) (sym (read_or all (latest first (places_from (n + 1) key cs)) (latest first (places_in n 0 key c.writes))))
      ∙ ap (λ (o : Option Place). over (read all o) below) (sym (latest_append first (places_in n 0 key c.writes) (places_from (n + 1) key cs))))
      (λ (more : first ≤ n).
      let none : first - n ≡ 0 = omega arith in
      ap (λ (m : ℕ). finmap.get (tables_from tables (take m (c ∷ cs))) key) none
      ∙ ap (λ (o : Option Place). over (read all o) (finmap.get tables key)) (sym (none_from n more (c ∷ cs))))
      (cases_lt n first)

over_none : (commits : List Commit) (o : Option Place)
    → over (read commits o) None ≡ option_and_then (λ (w : Write). w.row) (option_and_then (write_at commits) o)
over_none commits None = refl
over_none commits (Some place) = refl

pub row_is : (commits : List Commit) (first : ℕ) (key : Key) → row_after commits first (places_from 0 key commits) ≡ finmap.get (tables_after (take first commits)) key
row_is commits first key =
    sym (over_none commits (latest first (places_from 0 key commits)))
    ∙ ap (over (read commits (latest first (places_from 0 key commits)))) (sym (finmap.get-empty key_cmp key))
    ∙ sym (rows_from commits first key 0 commits finmap.empty refl)
    ∙ ap (λ (n : ℕ). finmap.get (tables_after (take n commits)) key) start
  where
    start : first - 0 ≡ first
    start = omega arith
