-- The shards open with the store of the protocol.
use Rattle.std.proofs.Common.{◌≡◌, ℕ, ◌+◌, ◌≤◌, Bool, true, false, cond, List, [], ◌∷◌, ◌++◌, length, map, Option, Some, None, unwrap_or, refl, sym, ap, ◌∙◌, subst, append-nil, arith}
use Rattle.std.specs.Prelude.{◌==◌, if◌then◌else◌}
use Rattle.std.specs.List.{AllByRecursion, filter}
use Rattle.std.specs.FinMap.Entries.{find}
use Rattle.std.proofs.lemmas.Bool.{eq-eqb, eqb-true}
use Rattle.std.proofs.lemmas.List.{length-append}
use Rattle.std.proofs.lemmas.List.Elements.{All-from_recursion}
use Rattle.tl_base.specs.declared.place.Settings.{Settings}
use Rattle.tl_values.specs.declared.value.Value.{Value}
use Rattle.tl_schema.specs.declared.catalog.Setup.{Setup}
use Rattle.tl_cells.specs.declared.cell.Cell.{Cell as ShardCell}
use Rattle.tl_cells.specs.Cells.{absent}
use Rattle.tl_cells.specs.Place.{shard_of_key}
use Rattle.tl_cells.specs.Serves.{Call, cell_at, count_at, stores}
use Rattle.tl_descriptor.specs.Reading as sets
use Rattle.tl_descriptor.proofs.SetReading.{set_again}
use Rattle.tl_manager.specs.State.{opening_copy}
use Rattle.tl_versions.specs.Cell as cells
use Rattle.tl_versions.specs.Cell.{AreChanges, FitsVersion, IsCell}
use Rattle.tl_versions.specs.Reading.{read_cell}
use Rattle.tl_versions.proofs.CellReading.{cell_again}
use Rattle.tl_write.specs.declared.write.Write.{Write}
use Rattle.tl_write.specs.Own.{key_cmp}
use Rattle.tl_isolation.specs.Tables.{opening_writes}
use Rattle.tl_protocol.specs.Store.{Key, last_of, same_key, written}
use Rattle.tl_protocol.specs.Run.{Layout, opening_versions, opening_world}
use Rattle.tl_journal.specs.Binding.{IsBrief, WriteFits}
use Rattle.tl_journal.specs.Bytes.{commits_key, counter_key, log_key}
use Rattle.tl_journal.specs.Journal.{opening_calls, opening_cells, shard_log, stores_from}
use Rattle.tl_journal.specs.Served.{is_record_key, parts_of}
use Rattle.tl_journal.proofs.Fits.{VersionsFit}
use Rattle.tl_journal.proofs.Store.{AreStores, RecordIs, StoreIs, StoreOk, holds_same, other_record}
use Rattle.tl_journal.proofs.StoreLogs.{cell_in, commits_no_log, commits_no_record, counter_in, log_no_record}
use Rattle.tl_write.proofs.Keys.{key_eq, key_turned}

-- a row that can be stored
abbrev RowIs : Option (List Value) → Type 0
RowIs row = AreChanges row × IsBrief row

abbrev Stored : Type 0
Stored = Key × List ℕ

abbrev Entry : Type 0
Entry = Key × ShardCell

-- the stamp with which a cell opens
abbrev pub opening_stamp : Settings → Setup → Key → ℕ
opening_stamp settings setup key = (cell_in settings setup [] key).stamp

-- ---- what stands in a list of stores

find_last : (q : Key) (es : List Entry) (k : Key) (x : ShardCell) → find key_cmp q (es ++ (k, x) ∷ []) ≡ last_of (if same_key q k then Some x else None) (find key_cmp q es)
find_last q [] k x = refl
find_last q (d ∷ es) k x = by (same_key q d.0) (find_last q es k x)
  where
    by : (y : Bool) → find key_cmp q (es ++ (k, x) ∷ []) ≡ last_of (if same_key q k then Some x else None) (find key_cmp q es)
        → cond y (Some d.1) (find key_cmp q (es ++ (k, x) ∷ [])) ≡ last_of (if same_key q k then Some x else None) (cond y (Some d.1) (find key_cmp q es))
    by true more = refl
    by false more = more

last_none : {A : Type 0} (o : Option A) → last_of None o ≡ o
last_none None = refl
last_none (Some x) = refl

all_push : (P : Entry → Type 0) (es : List Entry) (e : Entry) → AllByRecursion P es → P e → AllByRecursion P (es ++ e ∷ [])
all_push P [] e h last = (last, tt)
all_push P (d ∷ es) e h last = (h.0, all_push P es e h.1 last)

-- the stores that open a shard
abbrev opened : ℕ → List Stored → List Entry
opened n cs = stores (stores_from n cs)

length_opened : (n : ℕ) (cs : List Stored) → length (opened n cs) ≡ length cs
length_opened n [] = refl
length_opened n (c ∷ cs) =
    let both = length-append (opened (n + 1) cs) ((c.0, (let x : ShardCell = record { stamp = n + 1; value = c.1 } in x)) ∷ []) in
    let rest = length_opened (n + 1) cs in
    omega arith

opened_ok : (settings : Settings) (s most n : ℕ) (cs : List Stored) → AllByRecursion (λ (c : Stored). shard_of_key c.0 settings.shards ≡ s) cs → n + length cs ≤ most
    → AllByRecursion (StoreOk settings s most) (opened n cs)
opened_ok settings s most n [] h le = tt
opened_ok settings s most n (c ∷ cs) h le =
    all_push (StoreOk settings s most) (opened (n + 1) cs) (c.0, record { stamp = n + 1; value = c.1 })
    (opened_ok settings s most (n + 1) cs h.1 (omega arith)) (record { home = h.0; below = omega arith; some = omega arith })

no_counts : (n : ℕ) (cs : List Stored) (key : Key) → count_at (stores_from n cs) key ≡ 0
no_counts n [] key = refl
no_counts n (c ∷ cs) key = let rest = no_counts (n + 1) cs key in omega arith

-- ---- the opening cells of a shard

abbrev lives_at : Settings → ℕ → Stored → Bool
lives_at settings s c = shard_of_key c.0 settings.shards == s

abbrev pub spelled : Write → Stored
spelled w = (w.key, cells.spelling (record { tid = 0; row = w.row } ∷ []))

-- the cell of a row that was written, or none
abbrev OpensAs : Option ShardCell → Option (Option (List Value)) → Type 0
OpensAs None None = Unit {0}
OpensAs (Some c) (Some row) = c.value ≡ cells.spelling (record { tid = 0; row = row } ∷ [])
OpensAs None (Some row) = ⊥
OpensAs (Some c) None = ⊥

last_both : (a b : Option ShardCell) (f g : Option (Option (List Value))) → OpensAs a f → OpensAs b g → OpensAs (last_of a b) (last_of f g)
last_both a None f None h i = h
last_both a (Some c) f (Some row) h i = i
last_both a None f (Some row) h i = absurd i
last_both a (Some c) f None h i = absurd i

homes : (settings : Settings) (s : ℕ) (cs : List Stored) → AllByRecursion (λ (c : Stored). shard_of_key c.0 settings.shards ≡ s) (filter (lives_at settings s) cs)
homes settings s [] = tt
homes settings s (c ∷ cs) = by (lives_at settings s c) refl (homes settings s cs)
  where
    by : (b : Bool) → lives_at settings s c ≡ b → AllByRecursion (λ (c : Stored). shard_of_key c.0 settings.shards ≡ s) (filter (lives_at settings s) cs)
        → AllByRecursion (λ (c : Stored). shard_of_key c.0 settings.shards ≡ s) (cond b (c ∷ filter (lives_at settings s) cs) (filter (lives_at settings s) cs))
    by true e rest = (eqb-true (shard_of_key c.0 settings.shards) s e, rest)
    by false e rest = rest

-- a store under another key, or in another shard, is not found
passes : (settings : Settings) (s : ℕ) (q : Key) (c : Stored) (cs : List Stored) (P : Option ShardCell → Type 0) → same_key c.0 q ≡ false
    → ((n : ℕ) → P (find key_cmp q (opened n (filter (lives_at settings s) cs)))) → (n : ℕ) → P (find key_cmp q (opened n (filter (lives_at settings s) (c ∷ cs))))
passes settings s q c cs P other h n = by (lives_at settings s c)
  where
    by : (b : Bool) → P (find key_cmp q (opened n (cond b (c ∷ filter (lives_at settings s) cs) (filter (lives_at settings s) cs))))
    by true =
        let rest : List Entry = opened (n + 1) (filter (lives_at settings s) cs) in
        let x : ShardCell = record { stamp = n + 1; value = c.1 } in
        subst P (sym (find_last q rest c.0 x ∙ ap (λ (b : Bool). last_of (if b then Some x else None) (find key_cmp q rest)) (key_turned q c.0 ∙ other) ∙ last_none (find key_cmp q rest))) (h (n + 1))
    by false = h n

opens : (settings : Settings) (s : ℕ) (q : Key) → shard_of_key q settings.shards ≡ s → (ws : List Write) (n : ℕ)
    → OpensAs (find key_cmp q (opened n (filter (lives_at settings s) (map spelled ws)))) (written q ws)
opens settings s q home [] n = tt
opens settings s q home (w ∷ ws) n = by (same_key w.key q) refl (λ m. opens settings s q home ws m)
  where
    by : (b : Bool) → same_key w.key q ≡ b → ((m : ℕ) → OpensAs (find key_cmp q (opened m (filter (lives_at settings s) (map spelled ws)))) (written q ws))
        → OpensAs (find key_cmp q (opened n (filter (lives_at settings s) (map spelled (w ∷ ws))))) (last_of (if b then Some w.row else None) (written q ws))
    by false e rest =
        subst (λ (o : Option (Option (List Value))). OpensAs (find key_cmp q (opened n (filter (lives_at settings s) (map spelled (w ∷ ws))))) o) (sym (last_none (written q ws)))
        (passes settings s q (spelled w) (map spelled ws) (λ (o : Option ShardCell). OpensAs o (written q ws)) e rest n)
    by true e rest =
        let lives : lives_at settings s (spelled w) ≡ true = eq-eqb (shard_of_key w.key settings.shards) s (ap (λ (k : Key). shard_of_key k settings.shards) (key_eq w.key q e) ∙ home) in
        let others : List Entry = opened (n + 1) (filter (lives_at settings s) (map spelled ws)) in
        let x : ShardCell = record { stamp = n + 1; value = cells.spelling (record { tid = 0; row = w.row } ∷ []) } in
        let looked : find key_cmp q (opened n (filter (lives_at settings s) (map spelled (w ∷ ws)))) ≡ last_of (Some x) (find key_cmp q others) =
        ap (λ (b : Bool). find key_cmp q (opened n (cond b (spelled w ∷ filter (lives_at settings s) (map spelled ws)) (filter (lives_at settings s) (map spelled ws))))) lives
        ∙ find_last q others w.key x
        ∙ ap (λ (b : Bool). last_of (if b then Some x else None) (find key_cmp q others)) (key_turned q w.key ∙ e) in
        subst (λ (o : Option ShardCell). OpensAs o (last_of (Some w.row) (written q ws))) (sym looked)
        (last_both (Some x) (find key_cmp q others) (Some w.row) (written q ws) refl (rest (n + 1)))

none_written : (q : Key) (ws : List Write) → AllByRecursion WriteFits ws → ((k : Key) → is_record_key k ≡ true → same_key k q ≡ false) → written q ws ≡ None
none_written q [] fits other = refl
none_written q (w ∷ ws) fits other =
    ap (λ (b : Bool). last_of (if b then Some w.row else None) (written q ws)) (other w.key fits.0.key.is_record) ∙ last_none (written q ws) ∙ none_written q ws fits.1 other

row_written : (q : Key) (ws : List Write) → AllByRecursion WriteFits ws → (row : Option (List Value)) → written q ws ≡ Some row → RowIs row
row_written q [] fits row e = absurd cc
row_written q (w ∷ ws) fits row e = by (written q ws) refl (same_key w.key q) e (row_written q ws fits.1 row)
  where
    by : (o : Option (Option (List Value))) → written q ws ≡ o → (b : Bool) → last_of (if b then Some w.row else None) o ≡ Some row
        → (written q ws ≡ Some row → RowIs row) → RowIs row
    by (Some r) f b e more = more (f ∙ e)
    by None f true e more = subst RowIs (inside w.row row e) (fits.0.row, fits.0.brief)
      where
        inside : (x y : Option (List Value)) → ◌≡◌ {A = Option (Option (List Value))} (Some x) (Some y) → x ≡ y
        inside x y e = cc
    by None f false e more = absurd cc

not_found : (o : Option ShardCell) → OpensAs o None → o ≡ None
not_found None h = refl
not_found (Some c) h = absurd h

-- the one version of an opening row
one_version : (row : Option (List Value)) → RowIs row → VersionsFit 1 (record { tid = 0; row = row } ∷ [])
one_version row fits = record {
  cell = record { distinct = refl; fit = All-from_recursion FitsVersion (record { tid = 0; row = row } ∷ []) (record { tid = omega arith; change = fits.0 }, tt) };
  brief = (fits.1, tt);
  number = omega arith;
}

record_opens : (c : Option ShardCell) (o : Option (Option (List Value))) → OpensAs c o → ((row : Option (List Value)) → o ≡ Some row → RowIs row)
    → (stamp : ℕ) → (unwrap_or c absent).stamp ≡ stamp → RecordIs 1 (unwrap_or c absent) (record { stamp = stamp; versions = opening_versions o })
unfolding read_cell
record_opens None None h fits stamp e = record {
  stamp = e;
  read = refl;
  fits = record { cell = record { distinct = refl; fit = All-from_recursion FitsVersion [] tt }; brief = tt; number = omega arith };
}
record_opens (Some c) (Some row) h fits stamp e =
    let one : VersionsFit 1 (record { tid = 0; row = row } ∷ []) = one_version row (fits row refl) in
    record {
      stamp = e;
      read = ap read_cell h ∙ cell_again (record { tid = 0; row = row } ∷ []) (record { cell = one.cell; count = omega arith });
      fits = one;
    }
record_opens None (Some row) h fits stamp e = absurd h
record_opens (Some c) None h fits stamp e = absurd h

-- ---- the opening

module _ (settings : Settings) (setup : Setup) where
  writes : List Write
  writes = opening_writes setup.catalog setup.rows

  log_opening : (s : ℕ) → shard_log settings setup s [] ≡ opening_calls settings setup s
  log_opening s = append-nil (opening_calls settings setup s)

  looked : Key → Option ShardCell
  looked q = find key_cmp q (stores (opening_calls settings setup (shard_of_key q settings.shards)))

  shown : Key → ShardCell
  shown q = unwrap_or (looked q) absent

  cell_opening : (q : Key) → cell_in settings setup [] q ≡ shown q
  unfolding shown looked
  cell_opening q = ap (λ (log : List Call). cell_at log q) (log_opening (shard_of_key q settings.shards))

  counter_opening : counter_in settings setup [] ≡ 0
  counter_opening =
      let s : ℕ = shard_of_key counter_key settings.shards in
      ap (λ (log : List Call). count_at log counter_key) (log_opening s) ∙ no_counts 0 (filter (lives_at settings s) (opening_cells setup)) counter_key

  -- under another key than that of the commits cell
  others_open : (q : Key) → same_key commits_key q ≡ false → OpensAs (looked q) (written q writes)
  unfolding looked writes
  others_open q other =
      passes settings (shard_of_key q settings.shards) q (commits_key, sets.spelling opening_copy) (map spelled (opening_writes setup.catalog setup.rows))
      (λ (o : Option ShardCell). OpensAs o (written q (opening_writes setup.catalog setup.rows))) other
      (opens settings (shard_of_key q settings.shards) q refl (opening_writes setup.catalog setup.rows)) 0

  commits_open : AllByRecursion WriteFits writes → looked commits_key ≡ Some (record { stamp = 1; value = sets.spelling opening_copy })
  unfolding looked writes
  commits_open fits =
      let s : ℕ = shard_of_key commits_key settings.shards in
      let x : ShardCell = record { stamp = 1; value = sets.spelling opening_copy } in
      let rest : List Stored = filter (lives_at settings s) (map spelled (opening_writes setup.catalog setup.rows)) in
      let unwritten : written commits_key (opening_writes setup.catalog setup.rows) ≡ None =
      none_written commits_key (opening_writes setup.catalog setup.rows) fits (λ k r. key_turned k commits_key ∙ commits_no_record k r) in
      let none : find key_cmp commits_key (opened 1 rest) ≡ None =
      not_found (find key_cmp commits_key (opened 1 rest))
      (subst (λ o. OpensAs (find key_cmp commits_key (opened 1 rest)) o) unwritten (opens settings s commits_key refl (opening_writes setup.catalog setup.rows) 1)) in
      ap (λ (b : Bool). find key_cmp commits_key (opened 0 (cond b ((commits_key, sets.spelling opening_copy) ∷ rest) rest))) (eq-eqb s s refl)
      ∙ find_last commits_key (opened 1 rest) commits_key x
      ∙ ap (λ (o : Option ShardCell). last_of (Some x) o) none

  copy_again : sets.read_set (sets.spelling opening_copy) ≡ Some opening_copy
  copy_again = set_again opening_copy (record { canonical = record { base_fits = omega arith; apart = refl }; count = omega arith })

  pub opening_store : (layout : Layout) → ((k : Key) → layout.stamps k ≡ opening_stamp settings setup k) → layout.commits_stamp ≡ opening_stamp settings setup commits_key
      → AllByRecursion WriteFits (opening_writes setup.catalog setup.rows) → StoreIs settings setup [] (parts_of (opening_world layout setup))
  unfolding shown writes
  opening_store layout stamps commits_stamp fits = record {
    holds = holds_same 1 shown (cell_in settings setup []) 0 (counter_in settings setup []) (parts_of (opening_world layout setup)) cell_opening counter_opening (record {
      cells = λ k r.
          record_opens (looked k) (written k (opening_writes setup.catalog setup.rows)) (others_open k (commits_no_record k r)) (row_written k (opening_writes setup.catalog setup.rows) fits)
          (layout.stamps k) (ap (λ (c : ShardCell). c.stamp) (sym (cell_opening k)) ∙ sym (stamps k));
      commits =
          let x : ShardCell = record { stamp = 1; value = sets.spelling opening_copy } in
          let is : shown commits_key ≡ x = ap (λ (o : Option ShardCell). unwrap_or o absent) (commits_open fits) in
          record {
            stamp = ap (λ (c : ShardCell). c.stamp) (sym (cell_opening commits_key)) ∙ sym commits_stamp;
            read = ap (λ (c : ShardCell). sets.read_set c.value) is ∙ copy_again;
            fits = record { canonical = record { base_fits = omega arith; apart = refl }; runs = omega arith };
          };
      logs = λ tid le.
          let unwritten : written (log_key tid) (opening_writes setup.catalog setup.rows) ≡ None =
          none_written (log_key tid) (opening_writes setup.catalog setup.rows) fits (λ k r. key_turned k (log_key tid) ∙ log_no_record tid k r) in
          let none : looked (log_key tid) ≡ None = not_found (looked (log_key tid)) (subst (λ o. OpensAs (looked (log_key tid)) o) unwritten (others_open (log_key tid) (commits_no_log tid))) in
          let is : shown (log_key tid) ≡ absent = ap (λ (o : Option ShardCell). unwrap_or o absent) none in
          (ap (λ (c : ShardCell). c.stamp) is, ap (λ (c : ShardCell). c.value) is);
      others = λ k o.
          let unwritten : written k (opening_writes setup.catalog setup.rows) ≡ None =
          none_written k (opening_writes setup.catalog setup.rows) fits (λ j r. other_record j k r o) in
          let none : looked k ≡ None = not_found (looked k) (subst (λ x. OpensAs (looked k) x) unwritten (others_open k o.no_commits)) in
          ap (λ (x : Option ShardCell). unwrap_or x absent) none;
      counter = refl;
    });
    stored = λ s.
        let cs : List Stored = filter (lives_at settings s) (opening_cells setup) in
        let len : length (opened 0 cs) ≡ length cs = length_opened 0 cs in
        subst (λ (log : List Call). AreStores settings s (stores log)) (sym (log_opening s))
        (opened_ok settings s (length (opened 0 cs)) 0 cs (homes settings s (opening_cells setup)) (omega arith));
  }
