-- What an event at a shard leaves of the store of the protocol.
use Rattle.std.proofs.Common.{◌≡◌, ℕ, suc, ◌+◌, ◌<◌, ◌≤◌, Bool, true, false, cond, inl, inr, List, [], ◌∷◌, ◌++◌, length, Some, unwrap_or, refl, sym, ap, ◌∙◌, subst, arith}
use Rattle.std.specs.Prelude.{◌==◌, if◌then◌else◌}
use Rattle.std.specs.List.{AllByRecursion}
use Rattle.std.specs.FinMap.Entries.{find}
use Rattle.std.proofs.lemmas.Bool.{eqb-true}
use Rattle.std.proofs.lemmas.List.{length-append, length_push}
use Rattle.tl_base.specs.declared.place.Settings.{Settings}
use Rattle.tl_base.specs.declared.store.StoreReply.{StoreReply}
use Rattle.tl_base.specs.declared.store.StoreReply.TheVariants as answered
use Rattle.tl_base.specs.declared.store.StoreRequest.TheVariants as store
use Rattle.tl_schema.specs.declared.catalog.Setup.{Setup}
use Rattle.tl_cells.specs.declared.cell.Cell.{Cell as ShardCell}
use Rattle.tl_cells.specs.Cells.{absent, greatest}
use Rattle.tl_cells.specs.Place.{shard_of_key}
use Rattle.tl_cells.specs.Serves.{Call, added, last_stamp, reply_after, store_of, stores}
use Rattle.tl_cells.proofs.Log.{stores-push}
use Rattle.tl_write.specs.Own.{key_cmp}
use Rattle.tl_protocol.specs.Store.{Key, put_at, same_key}
use Rattle.tl_journal.specs.declared.event.Event.{Event}
use Rattle.tl_journal.specs.Ask.{Heard}
use Rattle.tl_journal.specs.Bytes.{counter_key, store_heard}
use Rattle.tl_journal.specs.Journal.{shard_log}
use Rattle.tl_journal.specs.Served.{Parts, Stores}
use Rattle.tl_journal.proofs.Fits.{HeardFits}
use Rattle.tl_journal.proofs.Store.{AreStores, Holds, StoreIs, StoreOk, holds_more, holds_same}
use Rattle.tl_journal.proofs.StoreLogs.{IsCall, cell_in, cell_kept, cell_stored, counter_added, counter_in, counter_kept, log_of}

stores_more : (settings : Settings) (shard few more : ℕ) → few ≤ more → (es : List (Key × ShardCell)) → AllByRecursion (StoreOk settings shard few) es → AllByRecursion (StoreOk settings shard more) es
stores_more settings shard few more le [] h = tt
stores_more settings shard few more le (e ∷ es) h =
    (record { home = h.0.home; below = (let b : e.1.stamp ≤ few = h.0.below in omega arith); some = h.0.some }, stores_more settings shard few more le es h.1)

-- no cell has a stamp above the last one that was given
stamp_found : (settings : Settings) (shard most : ℕ) (es : List (Key × ShardCell)) → AllByRecursion (StoreOk settings shard most) es
    → (q : Key) → (unwrap_or (find key_cmp q es) absent).stamp ≤ most
stamp_found settings shard most [] h q = omega arith
stamp_found settings shard most (e ∷ es) h q = by (same_key q e.0) (stamp_found settings shard most es h.1 q)
  where
    by : (b : Bool) → (unwrap_or (find key_cmp q es) absent).stamp ≤ most → (unwrap_or (cond b (Some e.1) (find key_cmp q es)) absent).stamp ≤ most
    by true rest = h.0.below
    by false rest = rest

module _ (settings : Settings) (setup : Setup) (past : List Event) (e : Event) (s : ℕ) (c : Call) (is : IsCall e s c) (p : Parts) (h : StoreIs settings setup past p) where
  next_stores : (es : List (Key × ShardCell)) → stores (shard_log settings setup s past ++ c ∷ []) ≡ es → AreStores settings s es
      → (t : ℕ) → AreStores settings t (stores (shard_log settings setup t (past ++ e ∷ [])))
  next_stores es all ok t =
      subst (λ (log : List Call). AreStores settings t (stores log)) (sym (log_of settings setup past e s c is t)) (by (s == t) refl)
    where
      by : (b : Bool) → (s == t) ≡ b → AreStores settings t (stores (if b then shard_log settings setup t past ++ c ∷ [] else shard_log settings setup t past))
      by true eq =
          let same : s ≡ t = eqb-true s t eq in
          subst (λ n. AreStores settings n (stores (shard_log settings setup n past ++ c ∷ []))) same
          (subst (λ (xs : List (Key × ShardCell)). AreStores settings s xs) (sym all) ok)
      by false eq = h.stored t

  -- an event that stores and adds nothing
  pub event_kept : store_of c.request c.reply ≡ [] → ((key : Key) → added key c.request c.reply ≡ 0) → StoreIs settings setup (past ++ e ∷ []) p
  event_kept none zero_more = record {
    holds =
        let len = length_push past e in
        holds_same (length (past ++ e ∷ []) + 1) (cell_in settings setup past) (cell_in settings setup (past ++ e ∷ [])) (counter_in settings setup past) (counter_in settings setup (past ++ e ∷ [])) p
        (cell_kept settings setup past e s c is none) (counter_kept settings setup past e s c is zero_more)
        (holds_more (length past + 1) (length (past ++ e ∷ []) + 1) (omega arith) (cell_in settings setup past) (counter_in settings setup past) p h.holds);
    stored = next_stores (stores (shard_log settings setup s past)) (stores-push (shard_log settings setup s past) c ∙ ap (λ (new : List (Key × ShardCell)). new ++ stores (shard_log settings setup s past)) none) (h.stored s);
  }

  -- an event that adds to the counter of transaction numbers
  pub event_summed : (n : ℕ) → store_of c.request c.reply ≡ [] → added counter_key c.request c.reply ≡ n → s ≡ shard_of_key counter_key settings.shards
      → (after : Parts) → Holds (length past + 1) (cell_in settings setup past) (counter_in settings setup past + n) after → StoreIs settings setup (past ++ e ∷ []) after
  event_summed n none sum home after holds = record {
    holds =
        let len = length_push past e in
        holds_same (length (past ++ e ∷ []) + 1) (cell_in settings setup past) (cell_in settings setup (past ++ e ∷ [])) (counter_in settings setup past + n) (counter_in settings setup (past ++ e ∷ [])) after
        (cell_kept settings setup past e s c is none) (counter_added settings setup past e s c is n sum home)
        (holds_more (length past + 1) (length (past ++ e ∷ []) + 1) (omega arith) (cell_in settings setup past) (counter_in settings setup past + n) after holds);
    stored = next_stores (stores (shard_log settings setup s past)) (stores-push (shard_log settings setup s past) c ∙ ap (λ (new : List (Key × ShardCell)). new ++ stores (shard_log settings setup s past)) none) (h.stored s);
  }

  -- an event that stores one cell
  pub event_stored : (k : Key) (x : ShardCell) → store_of c.request c.reply ≡ (k, x) ∷ [] → ((key : Key) → added key c.request c.reply ≡ 0)
      → s ≡ shard_of_key k settings.shards → x.stamp ≤ length (stores (shard_log settings setup s past)) + 1 → 1 ≤ x.stamp
      → (after : Parts) → Holds (length past + 1) (put_at k x (cell_in settings setup past)) (counter_in settings setup past) after
      → StoreIs settings setup (past ++ e ∷ []) after
  event_stored k x new zero_more home le least after holds = record {
    holds =
        let len = length_push past e in
        holds_same (length (past ++ e ∷ []) + 1) (put_at k x (cell_in settings setup past)) (cell_in settings setup (past ++ e ∷ [])) (counter_in settings setup past) (counter_in settings setup (past ++ e ∷ [])) after
        (cell_stored settings setup past e s c is k x new home) (counter_kept settings setup past e s c is zero_more)
        (holds_more (length past + 1) (length (past ++ e ∷ []) + 1) (omega arith) (put_at k x (cell_in settings setup past)) (counter_in settings setup past) after holds);
    stored =
        let old : List (Key × ShardCell) = stores (shard_log settings setup s past) in
        next_stores ((k, x) ∷ old) (stores-push (shard_log settings setup s past) c ∙ ap (λ (more : List (Key × ShardCell)). more ++ old) new)
        (record { home = sym home; below = (let l : x.stamp ≤ length old + 1 = le in omega arith); some = least }, stores_more settings s (length old) (suc (length old)) (omega arith) old (h.stored s));
  }

-- ---- conditional stores

-- a conditional store comes to this
pub record Outcome (settings : Settings) (setup : Setup) (past : List Event) (e : Event) (p : Parts) (found stamp : ℕ) (done : ℕ → Parts) (heard : Heard) : Type 0 where
  pub after : Parts
  pub serves : Stores found stamp heard done p after
  pub store : StoreIs settings setup (past ++ e ∷ []) after
  pub fits : HeardFits (length past + 1) heard

module _ (settings : Settings) (setup : Setup) (past : List Event) (e : Event) (p : Parts) (h : StoreIs settings setup past p)
    (k : Key) (stamp : ℕ) (value : List ℕ) (answer : StoreReply)
    (is : IsCall e (shard_of_key k settings.shards) (record { request = store.StoreIf k stamp value; reply = answer }))
    (found : ℕ) (same : (cell_in settings setup past k).stamp ≡ found) (done : ℕ → Parts)
    (holds : (fresh : ℕ) → 0 < fresh → Holds (length past + 1) (put_at k (record { stamp = fresh; value = value }) (cell_in settings setup past)) (counter_in settings setup past) (done fresh)) where
  pub store_done : answer ≡ reply_after 0 (shard_log settings setup (shard_of_key k settings.shards) past) (store.StoreIf k stamp value)
      → Outcome settings setup past e p found stamp done (store_heard answer)
  store_done follows = by ((cell_in settings setup past k).stamp == stamp) refl (last_stamp 0 (shard_log settings setup (shard_of_key k settings.shards) past) == greatest) follows
    where
      last : ℕ
      last = last_stamp 0 (shard_log settings setup (shard_of_key k settings.shards) past)

      c : Call
      c = record { request = store.StoreIf k stamp value; reply = answer }

      kept : (told : StoreReply) → answer ≡ told → store_of (store.StoreIf k stamp value) told ≡ [] → StoreIs settings setup (past ++ e ∷ []) p
      kept told eq none = event_kept settings setup past e (shard_of_key k settings.shards) c is p h (ap (store_of (store.StoreIf k stamp value)) eq ∙ none) (λ key. refl)

      below : (cell_in settings setup past k).stamp ≤ last
      below =
          let es : List (Key × ShardCell) = stores (shard_log settings setup (shard_of_key k settings.shards) past) in
          let low : (cell_in settings setup past k).stamp ≤ length es = stamp_found settings (shard_of_key k settings.shards) (length es) es (h.stored (shard_of_key k settings.shards)) k in
          omega arith

      by : (a : Bool) → ((cell_in settings setup past k).stamp == stamp) ≡ a → (b : Bool)
          → answer ≡ (if a then (if b then answered.Full last else answered.Stored (last + 1)) else answered.Moved (cell_in settings setup past k).stamp)
          → Outcome settings setup past e p found stamp done (store_heard answer)
      by false t b eq = record {
        after = p;
        serves = inr (inl (ap store_heard eq, subst (λ n. (n == stamp) ≡ false) same t, refl));
        store = kept (answered.Moved (cell_in settings setup past k).stamp) eq refl;
        fits = subst (HeardFits (length past + 1)) (sym (ap store_heard eq)) tt;
      }
      by true t true eq = record {
        after = p;
        serves = inr (inr (ap store_heard eq, refl));
        store = kept (answered.Full last) eq refl;
        fits = subst (HeardFits (length past + 1)) (sym (ap store_heard eq)) tt;
      }
      by true t false eq =
          let is_found : (cell_in settings setup past k).stamp ≡ stamp = eqb-true (cell_in settings setup past k).stamp stamp t in
          let low : (cell_in settings setup past k).stamp ≤ last = below in
          record {
            after = done (last + 1);
            serves = inl (last + 1, ap store_heard eq, sym same ∙ is_found, omega arith, refl);
            store = event_stored settings setup past e (shard_of_key k settings.shards) c is p h k (record { stamp = last + 1; value = value }) (ap (store_of (store.StoreIf k stamp value)) eq) (λ key. refl) refl
                (omega arith) (omega arith) (done (last + 1)) (holds (last + 1) (omega arith));
            fits = subst (HeardFits (length past + 1)) (sym (ap store_heard eq)) tt;
          }
