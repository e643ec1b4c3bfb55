-- Shards that store a cell more.
use Rattle.std.proofs.Common.{◌≡◌, ◌⊎◌, inl, inr, ℕ, ◌+◌, ◌<◌, ◌==◌, Bool, true, false, cond, List, [], ◌∷◌, ◌++◌, Some, get_or, length, filter, refl, sym, ap, subst, ◌∙◌, append-nil, arith}
use Rattle.std.specs.Prelude.{slice_get, slice_set}
use Rattle.std.proofs.lemmas.Bool.{eq-eqb}
use Rattle.std.proofs.lemmas.List.{length-set, length_push}
use Rattle.std.proofs.lemmas.Option.{slice_get_read}
use Rattle.std.proofs.lemmas.List.Elements.{filter-append}
use Rattle.tl_base.specs.declared.store.StoreReply.{StoreReply}
use Rattle.tl_base.specs.declared.store.StoreReply.TheVariants as reply
use Rattle.tl_base.specs.declared.store.StoreRequest.TheVariants as request
use Rattle.tl_cells.specs.Cells.{ShardState, cell_under, greatest, next_of, reply_of, store_reply}
use Rattle.tl_cells.specs.Place.{shard_of_key}
use Rattle.tl_cells.specs.Serves.{Call, Matches, stores}
use Rattle.tl_cells.proofs.Log.{after-reply_of, reply_of-log, ServesAll-push}
use Rattle.tl_journal.specs.Journal.{stores_from}
use Rattle.tl_places.specs.Opening.{HaveStored, Stored, stores_at}
use Rattle.tl_places.specs.Places.{ShardHasServed}
use Rattle.tl_places.proofs.Lists.{apart, push_found, set_found}

stores_from-push : (stamp : ℕ) (stored : List Stored) (c : Stored)
    → stores_from stamp (stored ++ c ∷ [])
    ≡ stores_from stamp stored ++ record { request = request.StoreIf c.0 0 c.1; reply = reply.Stored (stamp + length stored + 1) } ∷ []
stores_from-push stamp [] c =
    ap (λ (n : ℕ). record { request = request.StoreIf c.0 0 c.1; reply = reply.Stored (n + 1) } ∷ []) (let e : stamp ≡ stamp + 0 = omega arith in e)
stores_from-push stamp (d ∷ stored) c =
    ap (λ (log : List Call). record { request = request.StoreIf d.0 0 d.1; reply = reply.Stored (stamp + 1) } ∷ log) (stores_from-push (stamp + 1) stored c)
    ∙ ap (λ (n : ℕ). record { request = request.StoreIf d.0 0 d.1; reply = reply.Stored (stamp + 1) } ∷ stores_from (stamp + 1) stored
    ++ record { request = request.StoreIf c.0 0 c.1; reply = reply.Stored (n + 1) } ∷ []) (let e : stamp + 1 + length stored ≡ stamp + length (d ∷ stored) = omega arith in e)

-- each store counts
pub stores_counted : (stamp : ℕ) (stored : List Stored) → length (stores (stores_from stamp stored)) ≡ length stored
stores_counted stamp [] = refl
stores_counted stamp (c ∷ stored) =
    length_push (stores (stores_from (stamp + 1) stored)) (c.0, record { stamp = stamp + 1; value = c.1 })
    ∙ (let e : length (stores (stores_from (stamp + 1) stored)) ≡ length stored = stores_counted (stamp + 1) stored in omega arith)

-- a store at an absent cell, where stamps are left, is answered by the next one
pub answered_next : (found last : ℕ) → found ≡ 0 → last < greatest → store_reply found 0 last ≡ reply.Stored (last + 1)
answered_next found last absent stamps =
    ap (λ (n : ℕ). store_reply n 0 last) absent
    ∙ ap (λ (b : Bool). cond b (reply.Full last) (reply.Stored (last + 1))) (apart last greatest (λ (e : last ≡ greatest). omega arith))

-- a shard that stored these, and is asked to store one that is absent
pub stored_next : (state : ShardState) (key value : List ℕ) → (cell_under key state.cells).stamp ≡ 0 → state.last < greatest
    → (stored : List Stored) → ShardHasServed (stores_from 0 stored) state
    → ShardHasServed (stores_from 0 (stored ++ (key, value) ∷ [])) (next_of state (request.StoreIf key 0 value))
stored_next state key value absent stamps stored h =
    let log : List Call = stores_from 0 stored in
    let call : Call = record { request = request.StoreIf key 0 value; reply = reply_of state (request.StoreIf key 0 value) } in
    let last : state.last ≡ 0 + length (stores log) = h.matches.last in
    let stored_count : length (stores log) ≡ length stored = stores_counted 0 stored in
    let count : state.last ≡ 0 + length stored = omega arith in
    let answer : reply_of state (request.StoreIf key 0 value) ≡ reply.Stored (0 + length stored + 1) =
    answered_next (cell_under key state.cells).stamp state.last absent stamps ∙ ap (λ (n : ℕ). reply.Stored (n + 1)) count in
    let whole : log ++ call ∷ [] ≡ stores_from 0 (stored ++ (key, value) ∷ []) =
    ap (λ (r : StoreReply). log ++ record { request = request.StoreIf key 0 value; reply = r } ∷ []) answer ∙ sym (stores_from-push 0 stored (key, value)) in
    subst (λ (l : List Call). ShardHasServed l (next_of state (request.StoreIf key 0 value))) whole
    (record {
      matches = after-reply_of 0 log state (request.StoreIf key 0 value) h.matches;
      served = ServesAll-push 0 log call h.served (reply_of-log 0 log state (request.StoreIf key 0 value) h.matches);
    })

-- what lives at a shard, with one cell more
module _ (count : ℕ) (stored : List Stored) (c : Stored) (s : ℕ) where
  abbrev lives : Stored → Bool
  lives d = shard_of_key d.0 count == s

  lives_more : (b : Bool) → lives c ≡ b → filter lives (stored ++ c ∷ []) ≡ filter lives stored ++ cond b (c ∷ []) []
  lives_more b e = filter-append lives stored (c ∷ []) ∙ ap (λ (t : Bool). filter lives stored ++ cond t (c ∷ []) []) e

  at_home : shard_of_key c.0 count ≡ s → stores_from 0 (filter lives stored ++ c ∷ []) ≡ stores_at count (stored ++ c ∷ []) s
  at_home e = ap (stores_from 0) (sym (lives_more true (eq-eqb _ _ e)))

  elsewhere : lives c ≡ false → stores_at count stored s ≡ stores_at count (stored ++ c ∷ []) s
  elsewhere e = ap (stores_from 0) (sym (lives_more false e ∙ append-nil (filter lives stored)))

pub have_stored : (count : ℕ) (shards : List ShardState) (c : Stored) (old new : ShardState) → slice_get shards (shard_of_key c.0 count) ≡ Some old
    → ((stored : List Stored) → ShardHasServed (stores_from 0 stored) old → ShardHasServed (stores_from 0 (stored ++ c ∷ [])) new)
    → (stored : List Stored) → HaveStored count stored shards → HaveStored count (stored ++ c ∷ []) (slice_set shards (shard_of_key c.0 count) new)
have_stored count shards c old new is next stored h = record {
  shard_count = length-set shards (shard_of_key c.0 count) new ∙ h.shard_count;
  each = λ s state e. by s state (set_found shards (shard_of_key c.0 count) s new state e);
}
  where
    by : (s : ℕ) (state : ShardState)
        → (((shard_of_key c.0 count ≡ s) × (new ≡ state)) ⊎ ((shard_of_key c.0 count ≡ s → ⊥) × (slice_get shards s ≡ Some state)))
        → ShardHasServed (stores_at count (stored ++ c ∷ []) s) state
    by s state (inl e) =
        subst (λ (x : ShardState). ShardHasServed (stores_at count (stored ++ c ∷ []) s) x) e.1
        (subst (λ (log : List Call). ShardHasServed log new) (at_home count stored c s e.0)
        (next (filter (λ d. shard_of_key d.0 count == s) stored) (h.each s old (ap (slice_get shards) (sym e.0) ∙ is))))
    by s state (inr e) =
        subst (λ (log : List Call). ShardHasServed log state) (elsewhere count stored c s (apart (shard_of_key c.0 count) s e.0)) (h.each s state e.1)

-- the same, where the place is a number that is computed
pub have_stored_at : (count : ℕ) (shards : List ShardState) (c : Stored) (at : ℕ) (old new : ShardState) → at ≡ shard_of_key c.0 count → at < length shards
    → old ≡ get_or shards at old
    → ((stored : List Stored) → ShardHasServed (stores_from 0 stored) old → ShardHasServed (stores_from 0 (stored ++ c ∷ [])) new)
    → (stored : List Stored) → HaveStored count stored shards → HaveStored count (stored ++ c ∷ []) (slice_set shards at new)
have_stored_at count shards c at old new same within here next stored h =
    subst (λ (i : ℕ). HaveStored count (stored ++ c ∷ []) (slice_set shards i new)) (sym same)
    (have_stored count shards c old new (ap (slice_get shards) (sym same) ∙ slice_get_read shards (length shards) at old refl within here) next stored h)

-- a cell whose key and bytes are computed
pub same_cell : (key bytes : List ℕ) (c : Stored) → key ≡ c.0 → bytes ≡ c.1 → (key, bytes) ≡ c
same_cell key bytes c e f = λ i. (e i, f i)

-- no shards have stored nothing, and so have one more
pub none_stored : HaveStored 0 [] []
none_stored = record { shard_count = refl; each = λ s state e. absurd cc }

pub one_more : (count : ℕ) (shards : List ShardState) (state : ShardState) → Matches 0 [] state → HaveStored count [] shards → HaveStored (count + 1) [] (shards ++ state ∷ [])
one_more count shards new m h = record {
  shard_count = length_push shards new ∙ ap (λ (n : ℕ). n + 1) h.shard_count;
  each = λ s state e. by s state (push_found shards s new state e);
}
  where
    by : (s : ℕ) (state : ShardState) → ((slice_get shards s ≡ Some state) ⊎ (new ≡ state)) → ShardHasServed [] state
    by s state (inl e) = h.each s state e
    by s state (inr e) = subst (λ (x : ShardState). ShardHasServed [] x) e (record { matches = m; served = tt })
