-- Places that have served one request more.
use Rattle.std.proofs.Common.{◌≡◌, ◌⊎◌, inl, inr, ℕ, ◌<◌, Bool, cond, List, [], ◌∷◌, ◌++◌, Some, get_or, length, refl, sym, ap, subst, ◌∙◌, append-nil}
use Rattle.std.specs.Prelude.{slice_get, slice_set}
use Rattle.std.proofs.lemmas.Bool.{eq-eqb}
use Rattle.std.proofs.lemmas.List.{length-set}
use Rattle.std.proofs.lemmas.Option.{slice_get_read}
use Rattle.tl_base.specs.declared.place.PlaceId.TheVariants as place
use Rattle.tl_base.specs.declared.place.Settings.{Settings}
use Rattle.tl_base.specs.declared.store.StoreReply.{StoreReply}
use Rattle.tl_base.specs.declared.store.StoreRequest.{StoreRequest}
use Rattle.tl_cells.specs.Cells as cells
use Rattle.tl_cells.specs.Cells.{ShardState}
use Rattle.tl_cells.specs.Serves as shard
use Rattle.tl_cells.proofs.Log as shard_logs
use Rattle.tl_manager.specs.declared.request.ManagerReply.{ManagerReply}
use Rattle.tl_manager.specs.declared.request.ManagerRequest.{ManagerRequest}
use Rattle.tl_manager.specs.declared.request.Request.TheVariants as request
use Rattle.tl_manager.specs.declared.request.Reply.TheVariants as reply
use Rattle.tl_manager.specs.Serves as manager
use Rattle.tl_manager.proofs.Log as manager_logs
use Rattle.tl_manager.specs.State as steps
use Rattle.tl_manager.specs.State.{ManagerState}
use Rattle.tl_isolation.specs.declared.entry.Entry.{Entry}
use Rattle.tl_isolation.specs.declared.script.Script.{Script}
use Rattle.tl_isolation.specs.Script.{setup_of}
use Rattle.tl_journal.specs.declared.event.Event.{Event}
use Rattle.tl_journal.specs.Journal.{manager_log, shard_log}
use Rattle.tl_journal.proofs.Logs.{manager_more, shard_more}
use Rattle.tl_places.specs.Places.{AreAt, HaveServed, ManagerHasServed, PlacesState, ShardHasServed}
use Rattle.tl_places.proofs.Lists.{apart, set_found}

-- a shard that serves a request
module _ (p : PlacesState) (t : ℕ) (old : ShardState) (r : StoreRequest) where
  abbrev store_call : shard.Call
  store_call = record { request = r; reply = cells.reply_of old r }

  abbrev at_shard : PlacesState
  at_shard = record { shards = slice_set p.shards t (cells.next_of old r); managers = p.managers }

  serves_store : (log : List shard.Call) → ShardHasServed log old → ShardHasServed (log ++ store_call ∷ []) (cells.next_of old r)
  serves_store log g = record {
    matches = shard_logs.after-reply_of 0 log old r g.matches;
    served = shard_logs.ServesAll-push 0 log store_call g.served (shard_logs.reply_of-log 0 log old r g.matches);
  }

  module _ (script : Script) (settings : Settings) (events : List Event) (node : ℕ) (entries : List Entry) where
    abbrev store_event : Event
    store_event = record { node = node; place = place.Shard t; request = request.Store r; reply = reply.Store (cells.reply_of old r); entries = entries }

    abbrev store_log : ℕ → List Event → List shard.Call
    store_log s past = shard_log settings (setup_of script settings) s past

    shard_here : (s : ℕ) → t ≡ s → store_log s events ++ store_call ∷ [] ≡ store_log s (events ++ store_event ∷ [])
    shard_here s e =
        sym (shard_more settings (setup_of script settings) s events store_event ∙ ap (λ (b : Bool). store_log s events ++ cond b (store_call ∷ []) []) (eq-eqb t s e))

    shard_elsewhere : (s : ℕ) → (t ≡ s → ⊥) → store_log s events ≡ store_log s (events ++ store_event ∷ [])
    shard_elsewhere s f =
        sym (shard_more settings (setup_of script settings) s events store_event
        ∙ ap (λ (b : Bool). store_log s events ++ cond b (store_call ∷ []) []) (apart t s f) ∙ append-nil (store_log s events))

    each_shard_served : slice_get p.shards t ≡ Some old → AreAt script settings events p → (s : ℕ) (state : ShardState)
        → (((t ≡ s) × (cells.next_of old r ≡ state)) ⊎ ((t ≡ s → ⊥) × (slice_get p.shards s ≡ Some state)))
        → ShardHasServed (store_log s (events ++ store_event ∷ [])) state
    each_shard_served is h s state (inl e) =
        subst (λ (x : ShardState). ShardHasServed (store_log s (events ++ store_event ∷ [])) x) e.1
        (subst (λ (l : List shard.Call). ShardHasServed l (cells.next_of old r)) (shard_here s e.0)
        (serves_store (store_log s events) (h.each_shard s old (ap (slice_get p.shards) (sym e.0) ∙ is))))
    each_shard_served is h s state (inr e) = subst (λ (l : List shard.Call). ShardHasServed l state) (shard_elsewhere s e.0) (h.each_shard s state e.1)

  pub shard_has_served : slice_get p.shards t ≡ Some old → HaveServed (place.Shard t) (request.Store r) (reply.Store (cells.reply_of old r)) p at_shard
  shard_has_served is script settings events node entries h = record {
    shard_count = length-set p.shards t (cells.next_of old r) ∙ h.shard_count;
    each_shard = λ s state e. each_shard_served script settings events node entries is h s state (set_found p.shards t s (cells.next_of old r) state e);
    manager_count = h.manager_count;
    each_manager = λ m state e.
        subst (λ (log : List manager.Call). ManagerHasServed log state)
        (sym (manager_more m events (store_event script settings events node entries) ∙ append-nil (manager_log m events))) (h.each_manager m state e);
  }

-- a manager that serves one
module _ (p : PlacesState) (t : ℕ) (old : ManagerState) (r : ManagerRequest) where
  abbrev manager_call_of : manager.Call
  manager_call_of = record { request = r; reply = steps.reply_of old r }

  abbrev at_manager : PlacesState
  at_manager = record { shards = p.shards; managers = slice_set p.managers t (steps.next_of old r) }

  serves_manager : (log : List manager.Call) → ManagerHasServed log old → ManagerHasServed (log ++ manager_call_of ∷ []) (steps.next_of old r)
  serves_manager log g = record {
    matches = manager_logs.after-reply_of log old r g.matches;
    served = manager_logs.ServesAll-push log manager_call_of g.served (manager_logs.reply_of-log log old r g.matches);
  }

  module _ (script : Script) (settings : Settings) (events : List Event) (node : ℕ) (entries : List Entry) where
    abbrev manager_event : Event
    manager_event = record { node = node; place = place.Manager t; request = request.Manager r; reply = reply.Manager (steps.reply_of old r); entries = entries }

    manager_here : (m : ℕ) → t ≡ m → manager_log m events ++ manager_call_of ∷ [] ≡ manager_log m (events ++ manager_event ∷ [])
    manager_here m e =
        sym (manager_more m events manager_event ∙ ap (λ (b : Bool). manager_log m events ++ cond b (manager_call_of ∷ []) []) (eq-eqb t m e))

    manager_elsewhere : (m : ℕ) → (t ≡ m → ⊥) → manager_log m events ≡ manager_log m (events ++ manager_event ∷ [])
    manager_elsewhere m f =
        sym (manager_more m events manager_event
        ∙ ap (λ (b : Bool). manager_log m events ++ cond b (manager_call_of ∷ []) []) (apart t m f) ∙ append-nil (manager_log m events))

    each_manager_served : slice_get p.managers t ≡ Some old → AreAt script settings events p → (m : ℕ) (state : ManagerState)
        → (((t ≡ m) × (steps.next_of old r ≡ state)) ⊎ ((t ≡ m → ⊥) × (slice_get p.managers m ≡ Some state)))
        → ManagerHasServed (manager_log m (events ++ manager_event ∷ [])) state
    each_manager_served is h m state (inl e) =
        subst (λ (x : ManagerState). ManagerHasServed (manager_log m (events ++ manager_event ∷ [])) x) e.1
        (subst (λ (l : List manager.Call). ManagerHasServed l (steps.next_of old r)) (manager_here m e.0)
        (serves_manager (manager_log m events) (h.each_manager m old (ap (slice_get p.managers) (sym e.0) ∙ is))))
    each_manager_served is h m state (inr e) = subst (λ (l : List manager.Call). ManagerHasServed l state) (manager_elsewhere m e.0) (h.each_manager m state e.1)

  pub manager_has_served : slice_get p.managers t ≡ Some old
      → HaveServed (place.Manager t) (request.Manager r) (reply.Manager (steps.reply_of old r)) p at_manager
  manager_has_served is script settings events node entries h = record {
    shard_count = h.shard_count;
    each_shard = λ s state e.
        subst (λ (log : List shard.Call). ShardHasServed log state)
        (sym (shard_more settings (setup_of script settings) s events (manager_event script settings events node entries)
        ∙ append-nil (shard_log settings (setup_of script settings) s events))) (h.each_shard s state e);
    manager_count = length-set p.managers t (steps.next_of old r) ∙ h.manager_count;
    each_manager = λ m state e. each_manager_served script settings events node entries is h m state (set_found p.managers t m (steps.next_of old r) state e);
  }

-- the same, where the state, the place, the reply and what the shard became are computed
pub store_served : (p : PlacesState) (shards : List ShardState) (managers : List ManagerState) (t at : ℕ) (old new : ShardState) (r : StoreRequest) (answer : StoreReply)
    → record { shards = shards; managers = managers } ≡ p → at ≡ t → at < length shards → old ≡ get_or shards at old
    → answer ≡ cells.reply_of old r → new ≡ cells.next_of old r
    → HaveServed (place.Shard t) (request.Store r) (reply.Store answer) p (record { shards = slice_set shards at new; managers = managers })
store_served p shards managers t at old new r answer is same within here replied changed =
    let q : ShardState → PlacesState = λ (s : ShardState). record { shards = slice_set shards at s; managers = managers } in
    subst (λ (x : PlacesState). HaveServed (place.Shard t) (request.Store r) (reply.Store answer) x (q new)) is
    (subst (λ (s : ShardState). HaveServed (place.Shard t) (request.Store r) (reply.Store answer) (record { shards = shards; managers = managers }) (q s)) (sym changed)
    (subst (λ (a : StoreReply). HaveServed (place.Shard t) (request.Store r) (reply.Store a) (record { shards = shards; managers = managers }) (q (cells.next_of old r)))
    (sym replied)
    (subst (λ (n : ℕ). HaveServed (place.Shard n) (request.Store r) (reply.Store (cells.reply_of old r)) (record { shards = shards; managers = managers })
    (q (cells.next_of old r))) same
    (shard_has_served (record { shards = shards; managers = managers }) at old r (slice_get_read shards (length shards) at old refl within here)))))

pub manager_served : (p : PlacesState) (shards : List ShardState) (managers : List ManagerState) (t at : ℕ) (old new : ManagerState) (r : ManagerRequest) (answer : ManagerReply)
    → record { shards = shards; managers = managers } ≡ p → at ≡ t → at < length managers → old ≡ get_or managers at old
    → answer ≡ steps.reply_of old r → new ≡ steps.next_of old r
    → HaveServed (place.Manager t) (request.Manager r) (reply.Manager answer) p (record { shards = shards; managers = slice_set managers at new })
manager_served p shards managers t at old new r answer is same within here replied changed =
    let q : ManagerState → PlacesState = λ (s : ManagerState). record { shards = shards; managers = slice_set managers at s } in
    subst (λ (x : PlacesState). HaveServed (place.Manager t) (request.Manager r) (reply.Manager answer) x (q new)) is
    (subst (λ (s : ManagerState). HaveServed (place.Manager t) (request.Manager r) (reply.Manager answer) (record { shards = shards; managers = managers }) (q s)) (sym changed)
    (subst (λ (a : ManagerReply). HaveServed (place.Manager t) (request.Manager r) (reply.Manager a) (record { shards = shards; managers = managers })
    (q (steps.next_of old r))) (sym replied)
    (subst (λ (n : ℕ). HaveServed (place.Manager n) (request.Manager r) (reply.Manager (steps.reply_of old r)) (record { shards = shards; managers = managers })
    (q (steps.next_of old r))) same
    (manager_has_served (record { shards = shards; managers = managers }) at old r (slice_get_read managers (length managers) at old refl within here)))))
