-- Events that are no calls of shards leave the store; and what the served logs of a journal say of each of its events.
use Rattle.std.proofs.Common.{◌≡◌, ℕ, ◌+◌, ◌<◌, Bool, true, false, List, [], ◌∷◌, ◌++◌, length, Option, refl, sym, ap, ◌∙◌, subst, append_assoc, append-nil, arith}
use Rattle.std.specs.Prelude.{◌==◌, if◌then◌else◌}
use Rattle.std.specs.List.{AllByRecursion, flat_map}
use Rattle.std.proofs.lemmas.List.Concat.{flat_map-append}
use Rattle.std.proofs.lemmas.List.{length_push}
use Rattle.tl_base.specs.Along.{Along}
use Rattle.tl_base.specs.declared.place.PlaceId.{PlaceId}
use Rattle.tl_base.specs.declared.place.PlaceId.TheVariants as place
use Rattle.tl_base.specs.declared.place.Settings.{Settings}
use Rattle.tl_schema.specs.declared.catalog.Setup.{Setup}
use Rattle.tl_cells.specs.Serves.{Call, Serves as ShardServes, cell_at, count_at, stores}
use Rattle.tl_manager.specs.declared.request.ManagerReply.{ManagerReply}
use Rattle.tl_manager.specs.declared.request.Reply.{Reply}
use Rattle.tl_manager.specs.declared.request.Reply.TheVariants as reply
use Rattle.tl_manager.specs.declared.request.Request.{Request}
use Rattle.tl_manager.specs.declared.request.Request.TheVariants as request
use Rattle.tl_isolation.specs.declared.script.Script.{Script}
use Rattle.tl_isolation.specs.Script.{setup_of}
use Rattle.tl_cells.specs.Place.{shard_of_key}
use Rattle.tl_protocol.specs.Store.{Key, Cell, CommitsCell, LogCell}
use Rattle.tl_journal.specs.declared.event.Event.{Event}
use Rattle.tl_journal.specs.Bytes.{commits_key, counter_key, log_key}
use Rattle.tl_journal.specs.Journal.{AreServed, opening_calls, shard_call, shard_log}
use Rattle.tl_journal.specs.Served.{Parts}
use Rattle.tl_journal.proofs.Store.{AreStores, CommitsIs, LogIs, RecordIs, StoreIs, holds_more, holds_same}
use Rattle.tl_journal.proofs.StoreLogs.{calls_of, cell_in, counter_in}
use Rattle.tl_journal.proofs.Logs.{shard_more}

-- parts with the same store: the managers' parts may be others
pub record SameStore (p after : Parts) : Type 0 where
  pub cells : after.cells ≡ p.cells
  pub commits : after.commits ≡ p.commits
  pub logs : after.logs ≡ p.logs
  pub counter : after.counter ≡ p.counter

pub store_same : (settings : Settings) (setup : Setup) (past : List Event) (p after : Parts) → SameStore p after → StoreIs settings setup past p → StoreIs settings setup past after
store_same settings setup past p after same h = record {
  holds = record {
    cells = λ k r. subst (λ (f : Key → Cell). RecordIs (length past + 1) (cell_in settings setup past k) (f k)) (sym same.cells) (h.holds.cells k r);
    commits = subst (λ (c : CommitsCell). CommitsIs (length past + 1) (cell_in settings setup past commits_key) c) (sym same.commits) h.holds.commits;
    logs = λ tid le. subst (λ (f : ℕ → Option LogCell). LogIs tid (cell_in settings setup past (log_key tid)) (f tid)) (sym same.logs) (h.holds.logs tid le);
    others = h.holds.others;
    counter = h.holds.counter ∙ sym same.counter;
  };
  stored = h.stored;
}

-- an event that no shard is asked leaves the store
pub store_quiet : (settings : Settings) (setup : Setup) (past : List Event) (e : Event) (p : Parts)
    → ((s : ℕ) → shard_call s e.place e.request e.reply ≡ []) → StoreIs settings setup past p → StoreIs settings setup (past ++ e ∷ []) p
store_quiet settings setup past e p quiet h = record {
  holds =
      let len = length_push past e in
      holds_same (length (past ++ e ∷ []) + 1) (cell_in settings setup past) (cell_in settings setup (past ++ e ∷ [])) (counter_in settings setup past) (counter_in settings setup (past ++ e ∷ [])) p
      (λ k. ap (λ (log : List Call). cell_at log k) (same (shard_of_key k settings.shards)))
      (ap (λ (log : List Call). count_at log counter_key) (same (shard_of_key counter_key settings.shards)))
      (holds_more (length past + 1) (length (past ++ e ∷ []) + 1) (omega arith) (cell_in settings setup past) (counter_in settings setup past) p h.holds);
  stored = λ s. subst (λ (log : List Call). AreStores settings s (stores log)) (sym (same s)) (h.stored s);
}
  where
    same : (s : ℕ) → shard_log settings setup s (past ++ e ∷ []) ≡ shard_log settings setup s past
    same s = shard_more settings setup s past e ∙ ap (λ (more : List Call). shard_log settings setup s past ++ more) (quiet s) ∙ append-nil (shard_log settings setup s past)

-- an event at a manager leaves the store, whatever it changes at the managers
pub store_stays : (settings : Settings) (setup : Setup) (past : List Event) (e : Event) (p after : Parts) (m : ℕ) → e.place ≡ place.Manager m
    → SameStore p after → StoreIs settings setup past p → StoreIs settings setup (past ++ e ∷ []) after
store_stays settings setup past e p after m at_manager same h =
    store_quiet settings setup past e after (λ s. ap (λ (x : PlaceId). shard_call s x e.request e.reply) at_manager) (store_same settings setup past p after same h)

-- a reply that is none of a store is no call of a shard
pub store_unheard : (settings : Settings) (setup : Setup) (past : List Event) (e : Event) (p : Parts) (told : ManagerReply) → e.reply ≡ reply.Manager told
    → StoreIs settings setup past p → StoreIs settings setup (past ++ e ∷ []) p
store_unheard settings setup past e p told is h = store_quiet settings setup past e p (λ s. ap (shard_call s e.place e.request) is ∙ no_call s e.place e.request) h
  where
    no_call : (s : ℕ) (x : PlaceId) (r : Request) → shard_call s x r (reply.Manager told) ≡ []
    no_call s (place.Shard t) (request.Store r) = refl
    no_call s (place.Shard t) (request.Manager r) = refl
    no_call s (place.Manager m) r = refl

-- ---- what is served

-- what the shards reply to the event follows from their logs
abbrev pub AreAnswered : Settings → Setup → List Event → Event → Type 0
AreAnswered settings setup past e = (s : ℕ) → s < settings.shards → AllByRecursion (ShardServes 0 (shard_log settings setup s past)) (shard_call s e.place e.request e.reply)

later_part : {A : Type 0} (P : List A → A → Type 0) (past xs ys : List A) → Along P past (xs ++ ys) → Along P (past ++ xs) ys
later_part P past [] ys h = subst (λ (front : List _). Along P front ys) (sym (append-nil past)) h
later_part P past (x ∷ xs) ys h = subst (λ (front : List _). Along P front ys) (append_assoc past (x ∷ []) xs) (later_part P (past ++ x ∷ []) xs ys h.1)

-- the calls of one event are one at most
one_call : (past : List Call) (s : ℕ) (x : PlaceId) (r : Request) (told : Reply) (others : List Call)
    → Along (ShardServes 0) past (shard_call s x r told ++ others) → AllByRecursion (ShardServes 0 past) (shard_call s x r told)
one_call past s (place.Shard t) (request.Store r) (reply.Store told) others h = by (t == s) h
  where
    c : Call
    c = record { request = r; reply = told }

    by : (b : Bool) → Along (ShardServes 0) past ((if b then c ∷ [] else []) ++ others) → AllByRecursion (ShardServes 0 past) (if b then c ∷ [] else [])
    by true h = (h.0, tt)
    by false h = tt
one_call past s (place.Shard t) (request.Store r) (reply.Manager told) others h = tt
one_call past s (place.Shard t) (request.Manager r) told others h = tt
one_call past s (place.Manager m) r told others h = tt

pub events_answered : (script : Script) (settings : Settings) (past : List Event) (e : Event) (later : List Event)
    → AreServed script settings (past ++ e ∷ later) → AreAnswered settings (setup_of script settings) past e
unfolding calls_of
events_answered script settings past e later served s lt =
    let opening : List Call = opening_calls settings (setup_of script settings) s in
    let before : List Call = flat_map (calls_of s) past in
    let others : List Call = flat_map (calls_of s) later in
    let parts : shard_log settings (setup_of script settings) s (past ++ e ∷ later) ≡ (opening ++ before) ++ (calls_of s e ++ others) =
    ap (λ (more : List Call). opening ++ more) (flat_map-append (calls_of s) past (e ∷ later)) ∙ sym (append_assoc opening before (calls_of s e ++ others)) in
    let all : Along (ShardServes 0) [] ((opening ++ before) ++ (calls_of s e ++ others)) = subst (λ (log : List Call). Along (ShardServes 0) [] log) parts (served.shards s lt) in
    one_call (opening ++ before) s e.place e.request e.reply others (later_part (ShardServes 0) [] (opening ++ before) (calls_of s e ++ others) all)
