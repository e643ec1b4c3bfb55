-- What the events of a run stored last under a key stands there.
use Rattle.std.proofs.Common.{◌≡◌, ℕ, Bool, true, false, List, [], ◌∷◌, ◌++◌, Option, Some, None, append_assoc, append-nil, refl, sym, ap, ◌∙◌, inl, inr}
use Rattle.std.specs.Prelude.{◌==◌, if◌then◌else◌}
use Rattle.std.specs.List.{AllByRecursion}
use Rattle.tl_base.specs.Along.{Along}
use Rattle.tl_base.specs.declared.place.PlaceId.{PlaceId}
use Rattle.tl_base.specs.declared.place.PlaceId.TheVariants as place
use Rattle.tl_base.specs.declared.place.Settings.{Settings}
use Rattle.tl_base.specs.declared.store.StoreReply.{StoreReply}
use Rattle.tl_base.specs.declared.store.StoreReply.TheVariants as answered
use Rattle.tl_base.specs.declared.store.StoreRequest.{StoreRequest}
use Rattle.tl_base.specs.declared.store.StoreRequest.TheVariants as store
use Rattle.tl_schema.specs.declared.catalog.Setup.{Setup}
use Rattle.tl_cells.specs.declared.cell.Cell.{Cell as ShardCell}
use Rattle.tl_cells.specs.Place.{shard_of_key}
use Rattle.tl_cells.specs.Serves.{Call, cell_at, store_of}
use Rattle.tl_manager.specs.declared.request.Reply.{Reply}
use Rattle.tl_manager.specs.declared.request.Reply.TheVariants as reply
use Rattle.tl_manager.specs.declared.request.Request.{Request}
use Rattle.tl_manager.specs.declared.request.Request.TheVariants as request
use Rattle.tl_isolation.specs.declared.script.Script.{Script}
use Rattle.tl_protocol.specs.Store.{Key, last_of, put_at, same_key}
use Rattle.tl_journal.specs.declared.event.Event.{Event}
use Rattle.tl_journal.specs.Ask.{Ask, StoreCommits, StoreLog, StoreRecord}
use Rattle.tl_journal.specs.Bytes.{place_of, shard_at, written}
use Rattle.tl_journal.specs.Journal.{IsEvent, shard_call, shard_log}
use Rattle.tl_journal.proofs.StoreLogs.{call_of, cell_in, cell_stored, cell_unmoved}
use Rattle.tl_render.specs.Stored.{Stored, last_stored, stored_at, stored_by}
use Rattle.tl_journal.proofs.Logs.{shard_more}

-- the bytes that were stored over those that were there
abbrev pub value_over : Option (List ℕ) → List ℕ → List ℕ
value_over None below = below
value_over (Some bytes) below = bytes

over_over : (earlier later : Option (List ℕ)) (below : List ℕ) → value_over later (value_over earlier below) ≡ value_over (last_of earlier later) below
over_over earlier None below = refl
over_over earlier (Some bytes) below = refl

abbrev key_in : Option Stored → Key
key_in None = []
key_in (Some s) = s.0

abbrev bytes_in : Option Stored → List ℕ
bytes_in None = []
bytes_in (Some s) = s.1

-- ---- one event

-- a request that stored these bytes
record IsStore (asked : Request) (told : Reply) (s : Stored) : Type 0 where
  stamp : ℕ
  fresh : ℕ
  asks : asked ≡ request.Store (store.StoreIf s.0 stamp s.1)
  tells : told ≡ reply.Store (answered.Stored fresh)

is_store : (asked : Request) (told : Reply) (s : Stored) → stored_by asked told ≡ Some s → IsStore asked told s
is_store (request.Store (store.StoreIf key stamp value)) (reply.Store (answered.Stored fresh)) s e =
    let same_key_is : key ≡ s.0 = ap key_in e in
    let same_bytes : value ≡ s.1 = ap bytes_in e in
    record {
      stamp = stamp;
      fresh = fresh;
      asks = λ i. request.Store (store.StoreIf (same_key_is i) stamp (same_bytes i));
      tells = refl;
    }
is_store asked told s e = absurd cc

none_stored : (asked : StoreRequest) (told : StoreReply) → stored_by (request.Store asked) (reply.Store told) ≡ None → store_of asked told ≡ []
none_stored (store.StoreIf key stamp value) (answered.Stored fresh) e = absurd cc
none_stored asked told e = refl

-- a call that stored nothing
call_unmoved : (log : List Call) (c : Call) (b : Bool) → store_of c.request c.reply ≡ [] → (q : Key) → cell_at (log ++ (if b then c ∷ [] else [])) q ≡ cell_at log q
call_unmoved log c true none q = cell_unmoved log c none q
call_unmoved log c false none q = ap (λ (l : List Call). cell_at l q) (append-nil log)

log_unmoved : (log : List Call) (t : ℕ) (stands : PlaceId) (asked : Request) (told : Reply) → stored_by asked told ≡ None → (q : Key)
    → cell_at (log ++ shard_call t stands asked told) q ≡ cell_at log q
log_unmoved log t (place.Shard s) (request.Store asked) (reply.Store told) none q =
    call_unmoved log (record { request = asked; reply = told }) (s == t) (none_stored asked told none) q
log_unmoved log t stands asked told none q = ap (λ (l : List Call). cell_at l q) (append-nil log)

-- what an event stored it stored where its key lives
abbrev pub StoresHome : Settings → Event → Type 0
StoresHome settings e = (s : Stored) → stored_by e.request e.reply ≡ Some s → e.place ≡ shard_at settings s.0

module _ (settings : Settings) (setup : Setup) where
  value_put : (k : Key) (x : ShardCell) (q : Key) (f : Key → ShardCell) → (put_at k x f q).value ≡ value_over (if same_key k q then Some x.value else None) (f q).value
  value_put k x q f = by (same_key k q)
    where
      by : (b : Bool) → (if b then x else f q).value ≡ value_over (if b then Some x.value else None) (f q).value
      by true = refl
      by false = refl

  cell_next : (past : List Event) (e : Event) → StoresHome settings e → (q : Key)
      → (cell_in settings setup (past ++ e ∷ []) q).value ≡ value_over (stored_at q (stored_by e.request e.reply)) (cell_in settings setup past q).value
  cell_next past e home q = by (stored_by e.request e.reply) refl
    where
      by : (o : Option Stored) → stored_by e.request e.reply ≡ o
          → (cell_in settings setup (past ++ e ∷ []) q).value ≡ value_over (stored_at q o) (cell_in settings setup past q).value
      by None none =
          let s : ℕ = shard_of_key q settings.shards in
          ap (λ (log : List Call). (cell_at log q).value) (shard_more settings setup s past e)
          ∙ ap (λ (c : ShardCell). c.value) (log_unmoved (shard_log settings setup s past) s e.place e.request e.reply none q)
      by (Some s) is =
          let i = is_store e.request e.reply s is in
          let x : ShardCell = record { stamp = i.fresh; value = s.1 } in
          let c : Call = record { request = store.StoreIf s.0 i.stamp s.1; reply = answered.Stored i.fresh } in
          ap (λ (c : ShardCell). c.value)
          (cell_stored settings setup past e (shard_of_key s.0 settings.shards) c
          (call_of e (shard_of_key s.0 settings.shards) (store.StoreIf s.0 i.stamp s.1) (answered.Stored i.fresh) (home s is) i.asks i.tells)
          s.0 x refl refl q)
          ∙ value_put s.0 x q (cell_in settings setup past)

  -- ---- events, one after the other
  pub cell_last : (past now : List Event) → AllByRecursion (StoresHome settings) now → (q : Key)
      → (cell_in settings setup (past ++ now) q).value ≡ value_over (last_stored now q) (cell_in settings setup past q).value
  cell_last past [] h q = ap (λ (es : List Event). (cell_in settings setup es q).value) (append-nil past)
  cell_last past (e ∷ now) h q =
      ap (λ (es : List Event). (cell_in settings setup es q).value) (sym (append_assoc past (e ∷ []) now))
      ∙ cell_last (past ++ e ∷ []) now h.1 q
      ∙ ap (value_over (last_stored now q)) (cell_next past e h.0 q)
      ∙ over_over (stored_at q (stored_by e.request e.reply)) (last_stored now q) (cell_in settings setup past q).value

-- ---- the events of a run

asked_home : (settings : Settings) (ask : Ask) (told : Reply) (s : Stored) → stored_by (written ask) told ≡ Some s → place_of settings ask ≡ shard_at settings s.0
asked_home settings (StoreCommits stamp set) (reply.Store (answered.Stored fresh)) s e = ap (λ (o : Option Stored). shard_at settings (key_in o)) e
asked_home settings (StoreLog stamp log) (reply.Store (answered.Stored fresh)) s e = ap (λ (o : Option Stored). shard_at settings (key_in o)) e
asked_home settings (StoreRecord key stamp versions) (reply.Store (answered.Stored fresh)) s e = ap (λ (o : Option Stored). shard_at settings (key_in o)) e
asked_home settings ask told s e = absurd cc

request_home : (settings : Settings) (e : Event) (ask : Ask) → e.place ≡ place_of settings ask → e.request ≡ written ask → StoresHome settings e
request_home settings e ask stands bytes s is =
    stands ∙ asked_home settings ask e.reply s (sym (ap (λ (r : Request). stored_by r e.reply) bytes) ∙ is)

event_home : (script : Script) (settings : Settings) (past : List Event) (e : Event) → IsEvent script settings past e → StoresHome settings e
event_home script settings past e (inl r) = request_home settings e r.ask r.stands_at r.bytes
event_home script settings past e (inr (inl p)) = λ s is.
    let none = sym (ap (λ (r : Request). stored_by r e.reply) p.notice) ∙ is in
    absurd cc
event_home script settings past e (inr (inr c)) = request_home settings e c.ask c.stands_at c.bytes

pub events_home : (script : Script) (settings : Settings) (past now : List Event) → Along (IsEvent script settings) past now → AllByRecursion (StoresHome settings) now
events_home script settings past [] h = tt
events_home script settings past (e ∷ now) h = (event_home script settings past e h.0, events_home script settings (past ++ e ∷ []) now h.1)
