-- A run is too short for a shard to be full: each event is one store at most, or one sum of at most 16.
use Rattle.std.proofs.Common.{◌≡◌, ℕ, suc, ◌+◌, ◌*◌, ◌<◌, ◌≤◌, ◌^◌, Bool, true, false, Less, Equal, Greater, List, [], ◌∷◌, ◌++◌, Some, length, map, refl, sym, ap, subst, inl, inr, arith}
use Rattle.std.specs.Prelude.{◌==◌, nat_eq, nat_lt, filter, flat_map, if◌then◌else◌}
use Rattle.std.specs.Cmp.Lexicographic.{pointwise}
use Rattle.std.specs.List.{AllByRecursion}
use Rattle.std.specs.Ordering.{match_ordering}
use Rattle.std.proofs.lemmas.Bool.{eqb-true}
use Rattle.std.proofs.lemmas.Bool.Decides.{nat_tests}
use Rattle.std.proofs.lemmas.List.{length-append, length-map}
use Rattle.std.proofs.lemmas.List.Sums.{count_by-le-length, length-filter}
use Rattle.std.proofs.lemmas.Nat.{mod_below}
use Rattle.tl_lemmas.proofs.Lists.{all_append}
use Rattle.tl_base.specs.Along.{Along}
use Rattle.tl_base.specs.declared.place.PlaceId.{PlaceId}
use Rattle.tl_base.specs.declared.place.PlaceId.TheVariants as place
use Rattle.tl_base.specs.declared.place.Settings.{Settings}
use Rattle.tl_base.specs.declared.store.StoreReply.{StoreReply}
use Rattle.tl_base.specs.declared.store.StoreReply.TheVariants as answered
use Rattle.tl_base.specs.declared.store.StoreRequest.{StoreRequest}
use Rattle.tl_base.specs.declared.store.StoreRequest.TheVariants as store
use Rattle.tl_schema.specs.declared.catalog.Catalog.{Catalog}
use Rattle.tl_schema.specs.declared.catalog.OpeningRow.{OpeningRow}
use Rattle.tl_schema.specs.declared.catalog.Setup.{Setup}
use Rattle.tl_cells.specs.Cells.{add_reply, greatest, store_reply}
use Rattle.tl_cells.specs.Place.{key_hash, shard_of_key}
use Rattle.tl_cells.specs.Serves.{Call, added, count_at, last_stamp, reply_after, store_of, stores}
use Rattle.tl_descriptor.specs.Reading as sets
use Rattle.tl_logrec.specs.Entry as logs
use Rattle.tl_versions.specs.Cell as cells
use Rattle.tl_manager.specs.declared.request.Reply.{Reply}
use Rattle.tl_manager.specs.declared.request.Reply.TheVariants as reply
use Rattle.tl_manager.specs.declared.request.Request.{Request}
use Rattle.tl_manager.specs.declared.request.Request.TheVariants as request
use Rattle.tl_write.specs.declared.write.Write.{Write}
use Rattle.tl_write.specs.Own.{key_cmp, put_write}
use Rattle.tl_isolation.specs.declared.script.Script.{Script}
use Rattle.tl_isolation.specs.Script.{setup_of}
use Rattle.tl_schema.specs.Record.{record_key}
use Rattle.tl_isolation.specs.Tables.{opening_writes, table_of}
use Rattle.tl_protocol.specs.Store.{Key}
use Rattle.tl_protocol.specs.Run.{Layout}
use Rattle.tl_journal.specs.declared.event.Event.{Event}
use Rattle.tl_journal.specs.Ask.{Ask, LoadCommits, StoreCommits, LoadLog, StoreLog, LoadRecord, StoreRecord, ReadPage, DrawNumbers, AskManager, Heard, Strange}
use Rattle.tl_journal.specs.Bytes.{commits_key, counter_key, heard, log_key, place_of, shard_at, shard_heard, store_heard, written}
use Rattle.tl_journal.specs.Journal.{AreServed, IsCall, IsEvent, opening_calls, opening_cells, shard_call, shard_log, stores_from}
use Rattle.tl_journal.specs.Served.{parts_of}
use Rattle.tl_journal.proofs.Heeded.{is_call, shard_reply}
use Rattle.tl_journal.proofs.Logs.{at_event}
use Rattle.tl_journal.proofs.Managers.{is_of_shard}
use Rattle.tl_journal.proofs.StoreLogs.{call_of, calls_of, counter_in}
use Rattle.tl_journal.proofs.StoreOpening.{spelled}
use Rattle.tl_journal.proofs.StoreServes.{follows_log}
use Rattle.tl_journal.proofs.StoreStays.{events_answered}
use Rattle.tl_journal.proofs.Stood.{Stood}

-- ---- the calls of a log

-- what a request adds to a counter
abbrev sum_of : StoreRequest → ℕ
sum_of (store.Add key by) = by
sum_of request = 0

-- no call adds more than 16
abbrev AreFew : List Call → Type 0
AreFew log = AllByRecursion (λ (c : Call). sum_of c.request ≤ 16) log

added_few : (key : Key) (asked : StoreRequest) (answer : StoreReply) → added key asked answer ≤ sum_of asked
added_few key (store.Add counter by) (answered.Count old) = on (pointwise nat_eq key counter) refl
  where
    on : (b : Bool) → pointwise nat_eq key counter ≡ b → added key (store.Add counter by) (answered.Count old) ≤ by
    on true e = rw e (omega arith)
    on false e = rw e (omega arith)
added_few key asked answer = omega arith

count_few : (key : Key) (log : List Call) → AreFew log → count_at log key ≤ 16 * length log
count_few key [] h = omega arith
count_few key (c ∷ cs) h =
    let one : added key c.request c.reply ≤ sum_of c.request = added_few key c.request c.reply in
    let most : sum_of c.request ≤ 16 = h.0 in
    let rest : count_at cs key ≤ 16 * length cs = count_few key cs h.1 in
    omega arith

store_one : (asked : StoreRequest) (answer : StoreReply) → length (store_of asked answer) ≤ 1
store_one (store.StoreIf key stamp value) (answered.Stored fresh) = omega arith
store_one asked answer = omega arith

stores_few : (log : List Call) → length (stores log) ≤ length log
stores_few [] = omega arith
stores_few (c ∷ cs) =
    let both : length (stores cs ++ store_of c.request c.reply) ≡ length (stores cs) + length (store_of c.request c.reply) = length-append (stores cs) (store_of c.request c.reply) in
    let one : length (store_of c.request c.reply) ≤ 1 = store_one c.request c.reply in
    let rest : length (stores cs) ≤ length cs = stores_few cs in
    omega arith

-- ---- the opening

opening_few : (n : ℕ) (cs : List (Key × List ℕ)) → AreFew (stores_from n cs)
opening_few n [] = tt
opening_few n (c ∷ cs) = (omega arith, opening_few (n + 1) cs)

opening_many : (n : ℕ) (cs : List (Key × List ℕ)) → length (stores_from n cs) ≡ length cs
opening_many n [] = refl
opening_many n (c ∷ cs) = ap suc (opening_many (n + 1) cs)

put_more : (w : Write) (ws : List Write) → length (put_write w ws) ≤ suc (length ws)
put_more w [] = omega arith
put_more w (x ∷ xs) =
    elim (key_cmp w.key x.key) as (λ o. length (match_ordering o (w ∷ x ∷ xs) (w ∷ xs) (x ∷ put_write w xs)) ≤ suc (suc (length xs))) [
      | Less ↦ omega arith
      | Equal ↦ omega arith
      | Greater ↦ let rest : length (put_write w xs) ≤ suc (length xs) = put_more w xs in omega arith
    ]

rows_many : (catalog : Catalog) (rows : List OpeningRow) → length (opening_writes catalog rows) ≤ length rows
rows_many catalog [] = omega arith
rows_many catalog (o ∷ os) =
    let w : Write = record { key = record_key o.table (table_of catalog o.table) o.row; row = Some o.row } in
    let one : length (put_write w (opening_writes catalog os)) ≤ suc (length (opening_writes catalog os)) = put_more w (opening_writes catalog os) in
    let rest : length (opening_writes catalog os) ≤ length os = rows_many catalog os in
    omega arith

opening_calls_many : (settings : Settings) (setup : Setup) (s : ℕ) → length (opening_calls settings setup s) ≤ length setup.rows + 1
opening_calls_many settings setup s =
    let cs : List (Key × List ℕ) = filter (λ (c : Key × List ℕ). shard_of_key c.0 settings.shards == s) (opening_cells setup) in
    let calls : length (stores_from 0 cs) ≡ length cs = opening_many 0 cs in
    let kept = length-filter (λ (c : Key × List ℕ). shard_of_key c.0 settings.shards == s) (opening_cells setup) in
    let fewer = count_by-le-length (λ (c : Key × List ℕ). shard_of_key c.0 settings.shards == s) (opening_cells setup) in
    let each : length (map spelled (opening_writes setup.catalog setup.rows)) ≡ length (opening_writes setup.catalog setup.rows) = length-map (opening_writes setup.catalog setup.rows) spelled in
    let rows : length (opening_writes setup.catalog setup.rows) ≤ length setup.rows = rows_many setup.catalog setup.rows in
    omega arith

-- ---- the events

-- what an event's request adds to a counter
abbrev asked_sum : Request → ℕ
asked_sum (request.Store r) = sum_of r
asked_sum (request.Manager r) = 0

abbrev SumsFew : Event → Type 0
SumsFew e = asked_sum e.request ≤ 16

written_few : (ask : Ask) → asked_sum (written ask) ≤ 16
written_few LoadCommits = omega arith
written_few (StoreCommits stamp set) = omega arith
written_few (LoadLog tid) = omega arith
written_few (StoreLog stamp entry) = omega arith
written_few (LoadRecord key) = omega arith
written_few (StoreRecord key stamp versions) = omega arith
written_few (ReadPage shard from before) = omega arith
written_few DrawNumbers = omega arith
written_few (AskManager m asked) = omega arith

event_few : (script : Script) (settings : Settings) (past : List Event) (e : Event) → IsEvent script settings past e → SumsFew e
event_few script settings past e (inl r) = subst (λ (x : Request). asked_sum x ≤ 16) (sym r.bytes) (written_few r.ask)
event_few script settings past e (inr (inl p)) = subst (λ (x : Request). asked_sum x ≤ 16) (sym p.notice) (omega arith)
event_few script settings past e (inr (inr c)) = subst (λ (x : Request). asked_sum x ≤ 16) (sym c.bytes) (written_few c.ask)

events_few : (script : Script) (settings : Settings) (past now later : List Event) → Along (IsEvent script settings) past (now ++ later) → AllByRecursion SumsFew now
events_few script settings past [] later h = tt
events_few script settings past (e ∷ now) later h = (event_few script settings past e h.0, events_few script settings (past ++ e ∷ []) now later h.1)

call_one : (s : ℕ) (x : PlaceId) (r : Request) (p : Reply) → length (shard_call s x r p) ≤ 1
call_one s (place.Shard t) (request.Store r) (reply.Store p) = by (t == s)
  where
    c : Call
    c = record { request = r; reply = p }

    by : (b : Bool) → length (if b then c ∷ [] else []) ≤ 1
    by true = omega arith
    by false = omega arith
call_one s (place.Shard t) (request.Store r) (reply.Manager p) = omega arith
call_one s (place.Shard t) (request.Manager r) p = omega arith
call_one s (place.Manager m) r p = omega arith

call_few : (s : ℕ) (x : PlaceId) (r : Request) (p : Reply) → asked_sum r ≤ 16 → AreFew (shard_call s x r p)
call_few s (place.Shard t) (request.Store r) (reply.Store p) h = by (t == s)
  where
    c : Call
    c = record { request = r; reply = p }

    by : (b : Bool) → AreFew (if b then c ∷ [] else [])
    by true = (h, tt)
    by false = tt
call_few s (place.Shard t) (request.Store r) (reply.Manager p) h = tt
call_few s (place.Shard t) (request.Manager r) p h = tt
call_few s (place.Manager m) r p h = tt

events_many : (s : ℕ) (events : List Event) → length (flat_map (calls_of s) events) ≤ length events
unfolding calls_of
events_many s [] = omega arith
events_many s (e ∷ es) =
    let both : length (calls_of s e ++ flat_map (calls_of s) es) ≡ length (calls_of s e) + length (flat_map (calls_of s) es) = length-append (calls_of s e) (flat_map (calls_of s) es) in
    let one : length (calls_of s e) ≤ 1 = call_one s e.place e.request e.reply in
    let rest : length (flat_map (calls_of s) es) ≤ length es = events_many s es in
    omega arith

calls_few : (s : ℕ) (events : List Event) → AllByRecursion SumsFew events → AreFew (flat_map (calls_of s) events)
unfolding calls_of
calls_few s [] h = tt
calls_few s (e ∷ es) h =
    all_append (λ (c : Call). sum_of c.request ≤ 16) (calls_of s e) (flat_map (calls_of s) es) (call_few s e.place e.request e.reply h.0) (calls_few s es h.1)

module _ (settings : Settings) (setup : Setup) (s : ℕ) (past : List Event) where
  log_many : length (shard_log settings setup s past) ≤ length setup.rows + 1 + length past
  unfolding calls_of
  log_many =
      let both : length (opening_calls settings setup s ++ flat_map (calls_of s) past) ≡ length (opening_calls settings setup s) + length (flat_map (calls_of s) past) =
      length-append (opening_calls settings setup s) (flat_map (calls_of s) past) in
      let first : length (opening_calls settings setup s) ≤ length setup.rows + 1 = opening_calls_many settings setup s in
      let later : length (flat_map (calls_of s) past) ≤ length past = events_many s past in
      omega arith

  log_few : AllByRecursion SumsFew past → AreFew (shard_log settings setup s past)
  unfolding calls_of
  log_few h =
      all_append (λ (c : Call). sum_of c.request ≤ 16) (opening_calls settings setup s) (flat_map (calls_of s) past)
      (opening_few 0 (filter (λ (c : Key × List ℕ). shard_of_key c.0 settings.shards == s) (opening_cells setup))) (calls_few s past h)

-- ---- no shard is full

-- how many events and opening rows there are at most
pub record IsShort (setup : Setup) (past : List Event) : Type 0 where
  pub events : length past < 2 ^ 32
  pub rows : length setup.rows < 2 ^ 32

pub last_low : (settings : Settings) (setup : Setup) (s : ℕ) (past : List Event) → IsShort setup past → last_stamp 0 (shard_log settings setup s past) < greatest
last_low settings setup s past short =
    let all : length (stores (shard_log settings setup s past)) ≤ length (shard_log settings setup s past) = stores_few (shard_log settings setup s past) in
    let many : length (shard_log settings setup s past) ≤ length setup.rows + 1 + length past = log_many settings setup s past in
    let events : length past < 2 ^ 32 = short.events in
    let rows : length setup.rows < 2 ^ 32 = short.rows in
    omega arith

count_low : (settings : Settings) (setup : Setup) (past : List Event) → IsShort setup past → AllByRecursion SumsFew past → counter_in settings setup past + 16 ≤ greatest
count_low settings setup past short few =
    let s : ℕ = shard_of_key counter_key settings.shards in
    let all : count_at (shard_log settings setup s past) counter_key ≤ 16 * length (shard_log settings setup s past) = count_few counter_key (shard_log settings setup s past) (log_few settings setup s past few) in
    let many : length (shard_log settings setup s past) ≤ length setup.rows + 1 + length past = log_many settings setup s past in
    let events : length past < 2 ^ 32 = short.events in
    let rows : length setup.rows < 2 ^ 32 = short.rows in
    omega arith

-- ---- so no store is refused for want of room

abbrev pub IsPlain : Heard → Type 0
IsPlain Strange = ⊥
IsPlain told = Unit {0}

-- a store was made or found another stamp, and numbers were drawn
abbrev pub HasRoom : Ask → Heard → Type 0
HasRoom (StoreCommits stamp set) told = IsPlain told
HasRoom (StoreLog stamp entry) told = IsPlain told
HasRoom (StoreRecord key stamp versions) told = IsPlain told
HasRoom DrawNumbers told = IsPlain told
HasRoom ask told = Unit {0}

stored_plain : (found stamp last : ℕ) → last < greatest → IsPlain (store_heard (store_reply found stamp last))
stored_plain found stamp last low = by (found == stamp) (last == greatest) refl
  where
    full : (last == greatest) ≡ true → ⊥
    full e = let same : last ≡ greatest = eqb-true last greatest e in omega arith

    by : (a b : Bool) → (last == greatest) ≡ b → IsPlain (store_heard (if a then (if b then answered.Full last else answered.Stored (last + 1)) else answered.Moved found))
    by false b e = tt
    by true false e = tt
    by true true e = absurd (full e)

drawn_plain : (old : ℕ) → old + 16 ≤ greatest → IsPlain (shard_heard DrawNumbers (add_reply old 16))
drawn_plain old low = by (nat_lt greatest (old + 16)) refl
  where
    over : (a b : ℕ) → b ≤ a → nat_lt a b ≡ true → ⊥
    over a b le e = grind (arith, nat_tests)

    by : (b : Bool) → nat_lt greatest (old + 16) ≡ b → IsPlain (shard_heard DrawNumbers (if b then answered.Full old else answered.Count old))
    by true e = absurd (over greatest (old + 16) low e)
    by false e = tt

module _ (layout : Layout) (script : Script) (settings : Settings) (past : List Event) (e : Event) (rest : List Event) (s : Stood layout script settings past)
    (some : 1 ≤ settings.shards) (few : length past + 1 < 2 ^ 32) (rows : length script.rows < 2 ^ 32)
    (served : AreServed script settings (past ++ e ∷ rest)) (events : Along (IsEvent script settings) [] (past ++ e ∷ rest)) where
  setup : Setup
  setup = setup_of script settings

  pub short : IsShort (setup_of script settings) past
  short = record { events = omega arith; rows = rows }

  pub answer_of : (ask : Ask) → is_of_shard ask ≡ true → e.place ≡ place_of settings ask → e.request ≡ written ask → (answer : StoreReply) × (e.reply ≡ reply.Store answer)
  answer_of ask o at_place so =
      shard_reply settings ask e.reply o
      (is_call e.place (place_of settings ask) e.request (written ask) e.reply at_place so (at_event (λ (x : Event). IsCall x.place x.request x.reply) past e rest served.calls))

  -- the answer follows from the log of the shard
  pub follows : (key : Key) (asked : StoreRequest) (answer : StoreReply) → e.place ≡ shard_at settings key → e.request ≡ request.Store asked → e.reply ≡ reply.Store answer
      → answer ≡ reply_after 0 (shard_log settings (setup_of script settings) (shard_of_key key settings.shards) past) asked
  follows key asked answer at_place so told =
      follows_log settings (setup_of script settings) past e (parts_of s.world) e.node s.store few (events_answered script settings past e rest served)
      (shard_of_key key settings.shards) (mod_below (key_hash 0 key) settings.shards (omega arith)) asked answer
      (call_of e (shard_of_key key settings.shards) asked answer at_place so told)

  stores_plain : (key : Key) (stamp : ℕ) (value : List ℕ) (answer : StoreReply) → e.place ≡ shard_at settings key → e.request ≡ request.Store (store.StoreIf key stamp value)
      → e.reply ≡ reply.Store answer → IsPlain (store_heard answer)
  stores_plain key stamp value answer at_place so told =
      subst (λ (x : StoreReply). IsPlain (store_heard x)) (sym (follows key (store.StoreIf key stamp value) answer at_place so told))
      (stored_plain _ stamp _ (last_low settings (setup_of script settings) (shard_of_key key settings.shards) past short))

  pub has_room : (ask : Ask) → e.place ≡ place_of settings ask → e.request ≡ written ask → HasRoom ask (heard ask e.reply)
  has_room LoadCommits at_place so = tt
  has_room (StoreCommits stamp set) at_place so =
      let answer = answer_of (StoreCommits stamp set) refl at_place so in
      subst (λ (x : Reply). IsPlain (heard (StoreCommits stamp set) x)) (sym answer.1) (stores_plain commits_key stamp (sets.spelling set) answer.0 at_place so answer.1)
  has_room (LoadLog tid) at_place so = tt
  has_room (StoreLog stamp entry) at_place so =
      let answer = answer_of (StoreLog stamp entry) refl at_place so in
      subst (λ (x : Reply). IsPlain (heard (StoreLog stamp entry) x)) (sym answer.1) (stores_plain (log_key entry.tid) stamp (logs.spelling entry) answer.0 at_place so answer.1)
  has_room (LoadRecord key) at_place so = tt
  has_room (StoreRecord key stamp versions) at_place so =
      let answer = answer_of (StoreRecord key stamp versions) refl at_place so in
      subst (λ (x : Reply). IsPlain (heard (StoreRecord key stamp versions) x)) (sym answer.1) (stores_plain key stamp (cells.spelling versions) answer.0 at_place so answer.1)
  has_room (ReadPage shard from before) at_place so = tt
  has_room DrawNumbers at_place so =
      let answer = answer_of DrawNumbers refl at_place so in
      let low : counter_in settings (setup_of script settings) past + 16 ≤ greatest = count_low settings (setup_of script settings) past short (events_few script settings [] past (e ∷ rest) events) in
      subst (λ (x : Reply). IsPlain (heard DrawNumbers x)) (sym answer.1)
      (subst (λ (x : StoreReply). IsPlain (shard_heard DrawNumbers x)) (sym (follows counter_key (store.Add counter_key 16) answer.0 at_place so answer.1))
      (drawn_plain (counter_in settings (setup_of script settings) past) low))
  has_room (AskManager m asked) at_place so = tt
