-- What a journal of a run is.
use Rattle.std.specs.Prelude.{◌≡◌, ◌<◌, ◌⊎◌, ℕ, ◌+◌, ◌==◌, Bool, true, false, not, ◌&&◌, List, [], ◌∷◌, ◌++◌, Option, Some, None, filter, flat_map, find, map, if◌then◌else◌}
use Rattle.std.specs.List.{AllByRecursion, list_any}
use Rattle.tl_base.specs.declared.place.PlaceId.{PlaceId}
use Rattle.tl_base.specs.declared.place.PlaceId.TheVariants as place
use Rattle.tl_base.specs.declared.place.Settings.{Settings}
use Rattle.tl_base.specs.declared.store.StoreReply.TheVariants as stored
use Rattle.tl_base.specs.declared.store.StoreRequest.TheVariants as store
use Rattle.tl_schema.specs.declared.catalog.Setup.{Setup}
use Rattle.tl_cells.specs.Place.{shard_of_key}
use Rattle.tl_cells.specs.Serves.{Call as ShardCall, ServesAll as ShardServes}
use Rattle.tl_descriptor.specs.Reading as sets
use Rattle.tl_manager.specs.declared.request.ManagerRequest.TheVariants as asked
use Rattle.tl_manager.specs.declared.request.Request.{Request}
use Rattle.tl_manager.specs.declared.request.Request.TheVariants as request
use Rattle.tl_manager.specs.declared.request.Reply.{Reply}
use Rattle.tl_manager.specs.declared.request.Reply.TheVariants as reply
use Rattle.tl_manager.specs.Serves.{Call as ManagerCall, ServesAll as ManagerServes}
use Rattle.tl_manager.specs.State.{opening_copy}
use Rattle.tl_versions.specs.Cell as cells
use Rattle.tl_write.specs.declared.write.Write.{Write}
use Rattle.tl_isolation.specs.declared.entry.Answer.{Answer}
use Rattle.tl_isolation.specs.declared.entry.Answer.TheVariants as answer
use Rattle.tl_isolation.specs.declared.entry.Ending.{Ending}
use Rattle.tl_isolation.specs.declared.entry.Entry.{Entry}
use Rattle.tl_isolation.specs.declared.entry.Entry.TheVariants as entry
use Rattle.tl_isolation.specs.declared.script.Script.{Script}
use Rattle.tl_isolation.specs.declared.script.Session.{Session}
use Rattle.tl_isolation.specs.History.{state_after}
use Rattle.tl_isolation.specs.Script.{setup_of}
use Rattle.tl_isolation.specs.Tables.{opening_writes}
use Rattle.tl_journal.specs.declared.event.Event.{Event}
use Rattle.tl_journal.specs.Ask.{Ask}
use Rattle.tl_journal.specs.Bytes.{commits_key, heard, home_of, place_of, written}
use Rattle.tl_journal.specs.Node.{Node, opening_node, owed_by}
use Rattle.tl_journal.specs.Asks.{asks}
use Rattle.tl_journal.specs.Memory.{is_cut, is_ending, node_then, unsaid}
use Rattle.tl_journal.specs.Takes.{MayMean}
use Rattle.tl_journal.specs.Says.{says_at}

-- what the cells of the store hold at the opening, in the order in which they are stored
abbrev pub opening_cells : Setup → List (List ℕ × List ℕ)
opening_cells setup =
    (commits_key, sets.spelling opening_copy)
    ∷ map (λ (w : Write). (w.key, cells.spelling (record { tid = 0; row = w.row } ∷ []))) (opening_writes setup.catalog setup.rows)

-- each is a store with the next stamp
abbrev pub stores_from : ℕ → List (List ℕ × List ℕ) → List ShardCall
stores_from stamp [] = []
stores_from stamp (c ∷ cs) =
    record { request = store.StoreIf c.0 0 c.1; reply = stored.Stored (stamp + 1) } ∷ stores_from (stamp + 1) cs

-- the opening requests of a shard
abbrev pub opening_calls : Settings → Setup → ℕ → List ShardCall
opening_calls settings setup shard = stores_from 0 (filter (λ c. shard_of_key c.0 settings.shards == shard) (opening_cells setup))

abbrev pub shard_call : ℕ → PlaceId → Request → Reply → List ShardCall
shard_call shard (place.Shard s) (request.Store r) (reply.Store p) = if s == shard then record { request = r; reply = p } ∷ [] else []
shard_call shard at r p = []

abbrev pub manager_call : ℕ → PlaceId → Request → Reply → List ManagerCall
manager_call manager (place.Manager m) (request.Manager r) (reply.Manager p) =
    if m == manager then record { request = r; reply = p } ∷ [] else []
manager_call manager at r p = []

-- what a shard has been asked, and a manager
abbrev pub shard_log : Settings → Setup → ℕ → List Event → List ShardCall
shard_log settings setup shard events =
    opening_calls settings setup shard ++ flat_map (λ (e : Event). shard_call shard e.place e.request e.reply) events

abbrev pub manager_log : ℕ → List Event → List ManagerCall
manager_log manager events = flat_map (λ (e : Event). manager_call manager e.place e.request e.reply) events

-- the answer of the statement that is said among these entries
abbrev pub answer_said : List Entry → Answer
answer_said [] = answer.Begun
answer_said (entry.Said node bound said ∷ es) = said.answer
answer_said (e ∷ es) = answer_said es

abbrev pub is_post : Request → Bool
is_post (request.Manager (asked.Post node also)) = true
is_post r = false

abbrev pub takes_reply : Settings → Script → Node → Option Ask → Reply → List Entry → Node
takes_reply settings script node None told entries = node
takes_reply settings script node (Some ask) told entries = node_then settings script.catalog node (heard ask told) (answer_said entries) entries

-- a node, after an event: its own requests alone concern it
abbrev pub after_event : Settings → Script → Event → Node → Node
after_event settings script e node =
    if (e.node == node.number) && not (is_post e.request)
    then takes_reply settings script node (asks settings script.catalog node) e.reply e.entries else node

abbrev pub node_from : Settings → Script → Node → List Event → Node
node_from settings script node [] = node
node_from settings script node (e ∷ es) = node_from settings script (after_event settings script e node) es

-- the node of a session after these events
abbrev pub node_after : Settings → Script → List Event → Session → Node
node_after settings script events session = node_from settings script (opening_node settings session) events

abbrev pub session_of : Script → ℕ → Option Session
session_of script node = find (λ (s : Session). s.node == node) script.sessions

abbrev pub entries_told : List Event → List Entry
entries_told events = flat_map (λ (e : Event). e.entries) events

-- a death notice of the node was posted
abbrev pub posts : ℕ → Event → Bool
posts node e = (e.node == node) && is_post e.request

abbrev pub has_vanished : List Event → ℕ → Bool
has_vanished events node = list_any (posts node) events

-- a request of a running node is the one that it asks next, at the place where it belongs; it is told what its reply says
pub record IsRequest (script : Script) (settings : Settings) (past : List Event) (e : Event) : Type 0 where
  pub session : Session
  pub is_session : session_of script e.node ≡ Some session
  pub runs : has_vanished past e.node ≡ false
  pub ask : Ask
  pub asked : asks settings script.catalog (node_after settings script past session) ≡ Some ask
  pub stands_at : e.place ≡ place_of settings ask
  pub bytes : e.request ≡ written ask
  pub means : MayMean settings script.catalog (node_after settings script past session) (heard ask e.reply) (answer_said e.entries)
  pub told : e.entries
      ≡ says_at settings script.catalog (state_after (setup_of script settings) (entries_told past)).commits (node_after settings script past session)
      (heard ask e.reply) (answer_said e.entries)

-- a request at whose reply the node wants memory: neither an answer nor a clash is told, but what else follows from the event
-- is told all the same
pub record IsCut (script : Script) (settings : Settings) (past : List Event) (e : Event) : Type 0 where
  pub session : Session
  pub is_session : session_of script e.node ≡ Some session
  pub runs : has_vanished past e.node ≡ false
  pub ask : Ask
  pub asked : asks settings script.catalog (node_after settings script past session) ≡ Some ask
  pub stands_at : e.place ≡ place_of settings ask
  pub bytes : e.request ≡ written ask
  pub no_end : is_ending (node_after settings script past session).doing ≡ false
  pub cut : is_cut settings script.catalog (node_after settings script past session) (heard ask e.reply) (answer_said e.entries) e.entries ≡ true
  pub told : e.entries
      ≡ unsaid
      (says_at settings script.catalog (state_after (setup_of script settings) (entries_told past)).commits (node_after settings script past session)
      (heard ask e.reply) (answer_said e.entries))

-- a node vanishes: its death notice stands at its manager, and names the nodes that it was to recover
pub record IsPost (script : Script) (settings : Settings) (past : List Event) (e : Event) : Type 0 where
  pub session : Session
  pub is_session : session_of script e.node ≡ Some session
  pub runs : has_vanished past e.node ≡ false
  pub stands_at : e.place ≡ place.Manager (home_of settings e.node)
  pub notice : e.request ≡ request.Manager (asked.Post e.node (owed_by (node_after settings script past session).doing))
  pub ending : Ending
  pub told : e.entries ≡ entry.Vanished e.node ending ∷ []

abbrev pub IsEvent : Script → Settings → List Event → Event → Type 0
IsEvent script settings past e = IsRequest script settings past e ⊎ (IsPost script settings past e ⊎ IsCut script settings past e)

-- a shard serves a request to the store, and a manager one to a manager
abbrev pub IsCall : PlaceId → Request → Reply → Type 0
IsCall (place.Shard s) (request.Store r) (reply.Store p) = Unit {0}
IsCall (place.Manager m) (request.Manager r) (reply.Manager p) = Unit {0}
IsCall at r p = ⊥

-- each place serves what it has been asked
pub record AreServed (script : Script) (settings : Settings) (events : List Event) : Type 0 where
  pub calls : AllByRecursion (λ (e : Event). IsCall e.place e.request e.reply) events
  pub shards : (s : ℕ) → s < settings.shards → ShardServes 0 (shard_log settings (setup_of script settings) s events)
  pub managers : (m : ℕ) → m < settings.managers → ManagerServes (manager_log m events)
