-- What a place has replied to a request of a running node, as the protocol sees it.
use Rattle.std.proofs.Common.{◌≡◌, inl, inr, ℕ, ◌+◌, ◌-◌, ◌<◌, ◌≤◌, ◌^◌, true, false, List, ◌∷◌, ◌++◌, length, Some, None, refl, sym, subst}
use Rattle.tl_base.specs.declared.place.PlaceId.{PlaceId}
use Rattle.tl_base.specs.declared.place.Settings.{Settings}
use Rattle.tl_base.specs.declared.store.StoreReply.{StoreReply}
use Rattle.tl_manager.specs.declared.request.ManagerReply.{ManagerReply}
use Rattle.tl_manager.specs.declared.request.ManagerRequest.{ManagerRequest}
use Rattle.tl_manager.specs.declared.request.ManagerRequest.TheVariants as asked
use Rattle.tl_manager.specs.declared.request.Reply.{Reply}
use Rattle.tl_manager.specs.declared.request.Reply.TheVariants as reply
use Rattle.tl_manager.specs.declared.request.Request.{Request}
use Rattle.tl_manager.specs.Floor.{newer}
use Rattle.tl_descriptor.specs.Tids.{TidSet}
use Rattle.tl_isolation.specs.declared.script.Script.{Script}
use Rattle.tl_isolation.specs.declared.script.Session.{Session}
use Rattle.tl_isolation.specs.History.{state_after}
use Rattle.tl_isolation.specs.Script.{setup_of}
use Rattle.tl_protocol.specs.Store.{log_stamp, put}
use Rattle.tl_protocol.specs.World.{Fact, Ready, Txn}
use Rattle.tl_protocol.specs.Next.{numbered}
use Rattle.tl_protocol.specs.Run.{Layout}
use Rattle.tl_protocol.proofs.Finished.{Snap}
use Rattle.tl_protocol.proofs.Reached.{reached}
use Rattle.tl_journal.specs.Binding.{IsBound}
use Rattle.tl_journal.specs.declared.event.Event.{Event}
use Rattle.tl_journal.specs.Ask.{Ask, LoadCommits, StoreCommits, LoadLog, StoreLog, LoadRecord, StoreRecord, ReadPage, DrawNumbers, AskManager, Heard}
use Rattle.tl_journal.specs.Asks.{asks}
use Rattle.tl_journal.specs.Bytes.{heard, place_of, written}
use Rattle.tl_journal.specs.Journal.{AreServed, IsCall, entries_told, has_vanished, node_after, session_of}
use Rattle.tl_journal.specs.Node.{Node}
use Rattle.tl_journal.specs.Reads.{Reads}
use Rattle.tl_journal.specs.Served.{Answers, Parts, Serves, Stores, begun_parts, parts_of, stored_commits, stored_log, stored_record}
use Rattle.tl_journal.proofs.Asking.{manager_among, manager_tells, may_ask, undrawn_above}
use Rattle.tl_journal.proofs.Fits.{HeardFits}
use Rattle.tl_journal.proofs.Logs.{at_event, manager_replies}
use Rattle.tl_journal.proofs.ManagerServes.{MayAsk}
use Rattle.tl_journal.proofs.Managers.{is_of_shard, managers_stay_served}
use Rattle.tl_journal.proofs.Meets.{Before}
use Rattle.tl_journal.proofs.Present.{ReadsFor}
use Rattle.tl_journal.proofs.Shards.{DoingAt, asks_at}
use Rattle.tl_journal.proofs.Sizes.{NodeFits, ToldFits, asks_fit}
use Rattle.tl_journal.proofs.StoreServes.{store_serves}
use Rattle.tl_journal.proofs.StoreStays.{SameStore, events_answered, store_stays}
use Rattle.tl_journal.proofs.Stood.{Heeds, Stood}

-- ---- the kind of the reply

-- a shard replies with what a store replies
pub shard_reply : (settings : Settings) (ask : Ask) (p : Reply) → is_of_shard ask ≡ true → IsCall (place_of settings ask) (written ask) p
    → (answer : StoreReply) × (p ≡ reply.Store answer)
shard_reply settings LoadCommits (reply.Store answer) o h = (answer, refl)
shard_reply settings (StoreCommits stamp set) (reply.Store answer) o h = (answer, refl)
shard_reply settings (LoadLog tid) (reply.Store answer) o h = (answer, refl)
shard_reply settings (StoreLog stamp entry) (reply.Store answer) o h = (answer, refl)
shard_reply settings (LoadRecord key) (reply.Store answer) o h = (answer, refl)
shard_reply settings (StoreRecord key stamp versions) (reply.Store answer) o h = (answer, refl)
shard_reply settings (ReadPage shard from before) (reply.Store answer) o h = (answer, refl)
shard_reply settings DrawNumbers (reply.Store answer) o h = (answer, refl)
shard_reply settings LoadCommits (reply.Manager told) o h = absurd h
shard_reply settings (StoreCommits stamp set) (reply.Manager told) o h = absurd h
shard_reply settings (LoadLog tid) (reply.Manager told) o h = absurd h
shard_reply settings (StoreLog stamp entry) (reply.Manager told) o h = absurd h
shard_reply settings (LoadRecord key) (reply.Manager told) o h = absurd h
shard_reply settings (StoreRecord key stamp versions) (reply.Manager told) o h = absurd h
shard_reply settings (ReadPage shard from before) (reply.Manager told) o h = absurd h
shard_reply settings DrawNumbers (reply.Manager told) o h = absurd h
shard_reply settings (AskManager m request) p o h = absurd cc

manager_reply : (settings : Settings) (m : ℕ) (request : ManagerRequest) (p : Reply) → IsCall (place_of settings (AskManager m request)) (written (AskManager m request)) p
    → (answer : ManagerReply) × (p ≡ reply.Manager answer)
manager_reply settings m request (reply.Manager answer) h = (answer, refl)
manager_reply settings m request (reply.Store answer) h = absurd h

-- the kind of the reply is that of what was asked
pub is_call : (place other : PlaceId) (request asked_so : Request) (p : Reply) → place ≡ other → request ≡ asked_so → IsCall place request p → IsCall other asked_so p
is_call place other request asked_so p at_place so h = subst (λ r. IsCall other r p) so (subst (λ x. IsCall x request p) at_place h)

-- ---- what a shard tells fits

module _ (settings : Settings) (p : Parts) where
  store_told : (found stamp : ℕ) (told : Heard) (done : ℕ → Parts) (after : Parts) → Stores found stamp told done p after → ToldFits told
  store_told found stamp told done after (inl h) = subst ToldFits (sym h.1) tt
  store_told found stamp told done after (inr (inl h)) = subst ToldFits (sym h.0) tt
  store_told found stamp told done after (inr (inr h)) = subst ToldFits (sym h.0) tt

  shard_told : (n : ℕ) (ask : Ask) (told : Heard) (after : Parts) → is_of_shard ask ≡ true → Serves settings p n ask told after → ToldFits told
  shard_told n LoadCommits told after o h = subst ToldFits (sym h.0) tt
  shard_told n (StoreCommits stamp set) told after o h = store_told p.commits.stamp stamp told (stored_commits p set) after h
  shard_told n (LoadLog tid) told after o h = subst ToldFits (sym h.0) tt
  shard_told n (StoreLog stamp entry) told after o h = store_told (log_stamp (p.logs entry.tid)) stamp told (stored_log p entry) after h
  shard_told n (LoadRecord key) told after o h = subst ToldFits (sym h.0) tt
  shard_told n (StoreRecord key stamp versions) told after o h = store_told (p.cells key).stamp stamp told (stored_record p key versions) after h
  shard_told n (ReadPage shard from before) told after o h = subst ToldFits (sym h.0.2) tt
  shard_told n DrawNumbers told after o (inl h) = subst ToldFits (sym h.0) tt
  shard_told n DrawNumbers told after o (inr h) = subst ToldFits (sym h.0) tt
  shard_told n (AskManager m request) told after o h = absurd cc

  -- ---- a manager leaves the store

  leaves : (q after : Parts) → SameStore p q → after ≡ q → SameStore p after
  leaves q after same e = subst (λ (x : Parts). SameStore p x) (sym e) same

  as_it_was : (after : Parts) → after ≡ p → SameStore p after
  as_it_was after e = leaves p after (record { cells = refl; commits = refl; logs = refl; counter = refl }) e

  manager_leaves : (known : TidSet → Type 0) (n m : ℕ) (request : ManagerRequest) (told : Heard) (after : Parts) → MayAsk known settings p n m request
      → Answers settings p m request told after → SameStore p after
  manager_leaves known n m (asked.Begin node seen) told after may (inl h) =
      leaves (begun_parts p m node h.0 (newer (p.copies m) seen)) after (record { cells = refl; commits = refl; logs = refl; counter = refl }) h.5
  manager_leaves known n m (asked.Begin node seen) told after may (inr h) = as_it_was after h.1
  manager_leaves known n m (asked.Range low high) told after may h =
      leaves (record p { numbers = numbered (low - 1) (Ready m) p.numbers }) after (record { cells = refl; commits = refl; logs = refl; counter = refl }) h.1
  manager_leaves known n m (asked.End tid) told after may h =
      leaves (record p { active = put may.0 None p.active }) after (record { cells = refl; commits = refl; logs = refl; counter = refl }) (h.1 may.0 may.1 may.2 may.3)
  manager_leaves known n m (asked.Orphans node) told after may h = as_it_was after h.1
  manager_leaves known n m (asked.Floor seen) told after may h =
      leaves (record p { copies = put m (newer (p.copies m) seen) p.copies }) after (record { cells = refl; commits = refl; logs = refl; counter = refl }) h.1
  manager_leaves known n m (asked.Post node also) told after may h = absurd h
  manager_leaves known n m (asked.Claim node) told after may (inl h) = as_it_was after h.2
  manager_leaves known n m (asked.Claim node) told after may (inr h) =
      leaves (record p { notices = put node None p.notices }) after (record { cells = refl; commits = refl; logs = refl; counter = refl }) h.5

-- ---- the reply to a request

module _ (layout : Layout) (script : Script) (settings : Settings) (past : List Event) (e : Event) (rest : List Event) (s : Stood layout script settings past)
    (some : 1 ≤ settings.shards) (few : length past + 1 < 2 ^ 32) (served : AreServed script settings (past ++ e ∷ rest))
    (R : Txn → List Fact → Reads → Type 0) (node : Node)
    (b : Before R layout (setup_of script settings) settings s.world (state_after (setup_of script settings) (entries_told past)) (entries_told past) e.node node)
    (fits : NodeFits settings script.catalog (length past) node) (shards : DoingAt settings node.doing) where
  called : (ask : Ask) → e.place ≡ place_of settings ask → e.request ≡ written ask → IsCall (place_of settings ask) (written ask) e.reply
  called ask at_place so =
      is_call e.place (place_of settings ask) e.request (written ask) e.reply at_place so
      (at_event (λ (x : Event). IsCall x.place x.request x.reply) past e rest served.calls)

  by_shard : (ask : Ask) → is_of_shard ask ≡ true → asks settings script.catalog node ≡ Some ask → e.place ≡ place_of settings ask → e.request ≡ written ask
      → Heeds script settings past e s.world e.node ask
  by_shard ask o is at_place so =
      let answer = shard_reply settings ask e.reply o (called ask at_place so) in
      let done = store_serves settings (setup_of script settings) past e (parts_of s.world) e.node ask answer.0 s.store few some
      (asks_at settings script.catalog node ask some shards is o) (asks_fit settings script.catalog (length past) node ask fits is) at_place so answer.1
      (events_answered script settings past e rest served) in
      let c = reached b.opening b.reach in
      record {
        after = done.after;
        serves = done.serves;
        store = done.store;
        managers = managers_stay_served settings past e (parts_of s.world) s.managers e.node ask (heard ask e.reply) done.after o at_place
            (undrawn_above s.world c.ledger c.ghost c.inv) done.serves;
        fits = done.fits;
        told = shard_told settings (parts_of s.world) e.node ask (heard ask e.reply) done.after o done.serves;
      }

  by_manager : (m : ℕ) (request : ManagerRequest) → asks settings script.catalog node ≡ Some (AskManager m request) → e.place ≡ place_of settings (AskManager m request)
      → e.request ≡ written (AskManager m request) → Heeds script settings past e s.world e.node (AskManager m request)
  by_manager m request is at_place so =
      let setup = setup_of script settings in
      let state = state_after (setup_of script settings) (entries_told past) in
      let answer = manager_reply settings m request e.reply (called (AskManager m request) at_place so) in
      let among = manager_among R layout setup settings s.world state (entries_told past) e.node node b m request is in
      let may = may_ask R layout setup settings s.world state (entries_told past) e.node node b m request is in
      let tells = manager_tells R layout setup settings s.world state (entries_told past) e.node node b past e m request answer.0 is at_place so answer.1
      (manager_replies script settings past e rest m request answer.0 served among at_place so answer.1) s.managers in
      record {
        after = tells.0;
        serves = tells.1;
        store = store_stays settings setup past e (parts_of s.world) tells.0 m at_place
            (manager_leaves settings (parts_of s.world) (λ (x : TidSet). Snap x (reached b.opening b.reach).ghost.finished) e.node m request (heard (AskManager m request) e.reply) tells.0 may tells.1) s.store;
        managers = tells.2;
        fits = subst (λ (r : Reply). HeardFits (length past + 1) (heard (AskManager m request) r)) (sym answer.1) tt;
        told = tells.3;
      }

  by_ask : (ask : Ask) → asks settings script.catalog node ≡ Some ask → e.place ≡ place_of settings ask → e.request ≡ written ask
      → Heeds script settings past e s.world e.node ask
  by_ask (AskManager m request) is at_place so = by_manager m request is at_place so
  by_ask LoadCommits is at_place so = by_shard LoadCommits refl is at_place so
  by_ask (StoreCommits stamp set) is at_place so = by_shard (StoreCommits stamp set) refl is at_place so
  by_ask (LoadLog tid) is at_place so = by_shard (LoadLog tid) refl is at_place so
  by_ask (StoreLog stamp entry) is at_place so = by_shard (StoreLog stamp entry) refl is at_place so
  by_ask (LoadRecord key) is at_place so = by_shard (LoadRecord key) refl is at_place so
  by_ask (StoreRecord key stamp versions) is at_place so = by_shard (StoreRecord key stamp versions) refl is at_place so
  by_ask (ReadPage shard from before) is at_place so = by_shard (ReadPage shard from before) refl is at_place so
  by_ask DrawNumbers is at_place so = by_shard DrawNumbers refl is at_place so

-- a place replies to a request of a running node as the protocol says, and what stands after it is seen there
pub heeded : (layout : Layout) (script : Script) (settings : Settings) (past : List Event) (e : Event) (rest : List Event)
    → (s : Stood layout script settings past) → IsBound script settings → 1 ≤ settings.shards → length past + 1 < 2 ^ 32
    → AreServed script settings (past ++ e ∷ rest)
    → (session : Session) → session_of script e.node ≡ Some session → has_vanished past e.node ≡ false
    → (let node : Node = node_after settings script past session in
    (b : Before (ReadsFor settings script.catalog node.todo) layout (setup_of script settings) settings s.world (state_after (setup_of script settings) (entries_told past)) (entries_told past) e.node node)
    → (ask : Ask) → asks settings script.catalog node ≡ Some ask → e.place ≡ place_of settings ask → e.request ≡ written ask
    → Heeds script settings past e s.world e.node ask)
heeded layout script settings past e rest s bound some few served session is_session runs b ask is at_place so =
    let node : Node = node_after settings script past session in
    let stands = s.nodes e.node session is_session runs in
    by_ask layout script settings past e rest s some few served (ReadsFor settings script.catalog node.todo) node b stands.fits stands.shards ask is at_place so
