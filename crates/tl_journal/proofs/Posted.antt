-- Where a node stands before it makes a request or vanishes, and that the protocol goes on where it vanishes.
use Rattle.std.proofs.Common.{◌≡◌, ℕ, ◌<◌, ◌≤◌, Bool, true, false, List, [], ◌∷◌, ◌++◌, Some, refl, sym, ap, ◌∙◌, subst, arith}
use Rattle.std.specs.Prelude.{◌==◌, ◌-◌, ◌&&◌, ◌||◌, not}
use Rattle.std.proofs.lemmas.Bool.{and_from, and_left, eq-eqb, eqb-false, eqb-true, ne_eqb, or_right}
use Rattle.std.proofs.lemmas.Bool.Decides.{nat_tests}
use Rattle.std.proofs.lemmas.Nat.{mod_below}
use Rattle.tl_lemmas.proofs.Tests.{or_first, or_without}
use Rattle.tl_base.specs.declared.node.NodeSet.{NodeSet}
use Rattle.tl_base.specs.declared.place.PlaceId.{PlaceId}
use Rattle.tl_base.specs.declared.place.PlaceId.TheVariants as place
use Rattle.tl_base.specs.declared.place.Settings.{Settings}
use Rattle.tl_schema.specs.declared.catalog.Setup.{Setup}
use Rattle.tl_manager.specs.declared.request.ManagerReply.{ManagerReply}
use Rattle.tl_manager.specs.declared.request.ManagerReply.TheVariants as told
use Rattle.tl_manager.specs.declared.request.ManagerRequest.{ManagerRequest}
use Rattle.tl_manager.specs.declared.request.ManagerRequest.TheVariants as asked
use Rattle.tl_manager.specs.declared.request.Reply.{Reply}
use Rattle.tl_manager.specs.declared.request.Reply.TheVariants as reply
use Rattle.tl_manager.specs.declared.request.Request.{Request}
use Rattle.tl_manager.specs.declared.request.Request.TheVariants as request
use Rattle.tl_isolation.specs.declared.entry.Entry.{Entry}
use Rattle.tl_isolation.specs.declared.entry.Entry.TheVariants as entry
use Rattle.tl_isolation.specs.declared.script.Script.{Script}
use Rattle.tl_isolation.specs.declared.script.Session.{Session}
use Rattle.tl_isolation.specs.declared.state.SiState.{SiState}
use Rattle.tl_isolation.specs.History.{state_after, state_from}
use Rattle.tl_isolation.specs.Script.{setup_of}
use Rattle.tl_isolation.specs.Tables.{OpensFitting}
use Rattle.tl_protocol.specs.Run.{Layout, Reach}
use Rattle.tl_protocol.proofs.Reached.{Reached, reached}
use Rattle.tl_journal.specs.Binding.{IsBound}
use Rattle.tl_journal.specs.declared.event.Event.{Event}
use Rattle.tl_journal.specs.Bytes.{home_of}
use Rattle.tl_journal.specs.Journal.{AreServed, IsCall, IsPost, entries_told, has_vanished, is_post, node_after, posts, session_of}
use Rattle.tl_journal.specs.Node.{Node, owed_by}
use Rattle.tl_journal.specs.Served.{Parts, parts_of}
use Rattle.tl_journal.proofs.Elsewhere.{of_post}
use Rattle.tl_journal.proofs.Logs.{at_event, entries_more, manager_replies, state_more, vanished_more}
use Rattle.tl_journal.proofs.ManagerPremises.{none_posted, owed_small}
use Rattle.tl_journal.proofs.Managers.{IsSmall, ManagersAre, post_stands}
use Rattle.tl_journal.proofs.Meets.{Before}
use Rattle.tl_journal.proofs.Present.{ReadsFor}
use Rattle.tl_journal.proofs.StoreStays.{SameStore, store_stays}
use Rattle.tl_journal.proofs.Stood.{Stood, still_stands}
use Rattle.tl_journal.proofs.Vanishes.{Vanishes, posted_parts, vanish_goes}

-- a node from 1 on that isn't gone runs
running : (n : ℕ) (gone : Bool) → 1 ≤ n → gone ≡ false → (not (n == 0) && not gone) ≡ true
running n gone least e = grind (arith, nat_tests)

-- where a node stands before its request or its vanishing
pub before_stood : (layout : Layout) (script : Script) (settings : Settings) (past : List Event) (s : Stood layout script settings past) → OpensFitting (setup_of script settings)
    → (n : ℕ) (session : Session) → session_of script n ≡ Some session → has_vanished past n ≡ false → 1 ≤ n
    → (let node : Node = node_after settings script past session in
    Before (ReadsFor settings script.catalog node.todo) layout (setup_of script settings) settings s.world (state_after (setup_of script settings) (entries_told past)) (entries_told past) n node)
before_stood layout script settings past s opening n session is_session stays least = record {
  reach = s.reach;
  opening = opening;
  runs = running n (s.world.gone n) least (s.gone n ∙ stays);
  node_is = (s.nodes n session is_session stays).is_so;
  laid_out = s.laid_out;
  catalog = s.catalog;
  few = s.few;
}

-- a node of the script has one of the 16 numbers
numbers : (layout : Layout) (script : Script) (settings : Settings) (past : List Event) (s : Stood layout script settings past) (n : ℕ) (session : Session)
    → session_of script n ≡ Some session → has_vanished past n ≡ false → (1 ≤ n) × (n ≤ 16)
numbers layout script settings past s n session is_session stays =
    let stands = s.nodes n session is_session stays in
    subst (λ k. (1 ≤ k) × (k ≤ 16)) stands.is_so.number (stands.fits.least, stands.fits.greatest)

-- ---- the event

-- what a manager replies to its request is a manager's reply
pub replies : (m : ℕ) (asks : ManagerRequest) (at : PlaceId) (r : Request) (p : Reply) → IsCall at r p → at ≡ place.Manager m → r ≡ request.Manager asks
    → (answer : ManagerReply) × (p ≡ reply.Manager answer)
replies m asks (place.Shard s) r p h at asked_so = cc
replies m asks (place.Manager k) (request.Store r) p h at asked_so = cc
replies m asks (place.Manager k) (request.Manager r) (reply.Store p) h at asked_so = absurd h
replies m asks (place.Manager k) (request.Manager r) (reply.Manager p) h at asked_so = (p, refl)

-- the manager of a node is one of the managers
pub home_among : (settings : Settings) (n : ℕ) → 1 ≤ settings.managers → home_of settings n < settings.managers
home_among settings n some = mod_below (n - 1) settings.managers (omega arith)

posting : (asks : NodeSet) (n : ℕ) (r : Request) → r ≡ request.Manager (asked.Post n asks) → is_post r ≡ true
posting asks n r e = ap is_post e

-- who has vanished after the notice of a node was posted: the node, and those before
gone_now : (past : List Event) (e : Event) (gone : Bool) → is_post e.request ≡ true → gone ≡ true → gone ≡ has_vanished (past ++ e ∷ []) e.node
gone_now past e gone post h =
    h ∙ sym (vanished_more past e e.node ∙ or_right (has_vanished past e.node) (posts e.node e) (and_from (e.node == e.node) (is_post e.request) (eq-eqb e.node e.node refl) post))

gone_before : (past : List Event) (e : Event) (n : ℕ) → (e.node ≡ n → ⊥) → has_vanished (past ++ e ∷ []) n ≡ has_vanished past n
gone_before past e n ne =
    vanished_more past e n ∙ or_without (has_vanished past n) (posts n e) (and_left (e.node == n) (is_post e.request) (ne_eqb e.node n ne))

-- where the protocol stands after a node has vanished
pub post_stood : (layout : Layout) (script : Script) (settings : Settings) (past : List Event) (e : Event) (rest : List Event)
    → (s : Stood layout script settings past) → IsBound script settings → AreServed script settings (past ++ e ∷ rest)
    → IsPost script settings past e → Stood layout script settings (past ++ e ∷ [])
post_stood layout script settings past e rest s bound served post = record {
  world = v.world;
  reach = subst (λ (x : SiState). Reach layout setup v.world x (entries_told (past ++ e ∷ []))) (sym (state_more script settings past e))
      (subst (λ (x : List Entry). Reach layout setup v.world (state_from script.catalog state e.entries) x) (sym (entries_more past e))
      (subst (λ (x : List Entry). Reach layout setup v.world (state_from script.catalog state x) (entries ++ x)) (sym post.told) v.reach));
  store = store_stays settings setup past e (parts_of s.world) (parts_of v.world) (home_of settings e.node) post.stands_at
      (subst (λ (x : Parts). SameStore (parts_of s.world) x) (sym v.parts) (record { cells = refl; commits = refl; logs = refl; counter = refl })) s.store;
  managers = subst (λ (x : Parts). ManagersAre settings (past ++ e ∷ []) x) (sym v.parts) managers;
  laid_out = v.laid_out;
  catalog = v.catalog;
  gone = gone;
  few = few;
  nodes = λ n session is_session stays.
      still_stands layout script settings past e s v.world n session is_session
      (or_first (has_vanished past n) (posts n e) (sym (vanished_more past e n) ∙ stays))
      (of_post e.node (node_after settings script past session).number (is_post e.request) is_so) (v.others n);
}
  where
    setup : Setup
    setup = setup_of script settings

    state : SiState
    state = state_after setup (entries_told past)

    entries : List Entry
    entries = entries_told past

    node : Node
    node = node_after settings script past post.session

    number : (1 ≤ e.node) × (e.node ≤ 16)
    number = numbers layout script settings past s e.node post.session post.is_session post.runs

    before : Before (ReadsFor settings script.catalog node.todo) layout setup settings s.world state entries e.node node
    before = before_stood layout script settings past s bound.opening e.node post.session post.is_session post.runs number.0

    v : Vanishes layout setup settings s.world state entries (entry.Vanished e.node post.ending ∷ []) e.node node
    v = vanish_goes (ReadsFor settings script.catalog node.todo) layout setup settings s.world state entries e.node node post.ending before

    seen : Reached setup s.world state entries
    seen = reached bound.opening s.reach

    is_so : is_post e.request ≡ true
    is_so = posting (owed_by node.doing) e.node e.request post.notice

    home : home_of settings e.node < settings.managers
    home = home_among settings e.node s.laid_out.some

    told_so : e.reply ≡ reply.Manager told.Posted
    told_so =
        let found = replies (home_of settings e.node) (asked.Post e.node (owed_by node.doing)) e.place e.request e.reply
        (at_event (λ (x : Event). IsCall x.place x.request x.reply) past e rest served.calls) post.stands_at post.notice in
        found.1 ∙ ap reply.Manager (manager_replies script settings past e rest (home_of settings e.node) (asked.Post e.node (owed_by node.doing)) found.0
        served home post.stands_at post.notice found.1)

    small : IsSmall (owed_by node.doing)
    small = owed_small s.world seen.ledger seen.ghost seen.inv e.node (owed_by node.doing) before.runs s.few (λ d. sym (v.owes d) ∙ v.are d)

    managers : ManagersAre settings (past ++ e ∷ []) (posted_parts (parts_of s.world) e.node v.nodes)
    managers = post_stands settings past e (parts_of s.world) e.node (owed_by node.doing) v.nodes home post.stands_at post.notice told_so
        (none_posted s.world seen.ledger seen.ghost seen.inv e.node before.runs) v.are small s.managers

    gone : (n : ℕ) → v.world.gone n ≡ has_vanished (past ++ e ∷ []) n
    gone n = by (e.node == n) refl
      where
        by : (b : Bool) → (e.node == n) ≡ b → v.world.gone n ≡ has_vanished (past ++ e ∷ []) n
        by true same = subst (λ k. v.world.gone k ≡ has_vanished (past ++ e ∷ []) k) (eqb-true e.node n same) (gone_now past e (v.world.gone e.node) is_so v.vanished)
        by false other = v.gone n (eqb-false e.node n other) ∙ s.gone n ∙ sym (gone_before past e n (eqb-false e.node n other))

    few : (n : ℕ) → v.world.gone n ≡ true → n ≤ 16
    few n h = by (e.node == n) refl
      where
        by : (b : Bool) → (e.node == n) ≡ b → n ≤ 16
        by true same = subst (λ k. k ≤ 16) (eqb-true e.node n same) number.1
        by false other = s.few n (sym (v.gone n (eqb-false e.node n other)) ∙ h)
