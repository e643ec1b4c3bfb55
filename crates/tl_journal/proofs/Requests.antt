-- Whatever a node is doing, the protocol goes on with its request, and stands so after it.
use Rattle.std.proofs.Common.{◌≡◌, ℕ, ◌+◌, ◌≤◌, false, ◌⊎◌, List, [], ◌∷◌, ◌++◌, length, Some, None, refl, sym, ap, ◌∙◌, subst, inl, inr}
use Rattle.std.specs.Prelude.{not}
use Rattle.std.specs.List.{AllByRecursion}
use Rattle.std.proofs.lemmas.Bool.{cases_eq}
use Rattle.std.proofs.lemmas.Option.{same_Some}
use Rattle.tl_base.specs.declared.node.NodeSet.{NodeSet}
use Rattle.tl_base.specs.declared.place.Settings.{Settings}
use Rattle.tl_schema.specs.declared.catalog.Setup.{Setup}
use Rattle.tl_manager.specs.declared.request.ManagerRequest.{ManagerRequest}
use Rattle.tl_manager.specs.declared.request.ManagerRequest.TheVariants as asked
use Rattle.tl_isolation.specs.declared.bound.Bound.{Bound}
use Rattle.tl_isolation.specs.declared.entry.Answer.{Answer}
use Rattle.tl_isolation.specs.declared.entry.Entry.{Entry}
use Rattle.tl_isolation.specs.declared.script.Script.{Script}
use Rattle.tl_isolation.specs.declared.script.Session.{Session}
use Rattle.tl_isolation.specs.declared.state.SiState.{SiState}
use Rattle.tl_isolation.specs.History.{state_after}
use Rattle.tl_isolation.specs.Script.{setup_of}
use Rattle.tl_protocol.specs.Run.{Layout, Reach}
use Rattle.tl_journal.specs.declared.event.Event.{Event}
use Rattle.tl_journal.specs.Ask.{Ask, AskManager}
use Rattle.tl_journal.specs.Asks.{asks}
use Rattle.tl_journal.specs.Bytes.{heard, written}
use Rattle.tl_journal.specs.Journal.{IsCut, IsRequest, after_event, answer_said, entries_told, has_vanished, is_post, node_after, session_of}
use Rattle.tl_journal.specs.Node.{Doing, Inside, Reading, Node}
use Rattle.tl_journal.specs.Served.{Parts, parts_of}
use Rattle.tl_journal.specs.Takes.{takes}
use Rattle.tl_journal.proofs.Asking.{asks_no_post}
use Rattle.tl_journal.specs.Memory.{cut_short}
use Rattle.tl_journal.proofs.CutShort.{cut_goes}
use Rattle.tl_journal.proofs.Dispatch.{doing_goes, is_inside}
use Rattle.tl_journal.proofs.Elsewhere.{after_cut, after_own, is_to_say, is_reading, of_other}
use Rattle.tl_journal.proofs.Logs.{entries_more, state_more}
use Rattle.tl_journal.proofs.Managers.{ManagersAre}
use Rattle.tl_journal.proofs.Meets.{Before}
use Rattle.tl_journal.proofs.Present.{GoesFor, ReadsFor, StepsFor, steps_for, steps_for_at}
use Rattle.tl_journal.proofs.Shards.{DoingAt}
use Rattle.tl_journal.proofs.Sizes.{DoingFits, NodeFits, takes_fit}
use Rattle.tl_journal.proofs.Stated.{StatementOn}
use Rattle.tl_journal.proofs.Statements.{inside_steps, reading_goes}
use Rattle.tl_journal.proofs.Store.{StoreIs}
use Rattle.tl_journal.proofs.Stood.{Heeds, NodeStands, Stood, own_stands, still_stands, vanished_same}

module _ (layout : Layout) (setup : Setup) (settings : Settings) (some : 1 ≤ settings.shards) where
  -- a node that is doing this, for the sake of this statement
  present : (few : ℕ) (node : Node) (statement : Bound) (later : List Bound) → node.todo ≡ statement ∷ later → StatementOn setup.catalog statement
      → DoingFits few node.doing → (doing : Doing) → node.doing ≡ doing → StepsFor layout setup settings node
  present few node statement later e f sizes (Reading t reads) g =
      steps_for_at layout setup settings node (statement ∷ later) (Reading t reads) e g (reading_goes layout setup settings statement f node later t reads)
  present few node statement later e f sizes (Inside t) g =
      steps_for_at layout setup settings node (statement ∷ later) (Inside t) e g (inside_steps layout setup settings statement f some node later t)
  present few node statement later e f sizes doing g =
      steps_for layout setup settings node (ap is_reading g) (λ R. doing_goes R layout setup settings node statement later few e f sizes (ap is_reading g) (ap is_inside g))

  -- a node that has answered all its statements asks nothing
  answered_asks : (node : Node) → node.todo ≡ [] → StepsFor layout setup settings node
  answered_asks node e n ask asked = absurd (none ask (ap (λ (todo : List Bound). asks settings setup.catalog (record node { todo = todo })) (sym e) ∙ asked))
    where
      none : (ask : Ask) → None ≡ Some ask → ⊥
      none ask e = cc

  pub steps_any : (few : ℕ) (node : Node) → AllByRecursion (StatementOn setup.catalog) node.todo → DoingFits few node.doing → StepsFor layout setup settings node
  steps_any few node fits sizes = by node.todo refl fits
    where
      by : (todo : List Bound) → node.todo ≡ todo → AllByRecursion (StatementOn setup.catalog) todo → StepsFor layout setup settings node
      by [] e f = answered_asks node e
      by (statement ∷ later) e f = present few node statement later e f.0 sizes node.doing refl

-- a request is no death notice
no_notice : (m : ℕ) (r : ManagerRequest) → ((d : ℕ) (also : NodeSet) → r ≡ asked.Post d also → ⊥) → is_post (written (AskManager m r)) ≡ false
no_notice m (asked.Post d also) h = absurd (h d also refl)
no_notice m r h = refl

pub asked_no_post : (ask : Ask) → ((m d : ℕ) (also : NodeSet) → ask ≡ AskManager m (asked.Post d also) → ⊥) → is_post (written ask) ≡ false
asked_no_post (AskManager m r) h = no_notice m r (λ d also e. h m d also (ap (AskManager m) e))
asked_no_post ask h = refl

pub request_no_post : (script : Script) (settings : Settings) (past : List Event) (e : Event) (session : Session) (ask : Ask) → e.request ≡ written ask
    → asks settings script.catalog (node_after settings script past session) ≡ Some ask → is_post e.request ≡ false
request_no_post script settings past e session ask bytes asked =
    ap is_post bytes
    ∙ asked_no_post ask (λ m d also f. asks_no_post settings script.catalog (node_after settings script past session) m d also (asked ∙ ap Some f))

module _ (layout : Layout) (script : Script) (settings : Settings) (past : List Event) (e : Event) (s : Stood layout script settings past) where
  setup : Setup
  setup = setup_of script settings

  entries : List Entry
  entries = entries_told past

  state : SiState
  state = state_after (setup_of script settings) (entries_told past)

  -- where a request leads its node to this, and the protocol goes on so, it stands there
  pub stood_by : (session : Session) → session_of script e.node ≡ Some session → has_vanished past e.node ≡ false → is_post e.request ≡ false
      → (new : Node) (after : Parts) → after_event settings script e (node_after settings script past session) ≡ new
      → GoesFor layout (setup_of script settings) settings s.world (state_after (setup_of script settings) (entries_told past)) (entries_told past) e.entries e.node new after
      → StoreIs settings (setup_of script settings) (past ++ e ∷ []) after → ManagersAre settings (past ++ e ∷ []) after
      → NodeFits settings script.catalog (length past + 1) new → DoingAt settings new.doing → Stood layout script settings (past ++ e ∷ [])
  unfolding setup entries state
  stood_by own is_session own_runs post new after leads goes store managers fits at =
      record {
        world = goes.world;
        reach = subst (λ (es : List Entry). Reach layout setup goes.world (state_after setup (entries_told (past ++ e ∷ []))) es) (sym (entries_more past e))
            (subst (λ (x : SiState). Reach layout setup goes.world x (entries ++ e.entries)) (sym (state_more script settings past e)) goes.reach);
        store = subst (λ (p : Parts). StoreIs settings setup (past ++ e ∷ []) p) (sym goes.parts) store;
        managers = subst (λ (p : Parts). ManagersAre settings (past ++ e ∷ []) p) (sym goes.parts) managers;
        laid_out = goes.laid_out;
        catalog = goes.catalog;
        gone = λ n. goes.gone n ∙ s.gone n ∙ sym (vanished_same past e n post);
        few = λ n g. s.few n (sym (goes.gone n) ∙ g);
        nodes = λ n session h runs. by_node n session h (sym (vanished_same past e n post) ∙ runs) (cases_eq e.node n);
      }
    where
      by_node : (n : ℕ) (session : Session) → session_of script n ≡ Some session → has_vanished past n ≡ false → (e.node ≡ n) ⊎ (e.node ≡ n → ⊥)
          → NodeStands script settings (length (past ++ e ∷ [])) (node_after settings script (past ++ e ∷ []) session) goes.world n
      by_node n session h runs (inl same) =
          subst (λ (i : ℕ). NodeStands script settings (length (past ++ e ∷ [])) (node_after settings script (past ++ e ∷ []) session) goes.world i) same
          (subst (λ (x : Session). NodeStands script settings (length (past ++ e ∷ [])) (node_after settings script (past ++ e ∷ []) x) goes.world e.node)
          (same_Some own session (sym is_session ∙ ap (session_of script) same ∙ h))
          (own_stands layout script settings past e s goes.world e.node own new is_session own_runs leads fits at goes.node_is))
      by_node n session h runs (inr other) =
          still_stands layout script settings past e s goes.world n session h runs
          (of_other e.node (node_after settings script past session).number (not (is_post e.request)) (λ i. other (i ∙ (s.nodes n session h runs).is_so.number)))
          (goes.others n other)

  -- with the parts that the places left
  stood_by_parts : (session : Session) (is_session : session_of script e.node ≡ Some session) (own_runs : has_vanished past e.node ≡ false) (post : is_post e.request ≡ false)
      (new : Node) (after : Parts) (leads : after_event settings script e (node_after settings script past session) ≡ new)
      (goes : GoesFor layout (setup_of script settings) settings s.world (state_after (setup_of script settings) (entries_told past)) (entries_told past) e.entries e.node new after)
      (store : StoreIs settings (setup_of script settings) (past ++ e ∷ []) after) (managers : ManagersAre settings (past ++ e ∷ []) after)
      (fits : NodeFits settings script.catalog (length past + 1) new) (at : DoingAt settings new.doing)
      → parts_of (stood_by session is_session own_runs post new after leads goes store managers fits at).world ≡ after
  unfolding setup entries state stood_by
  stood_by_parts session is_session own_runs post new after leads goes store managers fits at = goes.parts

  -- where the places reply so, the protocol goes on
  pub request_stood : 1 ≤ settings.shards → (r : IsRequest script settings past e)
      → Before (ReadsFor settings script.catalog (node_after settings script past r.session).todo) layout (setup_of script settings) settings s.world
      (state_after (setup_of script settings) (entries_told past)) (entries_told past) e.node (node_after settings script past r.session)
      → Heeds script settings past e s.world e.node r.ask
      → DoingAt settings (takes settings script.catalog (node_after settings script past r.session) (heard r.ask e.reply) (answer_said e.entries)).doing
      → Stood layout script settings (past ++ e ∷ [])
  unfolding setup entries state
  request_stood some r b heeds at =
      let node : Node = node_after settings script past r.session in
      let answer : Answer = answer_said e.entries in
      let new : Node = takes settings script.catalog node (heard r.ask e.reply) answer in
      let stands : NodeStands script settings (length past) node s.world e.node = s.nodes e.node r.session r.is_session r.runs in
      let post : is_post e.request ≡ false = request_no_post script settings past e r.session r.ask r.bytes r.asked in
      stood_by r.session r.is_session r.runs post new heeds.after
      (after_own settings script e node r.ask state.commits (sym stands.is_so.number) post r.asked r.told)
      (subst (λ (told : List Entry). GoesFor layout setup settings s.world state entries told e.node new heeds.after) (sym r.told)
      (steps_any layout setup settings some (length past) node stands.fits.todo stands.fits.doing e.node r.ask r.asked s.world state entries (heard r.ask e.reply) answer heeds.after b
      heeds.serves r.means))
      heeds.store heeds.managers (takes_fit settings script.catalog (length past) node (heard r.ask e.reply) answer stands.fits heeds.fits heeds.told) at

  pub request_parts : (some : 1 ≤ settings.shards) (r : IsRequest script settings past e)
      (b : Before (ReadsFor settings script.catalog (node_after settings script past r.session).todo) layout (setup_of script settings) settings s.world
      (state_after (setup_of script settings) (entries_told past)) (entries_told past) e.node (node_after settings script past r.session))
      (heeds : Heeds script settings past e s.world e.node r.ask)
      (at : DoingAt settings (takes settings script.catalog (node_after settings script past r.session) (heard r.ask e.reply) (answer_said e.entries)).doing)
      → parts_of (request_stood some r b heeds at).world ≡ heeds.after
  unfolding setup entries state request_stood
  request_parts some r b heeds at = stood_by_parts _ _ _ _ _ heeds.after _ _ _ _ _ _

  -- and so where the node wants memory at the reply
  pub cut_stood : (c : IsCut script settings past e)
      → Before (ReadsFor settings script.catalog (node_after settings script past c.session).todo) layout (setup_of script settings) settings s.world
      (state_after (setup_of script settings) (entries_told past)) (entries_told past) e.node (node_after settings script past c.session)
      → Heeds script settings past e s.world e.node c.ask → Stood layout script settings (past ++ e ∷ [])
  unfolding setup entries state
  cut_stood c b heeds =
      let node : Node = node_after settings script past c.session in
      let answer : Answer = answer_said e.entries in
      let new : Node = cut_short settings script.catalog node (heard c.ask e.reply) answer in
      let stands : NodeStands script settings (length past) node s.world e.node = s.nodes e.node c.session c.is_session c.runs in
      let post : is_post e.request ≡ false = request_no_post script settings past e c.session c.ask c.bytes c.asked in
      stood_by c.session c.is_session c.runs post new heeds.after
      (after_cut settings script e node c.ask (sym stands.is_so.number) post c.asked c.cut)
      (subst (λ (told : List Entry). GoesFor layout setup settings s.world state entries told e.node new heeds.after) (sym c.told)
      (cut_goes (ReadsFor settings script.catalog node.todo) layout setup settings node e.node c.ask c.asked s.world state entries (heard c.ask e.reply) answer heeds.after b heeds.serves c.no_end
      (is_to_say settings script.catalog state.commits node (heard c.ask e.reply) answer e.entries c.cut)))
      heeds.store heeds.managers
      (record { least = stands.fits.least; greatest = stands.fits.greatest; todo = stands.fits.todo; doing = tt }) tt
