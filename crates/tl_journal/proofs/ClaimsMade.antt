-- After each event of a run a node that recovers goes on with what its present statement's claim was given.
use Rattle.std.proofs.Common.{◌≡◌, ℕ, Bool, true, false, inl, inr, ◌⊎◌, List, [], ◌∷◌, ◌++◌, Option, Some, None, append_assoc, append-nil, refl, sym, ap, ◌∙◌, subst}
use Rattle.std.specs.Prelude.{◌==◌, ◌&&◌, ◌||◌, not}
use Rattle.std.specs.List.{list_any}
use Rattle.std.proofs.lemmas.Bool.{cases_eq, ne_eqb}
use Rattle.std.proofs.lemmas.List.Folds.{list_any-append}
use Rattle.std.proofs.lemmas.Option.{same_Some}
use Rattle.tl_base.specs.NodeSet.{with_node}
use Rattle.tl_base.specs.declared.node.NodeSet.{NodeSet}
use Rattle.tl_base.specs.declared.place.Settings.{Settings}
use Rattle.tl_schema.specs.declared.catalog.Catalog.{Catalog}
use Rattle.tl_manager.specs.declared.request.ManagerReply.{ManagerReply}
use Rattle.tl_manager.specs.declared.request.ManagerReply.TheVariants as manager
use Rattle.tl_manager.specs.declared.request.ManagerRequest.TheVariants as asked
use Rattle.tl_manager.specs.declared.request.Reply.{Reply}
use Rattle.tl_manager.specs.declared.request.Reply.TheVariants as reply
use Rattle.tl_manager.specs.declared.request.Request.TheVariants as request
use Rattle.tl_versions.specs.Versions.{strip}
use Rattle.tl_descriptor.specs.Tids.{inserted}
use Rattle.tl_logrec.specs.declared.entry.Flag.TheVariants as flag
use Rattle.tl_isolation.specs.declared.bound.Bound.{Bound}
use Rattle.tl_isolation.specs.declared.entry.Answer.{Answer}
use Rattle.tl_isolation.specs.declared.script.Script.{Script}
use Rattle.tl_isolation.specs.declared.script.Session.{Session}
use Rattle.tl_isolation.specs.History.{state_after}
use Rattle.tl_isolation.specs.Script.{setup_of}
use Rattle.tl_protocol.specs.Store.{Key, CommitsCell, LogCell}
use Rattle.tl_protocol.specs.World.{Loaded}
use Rattle.tl_protocol.specs.Next.{marked}
use Rattle.tl_journal.specs.declared.event.Event.{Event}
use Rattle.tl_journal.specs.Ask.{Ask, LoadCommits, StoreCommits, LoadLog, StoreLog, LoadRecord, StoreRecord, AskManager, Told}
use Rattle.tl_journal.specs.Asks.{Course, ToRecover, asks, asks_outside, course_outside}
use Rattle.tl_journal.specs.Bytes.{heard, home_of, written}
use Rattle.tl_journal.specs.Journal.{IsEvent, IsPost, after_event, answer_said, entries_told, has_vanished, is_post, node_after, posts, session_of}
use Rattle.tl_journal.specs.Law.{IsRun}
use Rattle.tl_journal.specs.Memory.{cut_short}
use Rattle.tl_journal.specs.Node.{Claimed, Lost, Doing, Outside, Recovering, ReadingLog, Stripping, Finishing, EndingLost, Node}
use Rattle.tl_journal.specs.Recovered.{claims, is_claim}
use Rattle.tl_journal.specs.Takes.{takes}
use Rattle.tl_journal.proofs.Begins.{so_far}
use Rattle.tl_journal.proofs.Claims.{Comes, Follows, IsSame, follows_with, takes_leads}
use Rattle.tl_journal.proofs.Elsewhere.{after_cut, after_other, after_own, of_other, of_post}
use Rattle.tl_journal.proofs.Journals.{stood_at}
use Rattle.tl_journal.proofs.Logs.{along_at, node_more, vanished_more}
use Rattle.tl_journal.proofs.Requests.{request_no_post}

-- ---- requests

-- a manager's reply to a claim is as it is heard
pub claim_replied : (m gone : ℕ) (p : Reply) (told : ManagerReply) → heard (AskManager m (asked.Claim gone)) p ≡ Told told → p ≡ reply.Manager told
claim_replied m gone (reply.Manager answer) told e = ap reply.Manager (same answer told e)
  where
    same : (x y : ManagerReply) → Told x ≡ Told y → x ≡ y
    same x y e = cc
claim_replied m gone (reply.Store answer) told e = absurd cc

no_claim : (is ask : Ask) → is_claim (written is) ≡ false → Some is ≡ Some ask → is_claim (written ask) ≡ false
no_claim is ask h e = subst (λ (a : Ask). is_claim (written a) ≡ false) (same_Some is ask e) h

module _ (settings : Settings) (catalog : Catalog) (node : Node) (statement : Bound) (later : List Bound) (ask : Ask) where
  abbrev AsksAt : Doing → Type 0
  AsksAt doing = asks settings catalog (so_far node (statement ∷ later) doing) ≡ Some ask

  pub claim_asked : (course : Course) (gone : ℕ) → course_outside statement ≡ course → course ≡ ToRecover gone → AsksAt Outside → ask ≡ AskManager (home_of settings gone) (asked.Claim gone)
  claim_asked course gone e f is =
      same_Some ask (AskManager (home_of settings gone) (asked.Claim gone))
      (sym is ∙ ap (λ (x : Course). Some (asks_outside settings (so_far node (statement ∷ later) Outside) statement x)) (e ∙ f))

  -- a node that recovers claims nothing
  recovering_asks : (c : Claimed) (left : List ℕ) → AsksAt (Recovering (record c { left = left })) → is_claim (written ask) ≡ false
  recovering_asks c [] e = no_claim LoadCommits ask refl e
  recovering_asks c (d ∷ left) e = no_claim (AskManager (home_of settings d) (asked.Orphans d)) ask refl e

  stripping_asks : (c : Claimed) (o : Lost) (log : LogCell) (keys : List Key) (l : Option Loaded) → AsksAt (Stripping c o log keys l) → is_claim (written ask) ≡ false
  stripping_asks c o log keys (Some l) e = no_claim (StoreRecord l.key l.stamp (strip o.tid l.versions)) ask refl e
  stripping_asks c o log [] None e = no_claim (StoreLog log.stamp (marked 0 flag.Undone log).entry) ask refl e
  stripping_asks c o log (key ∷ keys) None e = no_claim (LoadRecord key) ask refl e

  finishing_asks : (c : Claimed) (o : Lost) (committed : Bool) (x : Option CommitsCell) → AsksAt (Finishing c o committed x) → is_claim (written ask) ≡ false
  finishing_asks c o committed None e = no_claim LoadCommits ask refl e
  finishing_asks c o committed (Some x) e = no_claim (StoreCommits x.stamp (inserted x.finished o.tid)) ask refl e

  ending_asks : (c : Claimed) (o : Lost) → AsksAt (EndingLost c o) → is_claim (written ask) ≡ false
  ending_asks c o e = no_claim (AskManager (home_of settings o.node) (asked.End o.tid)) ask refl e

-- ---- the claim

-- the claim of the node's present statement gave it this
pub record Made (script : Script) (settings : Settings) (session : Session) (past : List Event) (n : ℕ) (answers : List Answer) (c : Claimed) : Type 0 where
  pub before : List Event
  pub claim : Event
  pub since : List Event
  pub also : NodeSet
  pub past_is : past ≡ before ++ claim ∷ since
  pub own : claim.node ≡ n
  pub asks_so : claim.request ≡ request.Manager (asked.Claim c.node)
  pub given : claim.reply ≡ reply.Manager (manager.Given also)
  pub all : c.all ≡ with_node also c.node
  -- the node had answered as much as now
  pub answers_then : (node_after settings script before session).answers ≡ answers
  pub last : list_any (claims n) since ≡ false

none_more : (n : ℕ) (since : List Event) (e : Event) → list_any (claims n) since ≡ false → claims n e ≡ false → list_any (claims n) (since ++ e ∷ []) ≡ false
none_more n since e h k = list_any-append (claims n) since (e ∷ []) ∙ neither (list_any (claims n) since) (claims n e) h k
  where
    neither : (a b : Bool) → a ≡ false → b ≡ false → (a || (b || false)) ≡ false
    neither false false h k = refl
    neither true b h k = cc
    neither false true h k = cc

module _ (script : Script) (settings : Settings) (session : Session) (past : List Event) (e : Event) (n : ℕ) where
  -- an event that is no claim of the node, and answers nothing
  made_more : (answers new : List Answer) (c d : Claimed) → claims n e ≡ false → new ≡ answers → IsSame c d → Made script settings session past n answers c
      → Made script settings session (past ++ e ∷ []) n new d
  made_more answers new c d no_other same is m = record {
    before = m.before;
    claim = m.claim;
    since = m.since ++ e ∷ [];
    also = m.also;
    past_is = ap (λ es. es ++ e ∷ []) m.past_is ∙ append_assoc m.before (m.claim ∷ m.since) (e ∷ []);
    own = m.own;
    asks_so = m.asks_so ∙ ap (λ d. request.Manager (asked.Claim d)) is.0;
    given = m.given;
    all = sym is.1 ∙ m.all ∙ ap (with_node m.also) is.0;
    answers_then = m.answers_then ∙ sym same;
    last = none_more n m.since e m.last no_other;
  }

module _ (script : Script) (settings : Settings) where
  -- so of each running node
  abbrev pub Owns : List Event → Type 0
  Owns past =
      (n : ℕ) (session : Session) → session_of script n ≡ Some session → has_vanished past n ≡ false
      → Follows (node_after settings script past session).doing (Made script settings session past n (node_after settings script past session).answers)

  module _ (past : List Event) (e : Event) (i : Owns past) (n : ℕ) (session : Session) (h : session_of script n ≡ Some session) (runs : has_vanished past n ≡ false) where
    -- where its node is led
    led : (new : Node) → after_event settings script e (node_after settings script past session) ≡ new
        → Follows new.doing (Made script settings session (past ++ e ∷ []) n new.answers)
        → Follows (node_after settings script (past ++ e ∷ []) session).doing (Made script settings session (past ++ e ∷ []) n (node_after settings script (past ++ e ∷ []) session).answers)
    led new leads m =
        subst (λ (x : Node). Follows x.doing (Made script settings session (past ++ e ∷ []) n x.answers)) (sym (node_more settings script past e session ∙ leads)) m

    -- a node that the event leaves as it is
    stays : after_event settings script e (node_after settings script past session) ≡ node_after settings script past session → claims n e ≡ false
        → Follows (node_after settings script (past ++ e ∷ []) session).doing (Made script settings session (past ++ e ∷ []) n (node_after settings script (past ++ e ∷ []) session).answers)
    stays same no_other =
        let node : Node = node_after settings script past session in
        led node same
        (follows_with (Made script settings session past n node.answers) (Made script settings session (past ++ e ∷ []) n node.answers) node.doing
        (λ c m. made_more script settings session past e n node.answers node.answers c c no_other refl (refl, refl) m) (i n session h runs))

    module _ (node : Node) (statement : Bound) (later : List Bound) (ask : Ask) (own : e.node ≡ n) (bytes : e.request ≡ written ask) (new : List Answer) (same : new ≡ node.answers)
        (at_claim : (node_after settings script past session).answers ≡ node.answers) (d : Claimed) where
      not_claiming : is_claim (written ask) ≡ false → claims n e ≡ false
      not_claiming no_other = second (e.node == n) (is_claim e.request) (ap is_claim bytes ∙ no_other)
        where
          second : (a b : Bool) → b ≡ false → (a && b) ≡ false
          second true b e = e
          second false b e = refl

      goes_on_with : (c : Claimed) → is_claim (written ask) ≡ false → IsSame c d → Made script settings session past n node.answers c
          → Made script settings session (past ++ e ∷ []) n new d
      goes_on_with c no_other is m = made_more script settings session past e n node.answers new c d (not_claiming no_other) same is m

      -- its own request
      made_by : (doing : Doing) → asks settings script.catalog (so_far node (statement ∷ later) doing) ≡ Some ask → Follows doing (Made script settings session past n node.answers)
          → Comes doing statement (heard ask e.reply) d → Made script settings session (past ++ e ∷ []) n new d
      made_by Outside is m comes =
          let claiming : ask ≡ AskManager (home_of settings d.node) (asked.Claim d.node) =
          claim_asked settings script.catalog node statement later ask (course_outside statement) d.node refl comes.0 is in
          record {
            before = past;
            claim = e;
            since = [];
            also = comes.1.0;
            past_is = refl;
            own = own;
            asks_so = bytes ∙ ap written claiming;
            given = claim_replied (home_of settings d.node) d.node e.reply (manager.Given comes.1.0) (sym (ap (λ (a : Ask). heard a e.reply) claiming) ∙ comes.1.1);
            all = comes.1.2;
            answers_then = at_claim ∙ sym same;
            last = refl;
          }
      made_by (Recovering c) is m comes = goes_on_with c (recovering_asks settings script.catalog node statement later ask c c.left is) comes m
      made_by (ReadingLog c o) is m comes = goes_on_with c (no_claim (LoadLog o.tid) ask refl is) comes m
      made_by (Stripping c o log keys l) is m comes = goes_on_with c (stripping_asks settings script.catalog node statement later ask c o log keys l is) comes m
      made_by (Finishing c o committed x) is m comes = goes_on_with c (finishing_asks settings script.catalog node statement later ask c o committed x is) comes m
      made_by (EndingLost c o) is m comes = goes_on_with c (ending_asks settings script.catalog node statement later ask c o is) comes m
      made_by doing is m comes = absurd comes

    asks_own : (ask : Ask) → asks settings script.catalog (node_after settings script past session) ≡ Some ask → e.node ≡ n → e.request ≡ written ask
        → after_event settings script e (node_after settings script past session) ≡ takes settings script.catalog (node_after settings script past session) (heard ask e.reply) (answer_said e.entries)
        → Follows (node_after settings script (past ++ e ∷ []) session).doing (Made script settings session (past ++ e ∷ []) n (node_after settings script (past ++ e ∷ []) session).answers)
    asks_own ask is own bytes leads = led (takes settings script.catalog node (heard ask e.reply) (answer_said e.entries)) leads (by node.todo refl)
      where
        node : Node
        node = node_after settings script past session

        new : Node
        new = takes settings script.catalog node (heard ask e.reply) (answer_said e.entries)

        by : (todo : List Bound) → node.todo ≡ todo → Follows new.doing (Made script settings session (past ++ e ∷ []) n new.answers)
        by [] f = absurd (none (ap (λ (todo : List Bound). asks settings script.catalog (record node { todo = todo })) (sym f) ∙ is))
          where
            none : ◌≡◌ {A = Option Ask} None (Some ask) → ⊥
            none e = cc
        by (statement ∷ later) f =
            let here : asks settings script.catalog (so_far node (statement ∷ later) node.doing) ≡ Some ask =
            ap (λ (todo : List Bound). asks settings script.catalog (record node { todo = todo })) (sym f) ∙ is in
            follows_with
            (λ (c : Claimed). (new.answers ≡ node.answers) × Comes node.doing statement (heard ask e.reply) c) (Made script settings session (past ++ e ∷ []) n new.answers) new.doing
            (λ d x. made_by node statement later ask own bytes new.answers x.0 refl d node.doing here (i n session h runs) x.1)
            (takes_leads settings script.catalog node statement later (heard ask e.reply) (answer_said e.entries) f)

  module _ (past : List Event) (e : Event) (rest : List Event) (run : IsRun script settings (past ++ e ∷ rest)) (i : Owns past) where
    ran : (n : ℕ) → has_vanished (past ++ e ∷ []) n ≡ false → has_vanished past n ≡ false
    ran n h = before (has_vanished past n) (posts n e) (sym (vanished_more past e n) ∙ h)
      where
        before : (a b : Bool) → (a || b) ≡ false → a ≡ false
        before true b h = cc
        before false b h = refl

    -- a request of the node itself, of which it takes the reply or is cut short at it, or of another
    requested : (own : Session) (ask : Ask) → session_of script e.node ≡ Some own → has_vanished past e.node ≡ false
        → asks settings script.catalog (node_after settings script past own) ≡ Some ask → e.request ≡ written ask
        → (after_event settings script e (node_after settings script past own) ≡ takes settings script.catalog (node_after settings script past own) (heard ask e.reply) (answer_said e.entries))
        ⊎ (after_event settings script e (node_after settings script past own) ≡ cut_short settings script.catalog (node_after settings script past own) (heard ask e.reply) (answer_said e.entries))
        → Owns (past ++ e ∷ [])
    requested own ask is_own own_runs is bytes leads n session h runs = by (cases_eq e.node n)
      where
        by : (e.node ≡ n) ⊎ (e.node ≡ n → ⊥)
            → Follows (node_after settings script (past ++ e ∷ []) session).doing (Made script settings session (past ++ e ∷ []) n (node_after settings script (past ++ e ∷ []) session).answers)
        by (inl same) = on leads
          where
            sessions : own ≡ session
            sessions = same_Some own session (sym is_own ∙ ap (session_of script) same ∙ h)

            on : (after_event settings script e (node_after settings script past own) ≡ takes settings script.catalog (node_after settings script past own) (heard ask e.reply) (answer_said e.entries))
                ⊎ (after_event settings script e (node_after settings script past own) ≡ cut_short settings script.catalog (node_after settings script past own) (heard ask e.reply) (answer_said e.entries))
                → Follows (node_after settings script (past ++ e ∷ []) session).doing (Made script settings session (past ++ e ∷ []) n (node_after settings script (past ++ e ∷ []) session).answers)
            on (inl takes_it) =
                asks_own past e i n session h (ran n runs) ask
                (subst (λ (x : Session). asks settings script.catalog (node_after settings script past x) ≡ Some ask) sessions is) same bytes
                (subst (λ (x : Session). after_event settings script e (node_after settings script past x) ≡ takes settings script.catalog (node_after settings script past x) (heard ask e.reply) (answer_said e.entries))
                sessions takes_it)
            on (inr cut) =
                led past e i n session h (ran n runs) (cut_short settings script.catalog (node_after settings script past session) (heard ask e.reply) (answer_said e.entries))
                (subst (λ (x : Session). after_event settings script e (node_after settings script past x) ≡ cut_short settings script.catalog (node_after settings script past x) (heard ask e.reply) (answer_said e.entries))
                sessions cut) tt
        by (inr other) =
            let node : Node = node_after settings script past session in
            let number : node.number ≡ n = ((stood_at script settings past (e ∷ rest) run).nodes n session h (ran n runs)).is_so.number in
            stays past e i n session h (ran n runs)
            (after_other settings script e node (of_other e.node node.number (not (is_post e.request)) (λ same. other (same ∙ number))))
            (ap (λ b. b && is_claim e.request) (ne_eqb e.node n other))

    -- a death notice
    posted : IsPost script settings past e → Owns (past ++ e ∷ [])
    posted p n session h runs =
        let node : Node = node_after settings script past session in
        stays past e i n session h (ran n runs)
        (after_other settings script e node (of_post e.node node.number (is_post e.request) (ap is_post p.notice)))
        (second (e.node == n) (is_claim e.request) (ap is_claim p.notice))
      where
        second : (a b : Bool) → b ≡ false → (a && b) ≡ false
        second true b e = e
        second false b e = refl

    one_more : IsEvent script settings past e → Owns (past ++ e ∷ [])
    one_more (inl r) =
        let node : Node = node_after settings script past r.session in
        let number : node.number ≡ e.node = ((stood_at script settings past (e ∷ rest) run).nodes e.node r.session r.is_session r.runs).is_so.number in
        requested r.session r.ask r.is_session r.runs r.asked r.bytes
        (inl (after_own settings script e node r.ask (state_after (setup_of script settings) (entries_told past)).commits (sym number)
        (request_no_post script settings past e r.session r.ask r.bytes r.asked) r.asked r.told))
    one_more (inr (inl p)) = posted p
    one_more (inr (inr c)) =
        let node : Node = node_after settings script past c.session in
        let number : node.number ≡ e.node = ((stood_at script settings past (e ∷ rest) run).nodes e.node c.session c.is_session c.runs).is_so.number in
        requested c.session c.ask c.is_session c.runs c.asked c.bytes
        (inr (after_cut settings script e node c.ask (sym number) (request_no_post script settings past e c.session c.ask c.bytes c.asked) c.asked c.cut))

  along : (past now later : List Event) → IsRun script settings (past ++ (now ++ later)) → Owns past → Owns (past ++ now)
  along past [] later run i = subst Owns (sym (append-nil past)) i
  along past (e ∷ now) later run i =
      subst Owns (append_assoc past (e ∷ []) now)
      (along (past ++ e ∷ []) now later (subst (IsRun script settings) (sym (append_assoc past (e ∷ []) (now ++ later))) run)
      (one_more past e (now ++ later) run i (along_at (IsEvent script settings) [] past e (now ++ later) run.trace.events_are)))

  pub owns_at : (past rest : List Event) → IsRun script settings (past ++ rest) → Owns past
  owns_at past rest run = along [] past rest run (λ n session h runs. tt)
