-- One request more: the event that it is, and the node after it.
use Rattle.std.proofs.Common.{◌≡◌, ◌⊎◌, ℕ, ◌+◌, ◌<◌, Bool, true, false, List, [], ◌∷◌, ◌++◌, length, Some, append-nil, refl, sym, ap, ◌∙◌, subst, inl, inr}
use Rattle.std.specs.Prelude.{◌^◌, ◌&&◌, not, if◌then◌else◌}
use Rattle.std.proofs.lemmas.Bool.{cases_Bool, or_parts}
use Rattle.std.proofs.lemmas.Option.{same_Some}
use Rattle.std.proofs.lemmas.List.{length_push}
use Rattle.tl_lemmas.proofs.Tests.{and_not}
use Rattle.tl_base.specs.Along.{Along-append}
use Rattle.tl_base.specs.declared.place.Settings.{Settings}
use Rattle.tl_descriptor.specs.Tids.{TidSet}
use Rattle.tl_manager.specs.declared.mark.Mark.{Mark}
use Rattle.tl_manager.specs.declared.mark.Mark.TheVariants as mark
use Rattle.tl_manager.specs.declared.request.ManagerReply.TheVariants as manager
use Rattle.tl_manager.specs.declared.request.ManagerRequest.TheVariants as asked_of
use Rattle.tl_manager.specs.declared.request.Reply.{Reply}
use Rattle.tl_manager.specs.declared.request.Reply.TheVariants as reply
use Rattle.tl_manager.specs.Floor.{floor_of, newer}
use Rattle.tl_manager.specs.Serves.{active_after, copy_after}
use Rattle.tl_isolation.specs.declared.bound.Bound.{Bound}
use Rattle.tl_isolation.specs.declared.entry.Answer.{Answer}
use Rattle.tl_isolation.specs.declared.entry.Answer.TheVariants as answer
use Rattle.tl_isolation.specs.declared.entry.Entry.{Entry}
use Rattle.tl_isolation.specs.declared.entry.Said.{Said}
use Rattle.tl_isolation.specs.declared.script.Script.{Script}
use Rattle.tl_isolation.specs.declared.script.Session.{Session}
use Rattle.tl_isolation.specs.declared.state.Commit.{Commit}
use Rattle.tl_isolation.specs.History.{state_after}
use Rattle.tl_isolation.specs.Script.{setup_of}
use Rattle.tl_journal.specs.declared.event.Event.{Event}
use Rattle.tl_journal.specs.Ask.{Ask, AskManager, Heard, Told}
use Rattle.tl_journal.specs.Asks.{asks, asks_inside}
use Rattle.tl_journal.specs.Bytes.{heard, home_of, place_of, written}
use Rattle.tl_journal.specs.Journal.{AreServed, IsCall, IsCut, IsEvent, IsRequest, answer_said, entries_told, has_vanished, is_post, manager_log, node_after, session_of}
use Rattle.tl_journal.specs.Law.{AreFirst, IsRun}
use Rattle.tl_journal.specs.Memory.{cut_short, has_said, is_cut, unsaid}
use Rattle.tl_journal.specs.Node.{Doing, Inside, Node, owed_by}
use Rattle.tl_journal.specs.Says.{says_at}
use Rattle.tl_journal.specs.Strange.{is_odd_for, is_stopped, is_strange, sound_heard, stops_at}
use Rattle.tl_journal.specs.Takes.{MayMean, takes}
use Rattle.tl_journal.proofs.Elsewhere.{after_cut, after_own, said_same}
use Rattle.tl_journal.proofs.FirstCommits.{first_commits}
use Rattle.tl_journal.proofs.Journals.{stood_at}
use Rattle.tl_journal.proofs.Logs.{at_event, manager_replies, node_more}
use Rattle.tl_journal.proofs.Opens.{layout_of}
use Rattle.tl_journal.proofs.Posted.{home_among}
use Rattle.tl_journal.proofs.Requests.{request_no_post}
use Rattle.tl_journal.proofs.Stood.{Stood, vanished_same}
use Rattle.tl_journal.proofs.StrangeHeard.{heard_as_said, stops_alike}
use Rattle.tl_journal.proofs.StrangeReplies.{nothing_strange}
use Rattle.tl_node.specs.After.{answer_in, marked, said_so, statement_in}
use Rattle.tl_node.specs.Fits.{OwnSuitsNode}
use Rattle.tl_node.specs.Seen.{seen}
use Rattle.tl_node.specs.View.{NodeValue, StandsFor}
use Rattle.tl_node.specs.declared.told.Rest.{Rest}
use Rattle.tl_node.specs.declared.told.Rest.TheVariants as rest
use Rattle.tl_node.proofs.AlikeTold.{IsToldOf, SaysAs, WantsAs, number_seen, owed_stopped}
use Rattle.tl_node.proofs.Owes.{owes_after}
use Rattle.tl_world.specs.Stands.{IsLeft}
use Rattle.tl_world.specs.Told.{is_answered, takes_memory}
use Rattle.tl_world.proofs.Copied.{are_long, is_long, long_behind, none_before, said_alone}
use Rattle.tl_world.proofs.Clashes.{clash_owes}
use Rattle.tl_world.proofs.Meant.{IsHeededAt, answer_behind, answer_none, are_saying, marked_saying, nothing_meant, said_no_end, unsaid_not_said, unsaid_saying, unsaid_whole}

-- the request that a node makes next, with its reply and what is told of it
abbrev pub event_of : Settings → ℕ → Ask → Reply → List Entry → Event
event_of settings number ask p entries = record { node = number; place = place_of settings ask; request = written ask; reply = p; entries = entries }

-- a running node asks this next, and a place has served it
pub record Makes (script : Script) (settings : Settings) (past : List Event) (number : ℕ) (session : Session) (ask : Ask) (p : Reply) : Type 0 where
  pub is_session : session_of script number ≡ Some session
  pub runs : has_vanished past number ≡ false
  pub asked : asks settings script.catalog (node_after settings script past session) ≡ Some ask
  pub served : (entries : List Entry) → AreServed script settings (past ++ event_of settings number ask p entries ∷ [])
  pub few : length past + 1 < 2 ^ 32
  pub rows : length script.rows < 2 ^ 32

module _ (script : Script) (settings : Settings) (past : List Event) (run : IsRun script settings past) where
  stood : Stood (layout_of script settings) script settings past
  stood = stood_at script settings past [] (subst (IsRun script settings) (sym (append-nil past)) run)

  -- the node of a session has its number
  pub node_number : (number : ℕ) (session : Session) → session_of script number ≡ Some session → has_vanished past number ≡ false
      → (node_after settings script past session).number ≡ number
  node_number number session h runs = (stood.nodes number session h runs).is_so.number

module _ (script : Script) (settings : Settings) (past : List Event) (run : IsRun script settings past) where
  -- one event more
  pub grows : (e : Event) → length past + 1 < 2 ^ 32 → AreServed script settings (past ++ e ∷ []) → IsEvent script settings past e → IsRun script settings (past ++ e ∷ [])
  grows e few served is =
      let more : length (past ++ e ∷ []) ≡ length past + 1 = length_push past e in
      record {
        bound = run.bound;
        shards = run.shards;
        few_shards = run.few_shards;
        managers = run.managers;
        few_managers = run.few_managers;
        few = subst (λ (k : ℕ). k < 2 ^ 32) (sym more) few;
        trace = record {
          served = served;
          events_are = Along-append (IsEvent script settings) [] past (e ∷ []) run.trace.events_are (is, tt);
        };
      }

  module _ (number : ℕ) (session : Session) (ask : Ask) (p : Reply) (makes : Makes script settings past number session ask p) where
    abbrev node : Node
    node = node_after settings script past session

    abbrev commits : List Commit
    commits = (state_after (setup_of script settings) (entries_told past)).commits

    abbrev event : List Entry → Event
    event entries = event_of settings number ask p entries

    abbrev says : Answer → List Entry
    says told = says_at settings script.catalog commits node (heard ask p) told

    number_is : node.number ≡ number
    number_is = node_number script settings past run number session makes.is_session makes.runs

    no_post : (entries : List Entry) → is_post (written ask) ≡ false
    no_post entries = request_no_post script settings past (event entries) session ask refl makes.asked

    -- ---- a manager tells its low-water mark where it is asked for it

    floor_heard : (m : ℕ) (shown : TidSet) (q : Reply) (entries : List Entry)
        → AreServed script settings (past ++ event_of settings number (AskManager m (asked_of.Floor shown)) q entries ∷ []) → m < settings.managers
        → (floor : TidSet) × (heard (AskManager m (asked_of.Floor shown)) q ≡ Told (manager.FloorIs floor))
    floor_heard m shown (reply.Store q) entries served l =
        absurd (at_event (λ (x : Event). IsCall x.place x.request x.reply) past (event_of settings number (AskManager m (asked_of.Floor shown)) (reply.Store q) entries) [] served.calls)
    floor_heard m shown (reply.Manager q) entries served l = (
      floor_of (newer (copy_after (manager_log m past)) shown) (active_after (manager_log m past)),
      ap Told
          (manager_replies script settings past (event_of settings number (AskManager m (asked_of.Floor shown)) (reply.Manager q) entries) [] m (asked_of.Floor shown) q served l refl refl refl),
    )

    floor_told : (m : ℕ) (shown : TidSet) → AskManager m (asked_of.Floor shown) ≡ ask → m < settings.managers → (floor : TidSet) × (heard ask p ≡ Told (manager.FloorIs floor))
    floor_told m shown e l =
        let all = floor_heard m shown p [] (subst (λ (a : Ask). AreServed script settings (past ++ event_of settings number a p [] ∷ [])) (sym e) (makes.served [])) l in
        (all.0, ap (λ (a : Ask). heard a p) (sym e) ∙ all.1)

    heeds_of : (todo : List Bound) (d : Doing) → asks settings script.catalog (record node { todo = todo; doing = d }) ≡ Some ask
        → IsHeededAt script.catalog (record node { todo = todo; doing = d }) (heard ask p)
    heeds_of [] d e = tt
    heeds_of (statement ∷ later) (Inside t) e = λ to_idle.
        floor_told (home_of settings node.number) t.snapshot
        (same_Some (AskManager (home_of settings node.number) (asked_of.Floor t.snapshot)) ask
        (ap (λ c. Some (asks_inside settings (record node { todo = statement ∷ later; doing = Inside t }) t c)) (sym to_idle) ∙ e))
        (home_among settings node.number run.managers)
    heeds_of (statement ∷ later) d e = tt

    heeds : IsHeededAt script.catalog node (heard ask p)
    heeds = heeds_of node.todo node.doing makes.asked

    -- ---- the event

    -- told whole
    whole : (entries : List Entry) (told : Answer) → answer_said entries ≡ told → MayMean settings script.catalog node (heard ask p) told → entries ≡ says told
        → IsRequest script settings past (event entries)
    whole entries told a means tells = record {
      session = session;
      is_session = makes.is_session;
      runs = makes.runs;
      ask = ask;
      asked = makes.asked;
      stands_at = refl;
      bytes = refl;
      means = subst (λ x. MayMean settings script.catalog node (heard ask p) x) (sym a) means;
      told = tells ∙ ap (λ x. says x) (sym a);
    }

    -- where no statement is said
    quiet : (entries : List Entry) → are_saying entries ≡ false → entries ≡ says answer.Begun → IsRequest script settings past (event entries)
    quiet entries f tells =
        whole entries answer.Begun (answer_none entries f)
        (nothing_meant settings script.catalog commits node (heard ask p) answer.Begun heeds (subst (λ es. are_saying es ≡ false) tells f)) tells

    none_answered : (entries : List Entry) → entries ≡ unsaid (says answer.Begun) → answer_said entries ≡ answer.Begun
    none_answered entries e =
        ap answer_said e ∙ answer_none (unsaid (says answer.Begun)) (unsaid_saying (unsaid (says answer.Begun)) (unsaid_not_said (says answer.Begun)))

    is_cut_off : (entries : List Entry) → entries ≡ unsaid (says answer.Begun) → has_said (says answer.Begun) ≡ true
        → is_cut settings script.catalog node (heard ask p) (answer_said entries) entries ≡ true
    is_cut_off entries e f =
        ap (λ x. is_cut settings script.catalog node (heard ask p) x entries) (none_answered entries e)
        ∙ and_not (has_said (says_at settings script.catalog [] node (heard ask p) answer.Begun)) (has_said entries)
        (sym (said_same settings script.catalog commits node (heard ask p) answer.Begun) ∙ f) (ap has_said e ∙ unsaid_not_said (says answer.Begun))

    -- told but for what would be said
    cut_off : (entries : List Entry) → entries ≡ unsaid (says answer.Begun) → has_said (says answer.Begun) ≡ true → IsCut script settings past (event entries)
    cut_off entries e f =
        let a : answer_said entries ≡ answer.Begun = none_answered entries e in
        record {
          session = session;
          is_session = makes.is_session;
          runs = makes.runs;
          ask = ask;
          asked = makes.asked;
          stands_at = refl;
          bytes = refl;
          no_end = said_no_end settings script.catalog commits node (heard ask p) answer.Begun f;
          cut = is_cut_off entries e f;
          told = e ∙ ap (λ x. unsaid (says x)) (sym a);
        }

    -- whatever is told, there is such an event, so the reply isn't strange
    some_event : (entries : List Entry) × IsEvent script settings past (event entries)
    some_event = by (cases_Bool (has_said (says answer.Begun)))
      where
        by : (has_said (says answer.Begun) ≡ true) ⊎ (has_said (says answer.Begun) ≡ false) → (entries : List Entry) × IsEvent script settings past (event entries)
        by (inl f) = (unsaid (says answer.Begun), inr (inr (cut_off (unsaid (says answer.Begun)) refl f)))
        by (inr f) = (says answer.Begun, inl (quiet (says answer.Begun) (unsaid_saying (says answer.Begun) f) refl))

    some_run : IsRun script settings (past ++ event some_event.0 ∷ [])
    some_run = grows (event some_event.0) makes.few (makes.served some_event.0) some_event.1

    pub sane : is_strange settings script.catalog node ask p ≡ false
    sane = nothing_strange script settings past (event some_event.0) [] some_run makes.rows (no_post some_event.0) session makes.is_session ask makes.asked

    -- nor does the node stop at it
    never_stops : (told : Answer) → is_stopped (takes settings script.catalog node (heard ask p) told).doing ≡ false
    never_stops told =
        stops_alike settings script.catalog node (heard ask p) told
        ∙ subst (λ (x : Heard). stops_at settings script.catalog node x ≡ false) (heard_as_said settings script.catalog node ask p makes.asked sane)
        (or_parts (stops_at settings script.catalog node (sound_heard script.catalog ask p)) (is_odd_for node.doing (sound_heard script.catalog ask p)) sane).0

    -- of the commits so far the snapshot of a transaction that begins has the first ones and no others
    pub first : (tid : ℕ) (snapshot floor : TidSet) → p ≡ reply.Manager (manager.Began tid snapshot floor) → AreFirst snapshot commits
    first tid snapshot floor e = first_commits script settings past (event some_event.0) [] some_run tid snapshot floor e

    -- ---- the node after it

    led_on : (entries : List Entry) (told : Answer) → answer_said entries ≡ told → entries ≡ says told
        → takes settings script.catalog node (heard ask p) told ≡ node_after settings script (past ++ event entries ∷ []) session
    led_on entries told a tells =
        sym
        (node_more settings script past (event entries) session
        ∙ after_own settings script (event entries) node ask commits (sym number_is) (no_post entries) makes.asked (tells ∙ ap (λ x. says x) (sym a))
        ∙ ap (λ x. takes settings script.catalog node (heard ask p) x) a)

    cut_at : (entries : List Entry) → is_cut settings script.catalog node (heard ask p) (answer_said entries) entries ≡ true
        → cut_short settings script.catalog node (heard ask p) (answer_said entries) ≡ node_after settings script (past ++ event entries ∷ []) session
    cut_at entries cut =
        sym (node_more settings script past (event entries) session ∙ after_cut settings script (event entries) node ask (sym number_is) (no_post entries) makes.asked cut)

    -- what was said of the reply, with this entry behind that of its mark
    abbrev pub said_entry : Mark → Said → Entry
    said_entry m said = said_so node.number (statement_in node.todo) m said

    -- the code stands for the node of the law, and is to recover whom that is to recover; it wanted no memory
    abbrev pub StandsSo : Node → NodeValue → Type 0
    StandsSo n v = StandsFor settings script.catalog n v × (owed_by v.node.doing ≡ owed_by n.doing) × (is_stopped n.doing ≡ false)

    -- the event is one of the law, and so stands the node after it
    abbrev pub Happens : (after : NodeValue) (m : Mark) (r : Rest) → Type 0
    Happens after m rest.Going =
        IsEvent script settings past (event (marked commits node.number p m))
        × StandsSo (node_after settings script (past ++ event (marked commits node.number p m) ∷ []) session) after
    Happens after m (rest.Said said) =
        IsEvent script settings past (event (marked commits node.number p m ++ said_entry m said ∷ []))
        × StandsSo (node_after settings script (past ++ event (marked commits node.number p m ++ said_entry m said ∷ []) ∷ []) session) after
    Happens after m rest.Strange = ⊥
    Happens after m rest.NoMemory =
        IsEvent script settings past (event (marked commits node.number p m))
        × IsLeft number after (node_after settings script (past ++ event (marked commits node.number p m) ∷ []) session)

    answer_of : (m : Mark) (said : Said) → answer_said (said_entry m said ∷ []) ≡ answer_in m said
    answer_of mark.Answered said = refl
    answer_of m said = refl

    stands_then : (entries : List Entry) (told : Answer) (v : NodeValue) → answer_said entries ≡ told → entries ≡ says told
        → StandsFor settings script.catalog (takes settings script.catalog node (heard ask p) told) v
        → StandsSo (node_after settings script (past ++ event entries ∷ []) session) v
    stands_then entries told v a tells s =
        subst (λ n. StandsSo n v) (led_on entries told a tells)
        (s, ap (λ (n : Node). owed_by n.doing) s.node_is ∙ owes_after settings script.catalog node ask (heard ask p) told makes.asked, never_stops told)

    long_so : (m : Mark) (said : Said) → is_answered m ≡ false → is_long (said_entry m said) ≡ takes_memory (statement_in node.todo)
    long_so mark.Answered said f = cc
    long_so m said f = refl

    answered_so : (m : Mark) (said : Said) → answer_said (marked commits node.number p m ++ said_entry m said ∷ []) ≡ answer_in m said
    answered_so m said =
        answer_behind (marked commits node.number p m) (said_entry m said ∷ []) (marked_saying commits node.number p m) ∙ answer_of m said

    -- the number of the node that has said so
    number_then : (after : NodeValue) (m : Mark) (said : Said) → SaysAs settings script.catalog node (heard ask p) p m said after
        → (takes settings script.catalog node (heard ask p) (answer_in m said)).number ≡ number
    number_then after m said so =
        let entries : List Entry = marked commits node.number p m ++ said_entry m said ∷ [] in
        let is : IsRequest script settings past (event (marked commits node.number p m ++ said_entry m said ∷ [])) =
        whole (marked commits node.number p m ++ said_entry m said ∷ []) (answer_in m said) (answered_so m said) so.means (sym (so.entries commits)) in
        ap (λ (n : Node). n.number) (led_on (marked commits node.number p m ++ said_entry m said ∷ []) (answer_in m said) (answered_so m said) (sym (so.entries commits)))
        ∙ node_number script settings (past ++ event (marked commits node.number p m ++ said_entry m said ∷ []) ∷ [])
        (grows (event (marked commits node.number p m ++ said_entry m said ∷ [])) makes.few (makes.served (marked commits node.number p m ++ said_entry m said ∷ [])) (inl is))
        number session makes.is_session
        (vanished_same past (event (marked commits node.number p m ++ said_entry m said ∷ [])) number (no_post []) ∙ makes.runs)

    -- a statement was said that can't be told, for want of memory
    pub left_unsaid : (after : NodeValue) (m : Mark) (said : Said) → takes_memory (statement_in node.todo) ≡ true → is_answered m ≡ false
        → SaysAs settings script.catalog node (heard ask p) p m said after
        → IsEvent script settings past (event (marked commits node.number p m))
        × IsLeft number after (node_after settings script (past ++ event (marked commits node.number p m) ∷ []) session)
    left_unsaid after m said memory single so =
        let c = said_alone settings script.catalog commits node (heard ask p) (answer_in m said)
        (ap are_long (so.entries commits) ∙ long_behind (marked commits node.number p m) (said_entry m said) (long_so m said single ∙ memory)) in
        let none : marked commits node.number p m ≡ [] = none_before (marked commits node.number p m) (said_entry m said) c.all.entry_is (sym (so.entries commits) ∙ c.all.alone) in
        let cuts : marked commits node.number p m ≡ unsaid (says answer.Begun) = none ∙ sym (c.all.nothing answer.Begun) in (
          inr (inr (cut_off (marked commits node.number p m) cuts (c.all.says answer.Begun))),
          record {
            own = ap (λ (n : Node). n.number) so.stands.node_is ∙ number_seen settings script.catalog (takes settings script.catalog node (heard ask p) (answer_in m said))
                ∙ number_then after m said so;
            owed = ap (λ (n : Node). owed_by n.doing) so.stands.node_is
                ∙ owes_after settings script.catalog node ask (heard ask p) (answer_in m said) makes.asked ∙ c.owes ∙ sym c.owed
                ∙ ap (λ (n : Node). owed_by n.doing) (cut_at (marked commits node.number p m) (is_cut_off (marked commits node.number p m) cuts (c.all.says answer.Begun)));
          },
        )

    left_so : (v : NodeValue) (m : Mark) → WantsAs settings script.catalog node (heard ask p) p m v
        → (unsaid (says answer.Begun) ≡ marked commits node.number p m) ⊎ (says answer.Begun ≡ marked commits node.number p m) → Happens v m rest.NoMemory
    left_so v m w e = by (cases_Bool (has_said (says answer.Begun))) e
      where
        entries : List Entry
        entries = marked commits node.number p m

        owed_if : (b : Bool) → has_said (says answer.Begun) ≡ b → owed_stopped settings script.catalog node (heard ask p)
            ≡ (if b then owed_by node.doing else owed_by (takes settings script.catalog node (heard ask p) answer.Begun).doing)
        owed_if b f =
            ap (λ x. if x then owed_by node.doing else owed_by (takes settings script.catalog node (heard ask p) answer.Begun).doing)
            (sym (said_same settings script.catalog commits node (heard ask p) answer.Begun) ∙ f)

        -- it is led on as the law has it, and owes what it owed
        uncut : (w_owed : owed_by v.node.doing ≡ owed_by (takes settings script.catalog node (heard ask p) answer.Begun).doing) → marked commits node.number p m ≡ says answer.Begun → Happens v m rest.NoMemory
        uncut w_owed tells = (
          inl (quiet (marked commits node.number p m) (marked_saying commits node.number p m) tells),
          record {
            own = w.number ∙ number_is;
            owed = w_owed ∙ ap (λ (n : Node). owed_by n.doing) (led_on (marked commits node.number p m) answer.Begun (answer_none (marked commits node.number p m) (marked_saying commits node.number p m)) tells);
          },
        )

        by : (has_said (says answer.Begun) ≡ true) ⊎ (has_said (says answer.Begun) ≡ false)
            → (unsaid (says answer.Begun) ≡ marked commits node.number p m) ⊎ (says answer.Begun ≡ marked commits node.number p m) → Happens v m rest.NoMemory
        by (inl f) (inl e) = (
          inr (inr (cut_off (marked commits node.number p m) (sym e) f)),
          record {
            own = w.number ∙ number_is;
            owed = w.owed ∙ owed_if true f
                ∙ ap (λ (n : Node). owed_by n.doing) (cut_at (marked commits node.number p m) (is_cut_off (marked commits node.number p m) (sym e) f));
          },
        )
        by (inl f) (inr e) =
            uncut
            (w.owed ∙ owed_if true f
            ∙ sym (clash_owes settings script.catalog commits node (heard ask p) answer.Begun f (ap are_saying e ∙ marked_saying commits node.number p m)))
            (sym e)
        by (inr f) (inl e) = uncut (w.owed ∙ owed_if false f) (sym e ∙ unsaid_whole (says answer.Begun) f)
        by (inr f) (inr e) = uncut (w.owed ∙ owed_if false f) (sym e)

    pub happens : (after : NodeValue) (m : Mark) (r : Rest) → OwnSuitsNode script.catalog (seen settings script.catalog node)
        → IsToldOf settings script.catalog node (heard ask p) p after m r → Happens after m r
    happens after m rest.Going suits t =
        let entries : List Entry = marked commits node.number p m in
        let a : answer_said (marked commits node.number p m) ≡ answer.Begun = answer_none (marked commits node.number p m) (marked_saying commits node.number p m) in (
          inl (quiet (marked commits node.number p m) (marked_saying commits node.number p m) (sym (t.1 commits))),
          stands_then (marked commits node.number p m) answer.Begun after a (sym (t.1 commits)) t.0,
        )
    happens after m (rest.Said said) suits t =
        let so = t suits in
        let a : answer_said (marked commits node.number p m ++ said_entry m said ∷ []) ≡ answer_in m said =
        answer_behind (marked commits node.number p m) (said_entry m said ∷ []) (marked_saying commits node.number p m) ∙ answer_of m said in (
          inl (whole (marked commits node.number p m ++ said_entry m said ∷ []) (answer_in m said) a so.means (sym (so.entries commits))),
          stands_then (marked commits node.number p m ++ said_entry m said ∷ []) (answer_in m said) after a (sym (so.entries commits)) so.stands,
        )
    happens after m rest.Strange suits t = t
    happens after m rest.NoMemory suits t = left_so after m t (t.entries commits)
