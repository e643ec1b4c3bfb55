-- No place of a run refuses a request.
use Rattle.std.proofs.Common.{◌≡◌, ◌∙◌, inl, inr, ℕ, ◌<◌, ◌^◌, Bool, true, false, List, [], ◌∷◌, ◌++◌, Some, length, append_assoc, ap, refl, sym, subst}
use Rattle.std.proofs.lemmas.Bool.{both_ways, or_parts}
use Rattle.tl_base.specs.Along.{Along}
use Rattle.tl_base.specs.declared.node.NodeSet.{NodeSet}
use Rattle.tl_base.specs.declared.place.PlaceId.{PlaceId}
use Rattle.tl_base.specs.declared.place.PlaceId.TheVariants as place
use Rattle.tl_base.specs.declared.place.Settings.{Settings}
use Rattle.tl_manager.specs.declared.request.ManagerReply.{ManagerReply}
use Rattle.tl_manager.specs.declared.request.ManagerRequest.{ManagerRequest}
use Rattle.tl_manager.specs.declared.request.ManagerRequest.TheVariants as asked
use Rattle.tl_manager.specs.declared.request.Reply.{Reply}
use Rattle.tl_manager.specs.declared.request.Reply.TheVariants as reply
use Rattle.tl_manager.specs.declared.request.Request.{Request}
use Rattle.tl_manager.specs.declared.request.Request.TheVariants as request
use Rattle.tl_isolation.specs.declared.entry.Answer.TheVariants as answer
use Rattle.tl_isolation.specs.declared.script.Script.{Script}
use Rattle.tl_isolation.specs.declared.script.Session.{Session}
use Rattle.tl_journal.specs.declared.event.Event.{Event}
use Rattle.tl_journal.specs.Ask.{Ask, AskManager, Heard}
use Rattle.tl_journal.specs.Asks.{asks}
use Rattle.tl_journal.specs.Bytes.{heard, home_of, written}
use Rattle.tl_journal.specs.Journal.{IsCall, IsEvent, IsPost, is_post, node_after, session_of}
use Rattle.tl_journal.specs.Law.{IsRun}
use Rattle.tl_journal.specs.Node.{Node, owed_by}
use Rattle.tl_journal.specs.Schedule.{is_refusal}
use Rattle.tl_journal.specs.Strange.{is_odd_for, is_stopped, is_strange, sound_heard, stops_at}
use Rattle.tl_journal.specs.Takes.{takes}
use Rattle.tl_journal.proofs.Asking.{asks_no_post}
use Rattle.tl_journal.proofs.Logs.{along_at, at_event, manager_replies}
use Rattle.tl_journal.proofs.Posted.{home_among, replies}
use Rattle.tl_journal.proofs.StrangeHeard.{heard_as_said}
use Rattle.tl_journal.proofs.StrangeReplies.{nothing_strange}
use Rattle.tl_turns.proofs.Stops.{stops}
use Rattle.tl_journal.proofs.Requests.{asked_no_post}

-- what holds at each place holds along the list
along_each : {A : Type 0} (P : A → Type 0) (past now : List A) → ((front : List A) (x : A) (rest : List A) → past ++ now ≡ front ++ x ∷ rest → P x)
    → Along (λ (before : List A) (x : A). P x) past now
along_each P past [] h = tt
along_each P past (x ∷ now) h =
    (h past x now refl, along_each P (past ++ x ∷ []) now (λ front y rest e. h front y rest (sym (append_assoc past (x ∷ []) now) ∙ e)))

-- what a running node asks is no death notice
no_post : (m : ℕ) (r : ManagerRequest) → ((d : ℕ) (also : NodeSet) → r ≡ asked.Post d also → ⊥) → is_post (request.Manager r) ≡ false
no_post m (asked.Post d also) = λ h. absurd (h d also refl)
no_post m r = λ h. refl

module _ (script : Script) (settings : Settings) (past : List Event) (e : Event) (rest : List Event) (run : IsRun script settings (past ++ e ∷ rest))
    (rows : length script.rows < 2 ^ 32) where
  -- to a request of a running node
  asked_plain : (session : Session) → session_of script e.node ≡ Some session → (ask : Ask)
      → asks settings script.catalog (node_after settings script past session) ≡ Some ask → e.request ≡ written ask → is_refusal e.reply ≡ false
  asked_plain session is ask is_asked so = by (is_refusal e.reply) refl
    where
      node : Node
      node = node_after settings script past session

      request_so : is_post e.request ≡ false
      request_so =
          ap is_post so
          ∙ asked_no_post ask (λ m d also same. asks_no_post settings script.catalog (node_after settings script past session) m d also (is_asked ∙ ap (λ (x : Ask). Some x) same))

      sane : is_strange settings script.catalog (node_after settings script past session) ask e.reply ≡ false
      sane = nothing_strange script settings past e rest run rows request_so session is ask is_asked

      plain : is_stopped (takes settings script.catalog (node_after settings script past session) (heard ask e.reply) answer.Begun).doing ≡ false
      plain =
          subst (λ (x : Heard). stops_at settings script.catalog (node_after settings script past session) x ≡ false)
          (heard_as_said settings script.catalog (node_after settings script past session) ask e.reply is_asked sane)
          (or_parts (stops_at settings script.catalog (node_after settings script past session) (sound_heard script.catalog ask e.reply))
          (is_odd_for (node_after settings script past session).doing (sound_heard script.catalog ask e.reply)) sane).0

      by : (b : Bool) → is_refusal e.reply ≡ b → b ≡ false
      by false h = refl
      by true h =
          absurd
          (both_ways (is_stopped (takes settings script.catalog (node_after settings script past session) (heard ask e.reply) answer.Begun).doing) plain
          (stops settings script.catalog (node_after settings script past session) ask e.reply answer.Begun is_asked h))

  -- to a death notice
  posted_plain : IsPost script settings past e → is_refusal e.reply ≡ false
  posted_plain p =
      let notice : ManagerRequest = asked.Post e.node (owed_by (node_after settings script past p.session).doing) in
      let found = replies (home_of settings e.node) notice e.place e.request e.reply
      (at_event (λ (x : Event). IsCall x.place x.request x.reply) past e rest run.trace.served.calls) p.stands_at p.notice in
      ap is_refusal
      (found.1
      ∙ ap reply.Manager
      (manager_replies script settings past e rest (home_of settings e.node) notice found.0 run.trace.served (home_among settings e.node run.managers) p.stands_at
      p.notice found.1))

  plain_at : IsEvent script settings past e → is_refusal e.reply ≡ false
  plain_at (inl r) = asked_plain r.session r.is_session r.ask r.asked r.bytes
  plain_at (inr (inl p)) = posted_plain p
  plain_at (inr (inr c)) = asked_plain c.session c.is_session c.ask c.asked c.bytes

pub none_refused : (script : Script) (settings : Settings) (events : List Event) → IsRun script settings events → length script.rows < 2 ^ 32
    → Along (λ (past : List Event) (e : Event). is_refusal e.reply ≡ false) [] events
none_refused script settings events run rows =
    along_each (λ (e : Event). is_refusal e.reply ≡ false) [] events
    (λ past e rest is.
    let whole : IsRun script settings (past ++ e ∷ rest) = subst (λ (es : List Event). IsRun script settings es) is run in
    plain_at script settings past e rest whole rows (along_at (IsEvent script settings) [] past e rest whole.trace.events_are))
