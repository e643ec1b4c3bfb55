-- What the nodes have said so far speaks the script, event by event.
use Rattle.std.proofs.Common.{◌≡◌, ℕ, Bool, true, false, ◌⊎◌, List, [], ◌∷◌, ◌++◌, Some, refl, sym, ap, ◌∙◌, subst, inl, inr}
use Rattle.std.specs.Prelude.{◌==◌, ◌&&◌, ◌||◌, not}
use Rattle.std.specs.List.{list_any}
use Rattle.std.proofs.lemmas.Bool.{and_parts, cases_eq, or_cases, or_left, or_right}
use Rattle.std.proofs.lemmas.List.Folds.{list_any-append}
use Rattle.std.proofs.lemmas.Option.{same_Some}
use Rattle.tl_base.specs.Along.{Along, Along-append}
use Rattle.tl_base.specs.declared.place.Settings.{Settings}
use Rattle.tl_isolation.specs.declared.entry.Answer.{Answer}
use Rattle.tl_isolation.specs.declared.entry.Entry.{Entry}
use Rattle.tl_isolation.specs.declared.script.Script.{Script}
use Rattle.tl_isolation.specs.declared.script.Session.{Session}
use Rattle.tl_isolation.specs.declared.state.Commit.{Commit as Committed}
use Rattle.tl_isolation.specs.History.{state_after}
use Rattle.tl_isolation.specs.Script.{SpeaksAt, setup_of, vanishes_at}
use Rattle.tl_protocol.specs.Run.{Layout}
use Rattle.tl_journal.specs.declared.event.Event.{Event}
use Rattle.tl_journal.specs.Bytes.{heard}
use Rattle.tl_journal.specs.Journal.{IsCut, IsPost, IsRequest, answer_said, entries_told, has_vanished, is_post, node_after, posts, session_of}
use Rattle.tl_journal.specs.Memory.{cut_short, unsaid}
use Rattle.tl_journal.specs.Node.{Node}
use Rattle.tl_journal.specs.Says.{says_at}
use Rattle.tl_journal.specs.Takes.{takes}
use Rattle.tl_journal.proofs.CutSpoken.{cut_elsewhere, cut_speaks}
use Rattle.tl_journal.proofs.Elsewhere.{after_cut, after_other, after_own, is_to_say, of_other, of_post}
use Rattle.tl_journal.proofs.Logs.{entries_more, node_more, vanished_more}
use Rattle.tl_journal.proofs.Meets.{Before}
use Rattle.tl_journal.proofs.Present.{ReadsFor}
use Rattle.tl_journal.proofs.Requests.{request_no_post}
use Rattle.tl_journal.proofs.Speaking.{SpeakIs, speaks_on, vanished_speaks}
use Rattle.tl_journal.proofs.Stood.{Stood, vanished_same}
use Rattle.tl_journal.proofs.Unsaid.{speaks_elsewhere, speaks_past}

pub record Spoken (script : Script) (settings : Settings) (past : List Event) : Type 0 where
  pub along : Along (SpeaksAt script settings) [] (entries_told past)
  pub nodes : (n : ℕ) (session : Session) → session_of script n ≡ Some session → has_vanished past n ≡ false
      → SpeakIs script (entries_told past) session (node_after settings script past session)
  pub gone : (n : ℕ) → has_vanished past n ≡ true → list_any (vanishes_at n) (entries_told past) ≡ true

module _ (script : Script) (settings : Settings) (past : List Event) (e : Event) (i : Spoken script settings past) where
  -- the entries told before stand before those of the event
  told_more : Along (SpeaksAt script settings) (entries_told past) e.entries → Along (SpeaksAt script settings) [] (entries_told (past ++ e ∷ []))
  told_more h = subst (λ (es : List Entry). Along (SpeaksAt script settings) [] es) (sym (entries_more past e))
      (Along-append (SpeaksAt script settings) [] (entries_told past) e.entries i.along h)

  gone_before : (n : ℕ) → has_vanished past n ≡ true → list_any (vanishes_at n) (entries_told (past ++ e ∷ [])) ≡ true
  gone_before n h = ap (list_any (vanishes_at n)) (entries_more past e) ∙ list_any-append (vanishes_at n) (entries_told past) e.entries
      ∙ or_left (list_any (vanishes_at n) (entries_told past)) (list_any (vanishes_at n) e.entries) (i.gone n h)

  gone_now : (n : ℕ) → list_any (vanishes_at n) e.entries ≡ true → list_any (vanishes_at n) (entries_told (past ++ e ∷ [])) ≡ true
  gone_now n h = ap (list_any (vanishes_at n)) (entries_more past e) ∙ list_any-append (vanishes_at n) (entries_told past) e.entries
      ∙ or_right (list_any (vanishes_at n) (entries_told past)) (list_any (vanishes_at n) e.entries) h

  -- the node stays as it is, and this is said
  as_it_is : (session : Session) → (e.node == (node_after settings script past session).number) && not (is_post e.request) ≡ false
      → SpeakIs script (entries_told past ++ e.entries) session (node_after settings script past session)
      → SpeakIs script (entries_told (past ++ e ∷ [])) session (node_after settings script (past ++ e ∷ []) session)
  as_it_is session other h =
      subst (λ (es : List Entry). SpeakIs script es session (node_after settings script (past ++ e ∷ []) session)) (sym (entries_more past e))
      (subst (λ (node : Node). SpeakIs script (entries_told past ++ e.entries) session node)
      (sym (node_more settings script past e session ∙ after_other settings script e (node_after settings script past session) other)) h)

  -- after a request
  pub request_spoken : (layout : Layout) (s : Stood layout script settings past) (r : IsRequest script settings past e)
      → Before (ReadsFor settings script.catalog (node_after settings script past r.session).todo) layout (setup_of script settings) settings s.world
      (state_after (setup_of script settings) (entries_told past)) (entries_told past) e.node (node_after settings script past r.session)
      → Spoken script settings (past ++ e ∷ [])
  request_spoken layout s r b =
      let node : Node = node_after settings script past r.session in
      let answer : Answer = answer_said e.entries in
      let commits : List Committed = (state_after (setup_of script settings) (entries_told past)).commits in
      let on = speaks_on (ReadsFor settings script.catalog node.todo) layout script settings commits s.world (state_after (setup_of script settings) (entries_told past)) (entries_told past)
      r.session e.node node (heard r.ask e.reply) answer b r.means (i.nodes e.node r.session r.is_session r.runs) in
      record {
        along = told_more (subst (λ (es : List Entry). Along (SpeaksAt script settings) (entries_told past) es) (sym r.told) on.0);
        nodes = λ n session h runs. by_node b.node_is.number on.1 n session h (sym (vanished_same past e n post) ∙ runs) (cases_eq e.node n);
        gone = λ n h. gone_before n (sym (vanished_same past e n post) ∙ h);
      }
    where
      post : is_post e.request ≡ false
      post = request_no_post script settings past e r.session r.ask r.bytes r.asked

      by_node : (node_after settings script past r.session).number ≡ e.node
          → SpeakIs script
          (entries_told past
          ++ says_at settings script.catalog (state_after (setup_of script settings) (entries_told past)).commits (node_after settings script past r.session) (heard r.ask e.reply)
          (answer_said e.entries))
          r.session (takes settings script.catalog (node_after settings script past r.session) (heard r.ask e.reply) (answer_said e.entries))
          → (n : ℕ) (session : Session) → session_of script n ≡ Some session → has_vanished past n ≡ false → (e.node ≡ n) ⊎ (e.node ≡ n → ⊥)
          → SpeakIs script (entries_told (past ++ e ∷ [])) session (node_after settings script (past ++ e ∷ []) session)
      by_node own on n session h runs (inl same) =
          subst (λ (x : Session). SpeakIs script (entries_told (past ++ e ∷ [])) x (node_after settings script (past ++ e ∷ []) x))
          (same_Some r.session session (sym r.is_session ∙ ap (session_of script) same ∙ h))
          (subst (λ (es : List Entry). SpeakIs script es r.session (node_after settings script (past ++ e ∷ []) r.session)) (ap (λ (es : List Entry). entries_told past ++ es) (sym r.told) ∙ sym (entries_more past e))
          (subst
          (λ (x : Node).
          SpeakIs script
          (entries_told past
          ++ says_at settings script.catalog (state_after (setup_of script settings) (entries_told past)).commits (node_after settings script past r.session) (heard r.ask e.reply)
          (answer_said e.entries))
          r.session x)
          (sym (node_more settings script past e r.session ∙ after_own settings script e (node_after settings script past r.session) r.ask (state_after (setup_of script settings) (entries_told past)).commits (sym own) post r.asked r.told)) on))
      by_node own on n session h runs (inr other) =
          let node : Node = node_after settings script past session in
          let number : node.number ≡ n = (s.nodes n session h runs).is_so.number in
          as_it_is session (of_other e.node node.number (not (is_post e.request)) (λ same. other (same ∙ number)))
          (subst (λ (es : List Entry). SpeakIs script (entries_told past ++ es) session node) (sym r.told)
          (speaks_elsewhere script settings (state_after (setup_of script settings) (entries_told past)).commits (entries_told past) session node (node_after settings script past r.session)
          (heard r.ask e.reply) (answer_said e.entries) (λ same. other (sym own ∙ same ∙ number)) (i.nodes n session h runs)))

  -- after a request at whose reply the node wants memory
  pub cut_spoken : (layout : Layout) (s : Stood layout script settings past) (c : IsCut script settings past e) → (node_after settings script past c.session).number ≡ e.node
      → Spoken script settings (past ++ e ∷ [])
  cut_spoken layout s c own =
      record {
        along = told_more (subst (λ (es : List Entry). Along (SpeaksAt script settings) (entries_told past) es) (sym c.told) on.0);
        nodes = λ n session h runs. by_node n session h (sym (vanished_same past e n post) ∙ runs) (cases_eq e.node n);
        gone = λ n h. gone_before n (sym (vanished_same past e n post) ∙ h);
      }
    where
      post : is_post e.request ≡ false
      post = request_no_post script settings past e c.session c.ask c.bytes c.asked

      node : Node
      node = node_after settings script past c.session

      told : List Entry
      told = unsaid (says_at settings script.catalog (state_after (setup_of script settings) (entries_told past)).commits node (heard c.ask e.reply) (answer_said e.entries))

      on : Along (SpeaksAt script settings) (entries_told past) told
          × SpeakIs script (entries_told past ++ told) c.session (cut_short settings script.catalog node (heard c.ask e.reply) (answer_said e.entries))
      on =
          cut_speaks script settings (state_after (setup_of script settings) (entries_told past)).commits (entries_told past) c.session node (heard c.ask e.reply) (answer_said e.entries)
          (i.nodes e.node c.session c.is_session c.runs) c.no_end
          (is_to_say settings script.catalog (state_after (setup_of script settings) (entries_told past)).commits node (heard c.ask e.reply) (answer_said e.entries) e.entries c.cut)

      by_node : (n : ℕ) (session : Session) → session_of script n ≡ Some session → has_vanished past n ≡ false → (e.node ≡ n) ⊎ (e.node ≡ n → ⊥)
          → SpeakIs script (entries_told (past ++ e ∷ [])) session (node_after settings script (past ++ e ∷ []) session)
      by_node n session h runs (inl same) =
          subst (λ (x : Session). SpeakIs script (entries_told (past ++ e ∷ [])) x (node_after settings script (past ++ e ∷ []) x))
          (same_Some c.session session (sym c.is_session ∙ ap (session_of script) same ∙ h))
          (subst (λ (es : List Entry). SpeakIs script es c.session (node_after settings script (past ++ e ∷ []) c.session)) (ap (λ (es : List Entry). entries_told past ++ es) (sym c.told) ∙ sym (entries_more past e))
          (subst (λ (x : Node). SpeakIs script (entries_told past ++ told) c.session x)
          (sym (node_more settings script past e c.session ∙ after_cut settings script e node c.ask (sym own) post c.asked c.cut)) on.1))
      by_node n session h runs (inr other) =
          let its : Node = node_after settings script past session in
          let number : its.number ≡ n = (s.nodes n session h runs).is_so.number in
          as_it_is session (of_other e.node its.number (not (is_post e.request)) (λ same. other (same ∙ number)))
          (subst (λ (es : List Entry). SpeakIs script (entries_told past ++ es) session its) (sym c.told)
          (cut_elsewhere script settings (state_after (setup_of script settings) (entries_told past)).commits (entries_told past) session its node
          (heard c.ask e.reply) (answer_said e.entries) (λ same. other (sym own ∙ same ∙ number)) (i.nodes n session h runs)))

  -- after a death notice
  pub post_spoken : IsPost script settings past e → Spoken script settings (past ++ e ∷ [])
  post_spoken p =
      record {
        along = told_more (subst (λ (es : List Entry). Along (SpeaksAt script settings) (entries_told past) es) (sym p.told) (vanished_speaks script settings (entries_told past) e.node p.ending, tt));
        nodes = λ n session h runs.
            let node : Node = node_after settings script past session in
            as_it_is session (of_post e.node node.number (is_post e.request) (ap is_post p.notice))
            (subst (λ (es : List Entry). SpeakIs script (entries_told past ++ es) session node) (sym p.told)
            (speaks_past script (entries_told past) session node e.node p.ending (i.nodes n session h (before (has_vanished past n) (posts n e) (sym (vanished_more past e n) ∙ runs)))));
        gone = λ n h. by n (or_cases (has_vanished past n) (posts n e) (sym (vanished_more past e n) ∙ h));
      }
    where
      before : (a b : Bool) → a || b ≡ false → a ≡ false
      before true b h = cc
      before false b h = refl

      by : (n : ℕ) → (has_vanished past n ≡ true) ⊎ (posts n e ≡ true) → list_any (vanishes_at n) (entries_told (past ++ e ∷ [])) ≡ true
      by n (inl h) = gone_before n h
      by n (inr h) =
          gone_now n
          (ap (list_any (vanishes_at n)) p.told ∙ or_left (e.node == n) false (and_parts (e.node == n) (is_post e.request) h).0)
