-- Where RECOVER is answered, its claim was given what the answer says, and nothing is left of it.
use Rattle.std.proofs.Common.{◌≡◌, ℕ, ◌+◌, ◌<◌, ◌≤◌, ◌^◌, Bool, true, false, inl, inr, List, [], ◌∷◌, ◌++◌, length, Option, Some, None, append_assoc, refl, sym, ap, ◌∙◌, subst, arith}
use Rattle.std.specs.Prelude.{◌-◌, ◌==◌, ◌&&◌, ◌||◌, max, nat_le}
use Rattle.std.specs.Int.{bit_at}
use Rattle.std.specs.List.{list_any}
use Rattle.std.proofs.lemmas.Bool.{eqb-true}
use Rattle.std.proofs.lemmas.Bool.Decides.{nat_tests}
use Rattle.std.proofs.lemmas.List.{length-append}
use Rattle.std.proofs.lemmas.List.Concat.{flat_map-append}
use Rattle.std.proofs.lemmas.List.Elements.{All-contains, All-from_recursion, filter_map-append}
use Rattle.std.proofs.lemmas.List.Folds.{list_any-append}
use Rattle.std.proofs.lemmas.Nat.Bits.{bit_at_or, bit_at-lt}
use Rattle.tl_base.specs.NodeSet.{has_node, with_node}
use Rattle.tl_base.specs.declared.node.NodeSet.{NodeSet}
use Rattle.tl_base.specs.declared.place.Settings.{Settings}
use Rattle.tl_manager.specs.declared.active.Active.{Active}
use Rattle.tl_manager.specs.declared.request.ManagerReply.TheVariants as manager
use Rattle.tl_manager.specs.Serves.{active_after}
use Rattle.tl_manager.specs.Transactions.{tids_of}
use Rattle.tl_isolation.specs.declared.entry.Answer.{Answer}
use Rattle.tl_isolation.specs.declared.entry.Answer.TheVariants as answer
use Rattle.tl_isolation.specs.declared.entry.Entry.TheVariants as entry
use Rattle.tl_isolation.specs.declared.script.Script.{Script}
use Rattle.tl_isolation.specs.declared.script.Session.{Session}
use Rattle.tl_isolation.specs.History.{state_after}
use Rattle.tl_isolation.specs.Script.{answer_at, answers_by, setup_of}
use Rattle.tl_protocol.proofs.Held.{vanished_here}
use Rattle.tl_protocol.proofs.Reached.{reached}
use Rattle.tl_journal.specs.declared.event.Event.{Event}
use Rattle.tl_journal.specs.Ask.{Ask}
use Rattle.tl_journal.specs.Bytes.{heard, home_of, written}
use Rattle.tl_journal.specs.Journal.{IsEvent, answer_said, entries_told, has_vanished, manager_log, node_after, posts, session_of}
use Rattle.tl_journal.specs.Law.{IsRun, tids_in}
use Rattle.tl_journal.specs.Node.{Claimed, Node}
use Rattle.tl_journal.specs.Recovered.{HasNone, IsRecovered, OfRecovery, RecoveriesAreWhole, RecoversWhole, WasGiven}
use Rattle.tl_journal.specs.Says.{says_at}
use Rattle.tl_journal.specs.Served.{Parts}
use Rattle.tl_journal.proofs.Claims.{both_of}
use Rattle.tl_journal.proofs.ClaimsMade.{Made, claim_replied, owns_at}
use Rattle.tl_journal.proofs.Heeded.{heeded}
use Rattle.tl_journal.proofs.Journals.{spoken_at, stood_at}
use Rattle.tl_journal.proofs.Logs.{along_at}
use Rattle.tl_journal.proofs.Managers.{ManagersAre}
use Rattle.tl_journal.proofs.NoneLeft.{NoneOf, held_none}
use Rattle.tl_journal.proofs.Opens.{layout_of}
use Rattle.tl_journal.proofs.Posted.{before_stood, home_among}
use Rattle.tl_journal.proofs.Present.{ReadsFor}
use Rattle.tl_journal.proofs.RecoverySays.{AllTell, Found, Tells, says_found, unsaid_tell}
use Rattle.tl_journal.proofs.Stood.{Heeds, Stood}

-- ---- lists and sets

-- what a list isn't longer by is nothing
nothing_more : {A : Type 0} (xs ys : List A) → xs ≡ xs ++ ys → ys ≡ []
nothing_more xs ys e = none ys (count (length xs) (length ys) (ap length e ∙ length-append xs ys))
  where
    count : (a b : ℕ) → a ≡ a + b → b ≡ 0
    count a b e = omega arith

    none : {A : Type 0} (zs : List A) → length zs ≡ 0 → zs ≡ []
    none [] e = refl
    none (z ∷ zs) e = absurd (omega arith)

none_in : (o : Option Active) → tids_in o ≡ [] → o ≡ None
none_in None e = refl
none_in (Some x) e = absurd cc

-- a set keeps its nodes where another comes to it
keeps : (set : NodeSet) (n d : ℕ) → has_node set d ≡ true → has_node (with_node set n) d ≡ true
keeps set n d h =
    let one : bit_at set.0 (d - 1) ≡ 1 = eqb-true (bit_at set.0 (d - 1)) 1 h in
    let small : bit_at (with_node set n).0 (d - 1) < 2 = bit_at-lt (with_node set n).0 (d - 1) in
    ap (λ (b : ℕ). b == 1)
    (above (bit_at (with_node set n).0 (d - 1)) (bit_at (2 ^ (n - 1)) (d - 1)) small
    (bit_at_or set.0 (2 ^ (n - 1)) (d - 1) ∙ ap (λ (b : ℕ). max b (bit_at (2 ^ (n - 1)) (d - 1))) one))
  where
    above : (b x : ℕ) → b < 2 → b ≡ max 1 x → b ≡ 1
    above b x small e = omega arith

-- a claimed node, or one that was given with it, is one of the set
is_one : (also : NodeSet) (gone d : ℕ) → 1 ≤ d → (gone == d || has_node also d) ≡ true → (nat_le 1 d && has_node (with_node also gone) d) ≡ true
is_one also gone d least h = both (has_node (with_node also gone) d) d least (by (gone == d) refl h)
  where
    both : (a : Bool) (d : ℕ) → 1 ≤ d → a ≡ true → (nat_le 1 d && a) ≡ true
    both a d least e = grind (arith, nat_tests)

    by : (b : Bool) → (gone == d) ≡ b → (b || has_node also d) ≡ true → has_node (with_node also gone) d ≡ true
    by true e h = subst (λ (x : ℕ). has_node (with_node also gone) x ≡ true) (eqb-true gone d e) (vanished_here also gone)
    by false e h = keeps also gone d h

-- ---- after the event

module _ (script : Script) (settings : Settings) (past : List Event) (e : Event) (rest : List Event) (run : IsRun script settings (past ++ e ∷ rest)) where
  -- a node of which the managers have no transaction has none
  has_none : (after : Parts) → ManagersAre settings (past ++ e ∷ []) after → (d : ℕ) → 1 ≤ d → after.active d ≡ None → HasNone script settings (past ++ e ∷ []) d
  has_none after managers d least none =
      let now : List Event = past ++ e ∷ [] in
      let s : Stood (layout_of script settings) script settings now =
      stood_at script settings now rest (subst (IsRun script settings) (sym (append_assoc past (e ∷ []) rest)) run) in
      let home = home_among settings d run.managers in
      let empty : tids_of d (active_after (manager_log (home_of settings d) now)) ≡ [] =
      (managers.each (home_of settings d) home).active.tids d refl ∙ ap tids_in none in
      record {
        held = held_none (setup_of script settings) s.world (state_after (setup_of script settings) (entries_told now)) (entries_told now) (reached run.bound.opening s.reach) d least
            (none_in (s.world.active d) (sym ((s.managers.each (home_of settings d) home).active.tids d refl) ∙ empty));
        active = empty;
      }

  -- the claim that was made when the node had answered as much as now
  was_given : (n : ℕ) (session : Session) → session_of script n ≡ Some session → has_vanished past n ≡ false → (c : Claimed)
      → (m : Made script settings session past n (node_after settings script past session).answers c) → WasGiven past n c.node m.also
  was_given n session is_session runs c m = record {
    before = m.before;
    claim = m.claim;
    since = m.since;
    past_is = m.past_is;
    own = m.own;
    asks = m.asks_so;
    given = m.given;
    unanswered = nothing_more (answers_by n (entries_told m.before)) (answers_by n (entries_told (m.claim ∷ m.since)))
        (at_first ∙ m.answers_then ∙ sym now ∙ ap (λ (es : List Event). answers_by n (entries_told es)) m.past_is
        ∙ ap (answers_by n) (flat_map-append (λ (x : Event). x.entries) m.before (m.claim ∷ m.since))
        ∙ filter_map-append (answer_at n) (entries_told m.before) (entries_told (m.claim ∷ m.since)));
    last = m.last;
  }
    where
      -- the answers that a running node has given are told
      told : (front back : List Event) → IsRun script settings (front ++ back) → has_vanished front n ≡ false
          → answers_by n (entries_told front) ≡ (node_after settings script front session).answers
      told front back ran alive =
          let number : (node_after settings script front session).number ≡ n = ((stood_at script settings front back ran).nodes n session is_session alive).is_so.number in
          subst (λ (k : ℕ). answers_by k (entries_told front) ≡ (node_after settings script front session).answers) number
          ((spoken_at script settings front back ran).nodes n session is_session alive).answers

      ran_before : has_vanished m.before n ≡ false
      ran_before =
          first (list_any (posts n) m.before) (list_any (posts n) (m.claim ∷ m.since))
          (sym (list_any-append (posts n) m.before (m.claim ∷ m.since)) ∙ sym (ap (list_any (posts n)) m.past_is) ∙ runs)
        where
          first : (a b : Bool) → (a || b) ≡ false → a ≡ false
          first true b h = cc
          first false b h = refl

      at_first : answers_by n (entries_told m.before) ≡ (node_after settings script m.before session).answers
      at_first = told m.before ((m.claim ∷ m.since) ++ e ∷ rest)
          (subst (IsRun script settings) (ap (λ (es : List Event). es ++ e ∷ rest) m.past_is ∙ append_assoc m.before (m.claim ∷ m.since) (e ∷ rest)) run) ran_before

      now : answers_by n (entries_told past) ≡ (node_after settings script past session).answers
      now = told past (e ∷ rest) run runs

  -- ---- what is said at it

  of_found : (session : Session) → session_of script e.node ≡ Some session → has_vanished past e.node ≡ false → 1 ≤ e.node
      → (node_after settings script past session).number ≡ e.node → (ask : Ask) → e.request ≡ written ask
      → (after : Parts) → ManagersAre settings (past ++ e ∷ []) after
      → (n : ℕ) (told : Answer) → Found settings (node_after settings script past session).number (node_after settings script past session).doing ask (heard ask e.reply) after n told
      → OfRecovery script settings past e n told
  of_found session is_session runs least number ask bytes after managers n (answer.Recovered gone) f =
      let node : Node = node_after settings script past session in
      let own : e.node ≡ n = sym number ∙ sym f.0 in
      let x = both_of (λ c. (c.node ≡ gone) × NoneOf after.active c) (Made script settings session past e.node node.answers) node.doing f.1
      (owns_at script settings past (e ∷ rest) run e.node session is_session runs) in
      recovered x.0 x.1.0 x.1.1 x.2 own
    where
      recovered : (c : Claimed) → c.node ≡ gone → NoneOf after.active c → Made script settings session past e.node (node_after settings script past session).answers c → e.node ≡ n
          → IsRecovered script settings past e n gone
      recovered c is none m own = record {
        own = own;
        also = m.also;
        claim = subst (λ (k : ℕ). WasGiven past n k m.also) is
            (subst (λ (k : ℕ). WasGiven past k c.node m.also) own (was_given e.node session is_session runs c m));
        done = λ d some given.
            has_none after managers d some
            (none d (ap (λ (set : NodeSet). nat_le 1 d && has_node set d) (m.all ∙ ap (with_node m.also) is) ∙ is_one m.also gone d some given));
      }
  of_found session is_session runs least number ask bytes after managers n (answer.There gone) f = record {
    own = sym number ∙ sym f.0;
    asks = bytes ∙ ap written f.1;
    none = claim_replied (home_of settings gone) gone e.reply manager.There (sym (ap (λ (a : Ask). heard a e.reply) f.1) ∙ f.2);
  }
  of_found session is_session runs least number ask bytes after managers n told f = tt

  at_entry : (F : ℕ → Answer → Type 0) → AllTell F e.entries → ((n : ℕ) (told : Answer) → F n told → OfRecovery script settings past e n told) → RecoversWhole script settings past e
  at_entry F all f n statement said c =
      f n said.answer (All-contains (Tells F) e.entries (entry.Said n statement said) (All-from_recursion (Tells F) e.entries all) c)

  abbrev nothing : ℕ → Answer → Type 0
  nothing n told = ⊥

  by_event : IsEvent script settings past e → RecoversWhole script settings past e
  by_event (inl r) =
      let layout = layout_of script settings in
      let setup = setup_of script settings in
      let state = state_after (setup_of script settings) (entries_told past) in
      let node : Node = node_after settings script past r.session in
      let s : Stood (layout_of script settings) script settings past = stood_at script settings past (e ∷ rest) run in
      let stands = s.nodes e.node r.session r.is_session r.runs in
      let least : 1 ≤ e.node = subst (λ (i : ℕ). 1 ≤ i) stands.is_so.number stands.fits.least in
      let b = before_stood layout script settings past s run.bound.opening e.node r.session r.is_session r.runs least in
      let few : length (past ++ e ∷ rest) < 2 ^ 32 = run.few in
      let both : length (past ++ e ∷ rest) ≡ length past + length (e ∷ rest) = length-append past (e ∷ rest) in
      let h : Heeds script settings past e s.world e.node r.ask =
      heeded layout script settings past e rest s run.bound run.shards (omega arith) run.trace.served r.session r.is_session r.runs b r.ask r.asked r.stands_at r.bytes in
      at_entry (Found settings node.number node.doing r.ask (heard r.ask e.reply) h.after)
      (subst (AllTell (Found settings node.number node.doing r.ask (heard r.ask e.reply) h.after)) (sym r.told)
      (says_found (ReadsFor settings script.catalog node.todo) layout setup settings s.world state (entries_told past) e.node node b r.ask (heard r.ask e.reply) (answer_said e.entries)
      h.after r.asked h.serves r.means))
      (of_found r.session r.is_session r.runs least stands.is_so.number r.ask r.bytes h.after h.managers)
  by_event (inr (inl p)) = at_entry nothing (subst (AllTell nothing) (sym p.told) (tt, tt)) (λ n told f. absurd f)
  by_event (inr (inr c)) = at_entry nothing (subst (AllTell nothing) (sym c.told) (unsaid_tell nothing (says_at settings script.catalog (state_after (setup_of script settings) (entries_told past)).commits (node_after settings script past c.session) (heard c.ask e.reply) (answer_said e.entries)))) (λ n told f. absurd f)

pub recoveries_are_whole : RecoveriesAreWhole
recoveries_are_whole script settings past e rest run =
    by_event script settings past e rest run (along_at (IsEvent script settings) [] past e rest run.trace.events_are)
