-- Who owes a death notice after one event more, and how the nodes may have ended.
use Rattle.std.proofs.Common.{◌≡◌, ◌⊎◌, ℕ, ◌+◌, Bool, true, false, List, [], ◌∷◌, ◌++◌, length, nat_lt, Option, Some, None, refl, sym, ap, ◌∙◌, subst, inl, inr, arith}
use Rattle.std.specs.Prelude.{◌==◌, ◌&&◌, ◌||◌, nat_le, not, if◌then◌else◌}
use Rattle.std.proofs.lemmas.Bool.{and_from, and_left, cases_Bool, eqb-true, or_right}
use Rattle.std.proofs.lemmas.Bool.Decides.{nat_tests}
use Rattle.tl_base.specs.declared.place.Settings.{Settings}
use Rattle.tl_isolation.specs.declared.entry.Ending.{Ending}
use Rattle.tl_isolation.specs.declared.entry.Ending.TheVariants as ending_of
use Rattle.tl_isolation.specs.declared.entry.Entry.TheVariants as entry
use Rattle.tl_isolation.specs.declared.script.Script.{Script}
use Rattle.tl_isolation.specs.declared.script.Session.{Session}
use Rattle.tl_isolation.specs.declared.script.Vanish.{Vanish}
use Rattle.tl_journal.specs.declared.event.Event.{Event}
use Rattle.tl_journal.specs.Journal.{has_vanished, is_post, posts, session_of}
use Rattle.tl_journal.specs.Law.{IsRun}
use Rattle.tl_journal.specs.Node.{Node}
use Rattle.tl_journal.specs.Schedule.{EndsSo, MayAsk, is_done, is_due, is_spent, latest, owes_notice, owing, requests_of, vanish_of, was_cut}
use Rattle.tl_journal.specs.Strange.{is_stopped}
use Rattle.tl_journal.proofs.Grows.{done_stays}
use Rattle.tl_journal.proofs.InOrder.{along_one, latest_more}
use Rattle.tl_journal.proofs.Logs.{vanished_more}
use Rattle.tl_journal.proofs.Opens.{found_number}
use Rattle.tl_journal.proofs.Stood.{vanished_same}
use Rattle.tl_world.specs.Stands.{EndingsStand, IsPrompt, MayEnd, MayStand, counted_by}
use Rattle.tl_world.specs.Turns.{IsNotice, IsRequestOf}
use Rattle.tl_world.proofs.Counting.{counted_stays, made_more, requests_stay}
use Rattle.tl_world.proofs.Others.{node_other, vanish_own, vanished_other}

-- ---- tests

false_true : {A : Type 0} → false ≡ true → A
false_true e = absurd cc

-- what isn't owed isn't owed later, where only more is answered
stays_so : (asked gone due cut used done later : Bool) → (done ≡ true → later ≡ true)
    → ((asked && not gone) && (due || (cut || (used && (not done && not cut))))) ≡ false
    → ((asked && not gone) && (due || (cut || (used && (not later && not cut))))) ≡ false
stays_so false gone due cut used done later f h = refl
stays_so true true due cut used done later f h = refl
stays_so true false true cut used done later f h = absurd cc
stays_so true false false true used done later f h = absurd cc
stays_so true false false false false done later f h = refl
stays_so true false false false true done true f h = refl
stays_so true false false false true true false f h = false_true (f refl)
stays_so true false false false true false false f h = h

gone_so : (asked gone more : Bool) → gone ≡ true → ((asked && not gone) && more) ≡ false
gone_so true true more e = refl
gone_so false true more e = refl
gone_so asked false more e = absurd cc

none_so : (who due cut spent : Bool) → due ≡ false → cut ≡ false → spent ≡ false → (who && (due || (cut || spent))) ≡ false
none_so true false false false d c s = refl
none_so false due cut spent d c s = refl
none_so true true cut spent d c s = absurd cc
none_so true false true spent d c s = absurd cc
none_so true false false true d c s = absurd cc

all_so : (asked gone more : Bool) → asked ≡ true → gone ≡ false → more ≡ true → ((asked && not gone) && more) ≡ true
all_so true false true a g m = refl
all_so false gone more a g m = absurd cc
all_so true true more a g m = absurd cc
all_so true false false a g m = absurd cc

some_asked : (n m : ℕ) → n ≡ m + 1 → nat_lt 0 n ≡ true
some_asked n m e = grind (arith, nat_tests)

same_number : (n m : ℕ) → n ≡ m → (n == m) ≡ true
same_number n m e = grind (arith, nat_tests)

none_some : {A B : Type 0} (x : A) → ◌≡◌ {A = Option A} None (Some x) → B
none_some x e = absurd cc

some_same : (n m : ℕ) → Some n ≡ Some m → n ≡ m
some_same n m e = cc

-- ---- one event more

module _ (script : Script) (settings : Settings) where
  -- a node that has vanished owes nothing
  pub owes_gone : (events : List Event) (n : ℕ) → has_vanished events n ≡ true → owes_notice script settings events n ≡ false
  owes_gone events n e = gone_so _ _ _ e

  -- nor does one that goes on
  pub owes_none : (events : List Event) (n : ℕ) → is_due script events n ≡ false → was_cut script settings events n ≡ false
      → is_spent script settings events n ≡ false → owes_notice script settings events n ≡ false
  owes_none events n due cut spent = none_so _ _ _ _ due cut spent

  -- a node that made a request owes its notice, for any of these
  pub owes_one : (past : List Event) (e : Event) (n : ℕ) → IsRequestOf n e → has_vanished past n ≡ false
      → (is_due script (past ++ e ∷ []) n || (was_cut script settings (past ++ e ∷ []) n || is_spent script settings (past ++ e ∷ []) n)) ≡ true
      → owes_notice script settings (past ++ e ∷ []) n ≡ true
  owes_one past e n r runs more =
      all_so _ _ _ (some_asked (length (requests_of n (past ++ e ∷ []))) (length (requests_of n past)) (made_more past e n r.of_node r.request))
      (vanished_same past e n r.request ∙ runs) more

  module _ (past : List Event) (run : IsRun script settings past) (e : Event) where
    due_other : (k : ℕ) → (e.node == k) ≡ false → is_due script (past ++ e ∷ []) k ≡ is_due script past k
    due_other k apart = by (vanish_of script k) refl
      where
        by : (o : Option Vanish) → vanish_of script k ≡ o → is_due script (past ++ e ∷ []) k ≡ is_due script past k
        by None f = rw f refl
        by (Some v) f =
            let same : counted_by (Some v) (past ++ e ∷ []) ≡ counted_by (Some v) past =
            counted_stays past e (Some v) k (vanish_own script k (Some v) (sym f)) (and_left (e.node == k) (not (is_post e.request)) apart) in
            rw f (ap (λ (n : ℕ). nat_le v.count n) same)

    cut_other : (k : ℕ) → (e.node == k) ≡ false → has_vanished past k ≡ false → was_cut script settings (past ++ e ∷ []) k ≡ was_cut script settings past k
    cut_other k apart runs = by (session_of script k) refl
      where
        by : (o : Option Session) → session_of script k ≡ o → was_cut script settings (past ++ e ∷ []) k ≡ was_cut script settings past k
        by None f = rw f refl
        by (Some session) f =
            let own : session.node ≡ k = found_number script.sessions k session f in
            rw f
            (ap (λ (n : Node). is_stopped n.doing)
            (node_other script settings past run e session (ap (session_of script) own ∙ f) (ap (λ (n : ℕ). e.node == n) own ∙ apart)
            (ap (has_vanished past) own ∙ runs)))

    -- an event of another node leaves it so
    pub owes_other : (k : ℕ) → (e.node == k) ≡ false → owes_notice script settings past k ≡ false → owes_notice script settings (past ++ e ∷ []) k ≡ false
    owes_other k apart none = by (cases_Bool (has_vanished past k))
      where
        gone : has_vanished (past ++ e ∷ []) k ≡ has_vanished past k
        gone = vanished_other script settings past run e k apart

        requests : requests_of k (past ++ e ∷ []) ≡ requests_of k past
        requests = requests_stay past e k (and_left (e.node == k) (not (is_post e.request)) apart)

        by : (has_vanished past k ≡ true) ⊎ (has_vanished past k ≡ false) → owes_notice script settings (past ++ e ∷ []) k ≡ false
        by (inl h) = owes_gone (past ++ e ∷ []) k (gone ∙ h)
        by (inr runs) =
            rw (requests, gone, due_other k apart, cut_other k apart runs)
            (stays_so (nat_lt 0 (length (requests_of k past))) (has_vanished past k) (is_due script past k) (was_cut script settings past k)
            (nat_le settings.budget (length (requests_of k past))) (is_done script past k) (is_done script (past ++ e ∷ []) k) (done_stays script past (e ∷ []) k) none)

  -- nobody but this node owes a notice
  abbrev pub SettledBut : ℕ → List Event → Type 0
  SettledBut number events = (k : ℕ) → (number == k) ≡ false → owes_notice script settings events k ≡ false

  pub but_more : (past : List Event) → IsRun script settings past → (e : Event) (number : ℕ) → e.node ≡ number → SettledBut number past
      → SettledBut number (past ++ e ∷ [])
  but_more past run e number own h k apart = owes_other past run e k (ap (λ (n : ℕ). n == k) own ∙ apart) (h k apart)

  pub settled_so : (events : List Event) (number : ℕ) → SettledBut number events → owes_notice script settings events number ≡ false → (k : ℕ)
      → owes_notice script settings events k ≡ false
  settled_so events number h own k = by (cases_Bool (number == k))
    where
      by : (number == k ≡ true) ⊎ (number == k ≡ false) → owes_notice script settings events k ≡ false
      by (inl e) = ap (owes_notice script settings events) (sym (eqb-true number k e)) ∙ own
      by (inr e) = h k e

  -- ---- what stands between two events

  -- the node has vanished, once its notice stands
  pub gone_then : (past : List Event) (e : Event) (n : ℕ) (so : Ending) → IsNotice n so e → has_vanished (past ++ e ∷ []) n ≡ true
  gone_then past e n so h =
      vanished_more past e n ∙ or_right (has_vanished past n) (posts n e) (and_from (e.node == n) (is_post e.request) (same_number e.node n h.of_node) h.notice)

  pub may_end : (past : List Event) (n : ℕ) (so : Ending) → EndsSo script settings past n so → MayEnd script settings past n so
  may_end past n ending_of.Vanished h = inl h
  may_end past n ending_of.Spent h = h
  may_end past n ending_of.OutOfMemory h = h

  request_stands : (past : List Event) (e : Event) (n : ℕ) → IsRequestOf n e → MayAsk script settings past n → MayStand script settings past e
  request_stands past e n r may = inr (r.request, subst (λ (k : ℕ). MayAsk script settings past k) (sym r.of_node) may)

  notice_stands : (past : List Event) (e : Event) (n : ℕ) (so : Ending) → IsNotice n so e → MayEnd script settings past n so → MayStand script settings past e
  notice_stands past e n so h may =
      inl (
        h.notice,
        (
          so,
          h.entries ∙ ap (λ (k : ℕ). entry.Vanished k so ∷ []) (sym h.of_node),
          subst (λ (k : ℕ). MayEnd script settings past k so) (sym h.of_node) may,
        ),
      )

  -- where nothing is owed, any event is prompt
  owing_none : (past : List Event) → ((k : ℕ) → owes_notice script settings past k ≡ false) → owing script settings past ≡ None
  owing_none past none = by (latest past) refl
    where
      by : (o : Option Event) → latest past ≡ o → owing script settings past ≡ None
      by None e = rw e refl
      by (Some before) e = rw e (ap (λ (b : Bool). if b then Some before.node else None) (none before.node))

  prompt_first : (past : List Event) (e : Event) → ((k : ℕ) → owes_notice script settings past k ≡ false) → IsPrompt script settings past e
  prompt_first past e none node is = none_some node (sym (owing_none past none) ∙ is)

  -- behind a request nobody owes but its node
  owing_is : (past : List Event) (e : Event) (node : ℕ) → owing script settings (past ++ e ∷ []) ≡ Some node → e.node ≡ node
  owing_is past e node is =
      let same : owing script settings (past ++ e ∷ []) ≡ (if owes_notice script settings (past ++ e ∷ []) e.node then Some e.node else None) =
      rw (latest_more past e) refl in
      by (owes_notice script settings (past ++ e ∷ []) e.node) (sym same ∙ is)
    where
      by : (b : Bool) → (if b then Some e.node else None) ≡ Some node → e.node ≡ node
      by true h = some_same e.node node h
      by false h = none_some node h

  prompt_behind : (past : List Event) (e f : Event) (n : ℕ) (so : Ending) → e.node ≡ n → IsNotice n so f → IsPrompt script settings (past ++ e ∷ []) f
  prompt_behind past e f n so own h node is = (h.of_node ∙ sym own ∙ owing_is past e node is, h.notice)

  -- the node made a request, and goes on
  pub after_request : (past : List Event) (e : Event) (n : ℕ) → EndingsStand script settings past → IsRun script settings past → IsRequestOf n e → MayAsk script settings past n
      → owes_notice script settings (past ++ e ∷ []) n ≡ false → EndingsStand script settings (past ++ e ∷ [])
  after_request past e n h run r may none = record {
    each = along_one (MayStand script settings) past e h.each (request_stands past e n r may);
    prompt = along_one (IsPrompt script settings) past e h.prompt (prompt_first past e h.settled);
    settled = settled_so (past ++ e ∷ []) n (but_more past run e n r.of_node (λ k apart. h.settled k)) none;
  }

  -- it ended without one
  pub after_notice : (past : List Event) (f : Event) (n : ℕ) (so : Ending) → EndingsStand script settings past → IsRun script settings past → IsNotice n so f
      → MayEnd script settings past n so → EndingsStand script settings (past ++ f ∷ [])
  after_notice past f n so h run notice may = record {
    each = along_one (MayStand script settings) past f h.each (notice_stands past f n so notice may);
    prompt = along_one (IsPrompt script settings) past f h.prompt (prompt_first past f h.settled);
    settled = settled_so (past ++ f ∷ []) n (but_more past run f n notice.of_node (λ k apart. h.settled k))
        (owes_gone (past ++ f ∷ []) n (gone_then past f n so notice));
  }

  -- it ended behind one
  pub after_both : (past : List Event) (e f : Event) (n : ℕ) (so : Ending) → EndingsStand script settings past → IsRun script settings past
      → IsRun script settings (past ++ e ∷ []) → IsRequestOf n e → MayAsk script settings past n → IsNotice n so f → EndsSo script settings (past ++ e ∷ []) n so
      → EndingsStand script settings ((past ++ e ∷ []) ++ f ∷ [])
  after_both past e f n so h run more r may notice ends = record {
    each = along_one (MayStand script settings) (past ++ e ∷ []) f (along_one (MayStand script settings) past e h.each (request_stands past e n r may))
        (notice_stands (past ++ e ∷ []) f n so notice (may_end (past ++ e ∷ []) n so ends));
    prompt = along_one (IsPrompt script settings) (past ++ e ∷ []) f (along_one (IsPrompt script settings) past e h.prompt (prompt_first past e h.settled))
        (prompt_behind past e f n so r.of_node notice);
    settled = settled_so ((past ++ e ∷ []) ++ f ∷ []) n
        (but_more (past ++ e ∷ []) more f n notice.of_node (but_more past run e n r.of_node (λ k apart. h.settled k)))
        (owes_gone ((past ++ e ∷ []) ++ f ∷ []) n (gone_then (past ++ e ∷ []) f n so notice));
  }
