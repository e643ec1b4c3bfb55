-- What a node tells of a reply, seen as what the node of the law tells that it stands for.
use Rattle.std.proofs.Common.{◌≡◌, ◌⊎◌, Bool, true, false, List, [], ◌∷◌, ◌++◌, Some, None, refl, sym, ap, ◌∙◌, subst, inl, inr}
use Rattle.std.specs.Prelude.{◌||◌, if◌then◌else◌}
use Rattle.std.proofs.lemmas.Bool.{or_from}
use Rattle.tl_base.specs.declared.node.NodeSet.{NodeSet}
use Rattle.tl_base.specs.declared.place.Settings.{Settings}
use Rattle.tl_schema.specs.declared.catalog.Catalog.{Catalog}
use Rattle.tl_manager.specs.declared.mark.Mark.{Mark}
use Rattle.tl_manager.specs.declared.request.Reply.{Reply}
use Rattle.tl_isolation.specs.declared.bound.Bound.{Bound}
use Rattle.tl_isolation.specs.declared.entry.Answer.{Answer}
use Rattle.tl_isolation.specs.declared.entry.Answer.TheVariants as answer
use Rattle.tl_isolation.specs.declared.entry.Said.{Said}
use Rattle.tl_isolation.specs.declared.state.Commit.{Commit}
use Rattle.tl_journal.specs.Ask.{Ask, Heard, Strange}
use Rattle.tl_journal.specs.Asks.{asks}
use Rattle.tl_journal.specs.Bytes.{heard}
use Rattle.tl_journal.specs.Memory.{has_said, is_ending, unsaid}
use Rattle.tl_journal.specs.Node.{Node, owed_by}
use Rattle.tl_journal.specs.Says.{says_at}
use Rattle.tl_journal.specs.Strange.{is_odd_for, is_stopped, is_strange, is_strange_to}
use Rattle.tl_ask.specs.Given.{shown_heard}
use Rattle.tl_journal.specs.Takes.{MayMean, takes}
use Rattle.tl_node.specs.After.{IsTold, answer_in, heard_by, hears, marked, may_be_given, owed_left, said_so, statement_in, told_heard}
use Rattle.tl_node.specs.Fits.{OwnSuitsNode}
use Rattle.tl_node.specs.Seen.{seen}
use Rattle.tl_node.specs.View.{NodeValue, StandsFor, asked_by}
use Rattle.tl_node.specs.declared.told.Rest.{Rest}
use Rattle.tl_node.specs.declared.told.Rest.TheVariants as rest
use Rattle.tl_node.proofs.Alike.{AreAlike}
use Rattle.tl_node.proofs.AlikeNodes.{doing_alike, doing_hears}
use Rattle.tl_node.proofs.Heard.{IsShown, is_shown}
use Rattle.tl_node.proofs.AlikeSays.{doing_ending, doing_means, doing_odd, doing_owed, doing_says}

module _ (settings : Settings) (catalog : Catalog) where
  none_asked : (ask : Ask) → None ≡ Some ask → ⊥
  none_asked ask e = cc

  -- it hears the same
  hears_of : (n : Node) (todo : List Bound) (p : Reply)
      → heard_by catalog (asks settings catalog (seen settings catalog (record n { todo = todo }))) p ≡ heard_by catalog (asks settings catalog (record n { todo = todo })) p
  hears_of n [] p = refl
  hears_of n (statement ∷ later) p = doing_hears settings catalog (record n { todo = statement ∷ later }) statement n.doing p

  pub hears_seen : (n : Node) (ask : Ask) (p : Reply) → asks settings catalog n ≡ Some ask → hears settings catalog (seen settings catalog n) p ≡ shown_heard catalog ask p
  hears_seen n ask p asked = hears_of n n.todo p ∙ ap (λ a. heard_by catalog a p) asked

  -- it does the same
  alike_of : (n : Node) (todo : List Bound) (ask : Ask) (p : Reply) (told : Answer) → asks settings catalog (record n { todo = todo }) ≡ Some ask
      → AreAlike settings catalog (takes settings catalog (seen settings catalog (record n { todo = todo })) (heard_by catalog (asks settings catalog (record n { todo = todo })) p) told)
      (takes settings catalog (record n { todo = todo }) (heard_by catalog (asks settings catalog (record n { todo = todo })) p) told)
  alike_of n [] ask p told asked = absurd (none_asked ask asked)
  alike_of n (statement ∷ later) ask p told asked = doing_alike settings catalog (record n { todo = statement ∷ later }) statement n.doing p told

  pub alike_seen : (n : Node) (ask : Ask) (p : Reply) (told : Answer) → asks settings catalog n ≡ Some ask
      → AreAlike settings catalog (takes settings catalog (seen settings catalog n) (shown_heard catalog ask p) told) (takes settings catalog n (shown_heard catalog ask p) told)
  alike_seen n ask p told asked =
      subst (λ a. AreAlike settings catalog (takes settings catalog (seen settings catalog n) (heard_by catalog a p) told) (takes settings catalog n (heard_by catalog a p) told)) asked
      (alike_of n n.todo ask p told asked)

  -- it tells the same
  says_of : (commits : List Commit) (n : Node) (todo : List Bound) (h : Heard) (told : Answer)
      → says_at settings catalog commits (seen settings catalog (record n { todo = todo })) h told ≡ says_at settings catalog commits (record n { todo = todo }) h told
  says_of commits n [] h told = refl
  says_of commits n (statement ∷ later) h told = doing_says settings catalog statement h commits (record n { todo = statement ∷ later }) n.doing told

  pub says_seen : (commits : List Commit) (n : Node) (h : Heard) (told : Answer)
      → says_at settings catalog commits (seen settings catalog n) h told ≡ says_at settings catalog commits n h told
  says_seen commits n h told = says_of commits n n.todo h told

  -- it may mean the same
  means_of : (n : Node) (todo : List Bound) (h : Heard) (told : Answer) → MayMean settings catalog (seen settings catalog (record n { todo = todo })) h told
      → MayMean settings catalog (record n { todo = todo }) h told
  means_of n [] h told m = tt
  means_of n (statement ∷ later) h told m = doing_means settings catalog statement h n.doing told m

  pub means_seen : (n : Node) (h : Heard) (told : Answer) → MayMean settings catalog (seen settings catalog n) h told → MayMean settings catalog n h told
  means_seen n h told m = means_of n n.todo h told m

  -- a reply that isn't strange to the one isn't strange to the other
  odd_of : (n : Node) (todo : List Bound) (ask : Ask) (h : Heard) → asks settings catalog (record n { todo = todo }) ≡ Some ask → is_odd_for n.doing h ≡ false
      → is_odd_for (seen settings catalog (record n { todo = todo })).doing h ≡ false
  odd_of n [] ask h asked e = absurd (none_asked ask asked)
  odd_of n (statement ∷ later) ask h asked e = doing_odd settings catalog statement h n.doing e

  neither : (a b : Bool) → a || b ≡ false → (a ≡ false) × (b ≡ false)
  neither false false e = (refl, refl)
  neither false true e = cc
  neither true b e = cc

  pub strange_seen : (n : Node) (ask : Ask) (h : Heard) → asks settings catalog n ≡ Some ask
      → AreAlike settings catalog (takes settings catalog (seen settings catalog n) h answer.Begun) (takes settings catalog n h answer.Begun)
      → is_strange_to settings catalog n h ≡ false → is_strange_to settings catalog (seen settings catalog n) h ≡ false
  strange_seen n ask h asked alike e =
      let both = neither (is_stopped (takes settings catalog n h answer.Begun).doing) (is_odd_for n.doing h) e in
      or_from (is_stopped (takes settings catalog (seen settings catalog n) h answer.Begun).doing) (is_odd_for (seen settings catalog n).doing h)
      (alike.stopped_is ∙ both.0) (odd_of n n.todo ask h asked both.1)

  ending_of : (n : Node) (todo : List Bound) (ask : Ask) → asks settings catalog (record n { todo = todo }) ≡ Some ask
      → is_ending (seen settings catalog (record n { todo = todo })).doing ≡ is_ending n.doing
  ending_of n [] ask asked = absurd (none_asked ask asked)
  ending_of n (statement ∷ later) ask asked = doing_ending settings catalog statement n.doing

  pub ending_seen : (n : Node) (ask : Ask) → asks settings catalog n ≡ Some ask → is_ending (seen settings catalog n).doing ≡ is_ending n.doing
  ending_seen n ask asked = ending_of n n.todo ask asked

  owed_of : (n : Node) (todo : List Bound) (ask : Ask) → asks settings catalog (record n { todo = todo }) ≡ Some ask
      → owed_by (seen settings catalog (record n { todo = todo })).doing ≡ owed_by n.doing
  owed_of n [] ask asked = absurd (none_asked ask asked)
  owed_of n (statement ∷ later) ask asked = doing_owed settings catalog statement n.doing

  pub owed_seen : (n : Node) (ask : Ask) → asks settings catalog n ≡ Some ask → owed_by (seen settings catalog n).doing ≡ owed_by n.doing
  owed_seen n ask asked = owed_of n n.todo ask asked

  pub number_seen : (n : Node) → (seen settings catalog n).number ≡ n.number
  number_seen n = by n.todo
    where
      by : (todo : List Bound) → (seen settings catalog (record n { todo = todo })).number ≡ n.number
      by [] = refl
      by (statement ∷ later) = refl

  pub todo_seen : (n : Node) → (seen settings catalog n).todo ≡ n.todo
  todo_seen n = by n.todo
    where
      by : (todo : List Bound) → (seen settings catalog (record n { todo = todo })).todo ≡ todo
      by [] = refl
      by (statement ∷ later) = refl

-- ---- what it tells

-- this is said
pub record SaysAs (settings : Settings) (catalog : Catalog) (n : Node) (h : Heard) (told : Reply) (m : Mark) (said : Said) (v : NodeValue) : Type 0 where
  pub stands : StandsFor settings catalog (takes settings catalog n h (answer_in m said)) v
  pub means : MayMean settings catalog n h (answer_in m said)
  pub entries : (commits : List Commit) → says_at settings catalog commits n h (answer_in m said)
      ≡ marked commits n.number told m ++ said_so n.number (statement_in n.todo) m said ∷ []

-- whom the node leaves to be recovered where it stops
abbrev pub owed_stopped : Settings → Catalog → Node → Heard → NodeSet
owed_stopped settings catalog n h =
    if has_said (says_at settings catalog [] n h answer.Begun) then owed_by n.doing else owed_by (takes settings catalog n h answer.Begun).doing

-- memory was wanted
pub record WantsAs (settings : Settings) (catalog : Catalog) (n : Node) (h : Heard) (told : Reply) (m : Mark) (v : NodeValue) : Type 0 where
  pub number : v.node.number ≡ n.number
  pub owed : owed_by v.node.doing ≡ owed_stopped settings catalog n h
  pub entries : (commits : List Commit) → (unsaid (says_at settings catalog commits n h answer.Begun) ≡ marked commits n.number told m)
      ⊎ (says_at settings catalog commits n h answer.Begun ≡ marked commits n.number told m)

-- what is told of what the node of the law hears, which isn't strange
abbrev pub IsToldOf : Settings → Catalog → Node → Heard → Reply → NodeValue → Mark → Rest → Type 0
IsToldOf settings catalog n h told after m rest.Going =
    StandsFor settings catalog (takes settings catalog n h answer.Begun) after × ((commits : List Commit) → says_at settings catalog commits n h answer.Begun ≡ marked commits n.number told m)
IsToldOf settings catalog n h told after m (rest.Said said) = OwnSuitsNode catalog (seen settings catalog n) → SaysAs settings catalog n h told m said after
IsToldOf settings catalog n h told after m rest.Strange = ⊥
IsToldOf settings catalog n h told after m rest.NoMemory = WantsAs settings catalog n h told m after

module _ (settings : Settings) (catalog : Catalog) (n : Node) (ask : Ask) (p : Reply) (asked : asks settings catalog n ≡ Some ask)
    (sane : is_strange settings catalog n ask p ≡ false) (v : NodeValue) (s : StandsFor settings catalog n v) where
  -- the node that its code sees, by what that hears
  abbrev view : NodeValue
  view = record { settings = settings; catalog = catalog; session = v.session; node = seen settings catalog n; ask = v.ask }

  said_so_is : IsShown catalog ask p
  said_so_is = is_shown settings catalog n ask p asked sane

  h_is : told_heard view p ≡ heard ask p
  h_is =
      ap (λ a. if may_be_given a p then hears settings catalog (seen settings catalog n) p else Strange) (s.ask_is ∙ ap (asked_by settings) asked)
      ∙ ap (λ (b : Bool). if b then hears settings catalog (seen settings catalog n) p else Strange) said_so_is.given
      ∙ hears_seen settings catalog n ask p asked ∙ said_so_is.shown

  alike : (told : Answer) → AreAlike settings catalog (takes settings catalog (seen settings catalog n) (heard ask p) told) (takes settings catalog n (heard ask p) told)
  alike told =
      subst (λ h. AreAlike settings catalog (takes settings catalog (seen settings catalog n) h told) (takes settings catalog n h told)) said_so_is.shown
      (alike_seen settings catalog n ask p told asked)

  stands_alike : (told : Answer) (after : NodeValue) → StandsFor settings catalog (takes settings catalog (seen settings catalog n) (told_heard view p) told) after
      → StandsFor settings catalog (takes settings catalog n (heard ask p) told) after
  stands_alike told after t =
      let both = alike told in
      record {
        settings_are = t.settings_are;
        catalog_is = t.catalog_is;
        node_is = t.node_is ∙ ap (λ h. seen settings catalog (takes settings catalog (seen settings catalog n) h told)) h_is ∙ both.seen_is;
        ask_is = t.ask_is ∙ ap (λ h. asked_by settings (asks settings catalog (takes settings catalog (seen settings catalog n) h told))) h_is ∙ ap (asked_by settings) both.asks_is;
      }

  says_alike : (commits : List Commit) (told : Answer)
      → says_at settings catalog commits (seen settings catalog n) (told_heard view p) told ≡ says_at settings catalog commits n (heard ask p) told
  says_alike commits told = ap (λ h. says_at settings catalog commits (seen settings catalog n) h told) h_is ∙ says_seen settings catalog commits n (heard ask p) told

  marked_alike : (commits : List Commit) (m : Mark) → marked commits (seen settings catalog n).number p m ≡ marked commits n.number p m
  marked_alike commits m = ap (λ number. marked commits number p m) (number_seen settings catalog n)

  not_strange : is_strange_to settings catalog (seen settings catalog n) (told_heard view p) ≡ false
  not_strange =
      ap (λ h. is_strange_to settings catalog (seen settings catalog n) h) h_is
      ∙ strange_seen settings catalog n ask (heard ask p) asked (alike answer.Begun)
      (subst (λ h. is_strange_to settings catalog n h ≡ false) said_so_is.sound sane)

  both_ways : (b : Bool) → b ≡ true → b ≡ false → ⊥
  both_ways b e f = cc

  pub told_of : (after : NodeValue) (m : Mark) (r : Rest) → IsTold v p after m r → IsToldOf settings catalog n (heard ask p) p after m r
  told_of after m r t = by r (subst (λ x. IsTold x p after m r) (λ i. record { settings = s.settings_are i; catalog = s.catalog_is i; session = v.session; node = s.node_is i; ask = v.ask }) t)
    where
      by : (r : Rest) → IsTold view p after m r → IsToldOf settings catalog n (heard ask p) p after m r
      by rest.Going t = (stands_alike answer.Begun after t.1, λ commits. sym (says_alike commits answer.Begun) ∙ t.2 commits ∙ marked_alike commits m)
      by (rest.Said said) t = λ suits. let so = t.1 suits in
          record {
            stands = stands_alike (answer_in m said) after so.stands;
            means = means_seen settings catalog n (heard ask p) (answer_in m said)
                (subst (λ h. MayMean settings catalog (seen settings catalog n) h (answer_in m said)) h_is so.means);
            entries = λ commits. sym (says_alike commits (answer_in m said)) ∙ so.entries commits
                ∙ ap (λ number. marked commits number p m ++ said_so number (statement_in (seen settings catalog n).todo) m said ∷ []) (number_seen settings catalog n)
                ∙ ap (λ todo. marked commits n.number p m ++ said_so n.number (statement_in todo) m said ∷ []) (todo_seen settings catalog n);
          }
      by rest.Strange t = both_ways (is_strange_to settings catalog (seen settings catalog n) (told_heard view p)) t.1 not_strange
      by rest.NoMemory t =
          let stopped = t.0 in
          let wants = t.1 in
          record {
            number = stopped.number ∙ number_seen settings catalog n;
            owed = ap owed_by stopped.doing ∙ left;
            entries = λ commits. either commits (wants.entries not_strange commits);
          }
        where
          left : owed_left settings catalog (seen settings catalog n) (told_heard view p) ≡ owed_stopped settings catalog n (heard ask p)
          left =
              ap (λ es. if has_said es then owed_by (seen settings catalog n).doing
              else owed_by (takes settings catalog (seen settings catalog n) (told_heard view p) answer.Begun).doing)
              (says_alike [] answer.Begun)
              ∙ ap (λ o. if has_said (says_at settings catalog [] n (heard ask p) answer.Begun) then o
              else owed_by (takes settings catalog (seen settings catalog n) (told_heard view p) answer.Begun).doing)
              (owed_seen settings catalog n ask asked)
              ∙ ap (λ o. if has_said (says_at settings catalog [] n (heard ask p) answer.Begun) then owed_by n.doing else o)
              (ap (λ h. owed_by (takes settings catalog (seen settings catalog n) h answer.Begun).doing) h_is ∙ (alike answer.Begun).owed_is)

          either : (commits : List Commit)
              → (unsaid (says_at settings catalog commits (seen settings catalog n) (told_heard view p) answer.Begun) ≡ marked commits (seen settings catalog n).number p m)
              ⊎ (says_at settings catalog commits (seen settings catalog n) (told_heard view p) answer.Begun ≡ marked commits (seen settings catalog n).number p m)
              → (unsaid (says_at settings catalog commits n (heard ask p) answer.Begun) ≡ marked commits n.number p m)
              ⊎ (says_at settings catalog commits n (heard ask p) answer.Begun ≡ marked commits n.number p m)
          either commits (inl e) = inl (ap unsaid (sym (says_alike commits answer.Begun)) ∙ e ∙ marked_alike commits m)
          either commits (inr e) = inr (sym (says_alike commits answer.Begun) ∙ e ∙ marked_alike commits m)
