-- What comes of a reply for a node of whose doing the code keeps the rest.
use Rattle.std.proofs.Common.{◌≡◌, ℕ, Bool, true, false, List, Option, Some, None, refl, sym, ap, ◌∙◌, subst}
use Rattle.std.specs.Prelude.{◌||◌}
use Rattle.tl_base.specs.declared.place.Settings.{Settings}
use Rattle.tl_schema.specs.declared.catalog.Catalog.{Catalog}
use Rattle.tl_descriptor.specs.Tids.{TidSet}
use Rattle.tl_manager.specs.declared.mark.Mark.{Mark}
use Rattle.tl_manager.specs.declared.mark.TxnStep.TheVariants as step
use Rattle.tl_isolation.specs.declared.bound.Bound.{Bound}
use Rattle.tl_isolation.specs.declared.entry.Answer.{Answer}
use Rattle.tl_isolation.specs.declared.state.Commit.{Commit as Committed}
use Rattle.tl_protocol.specs.Store.{CommitsCell}
use Rattle.tl_protocol.specs.World.{Loaded, Stage}
use Rattle.tl_journal.specs.Ask.{Heard}
use Rattle.tl_journal.specs.Asks.{asks_doing}
use Rattle.tl_journal.specs.Node.{Doing, Noted, Stores, Removes, Closing, Ending, Stopped, Node}
use Rattle.tl_journal.specs.Says.{says_doing}
use Rattle.tl_journal.specs.Strange.{is_odd_for, is_stopped}
use Rattle.tl_journal.specs.Takes.{takes_doing, with_doing}
use Rattle.tl_ask.specs.Thin.{commits_if, loaded_if, thin, thin_commits, thin_loaded}
use Rattle.tl_txn.specs.Doing.{closed, decided, doing_of, removing_of, storing_of}
use Rattle.tl_txn.specs.Follows.{Begins, Ends, Goes, HasInHand, MayHear, Suits}
use Rattle.tl_txn.specs.Marks.{entries_of}
use Rattle.tl_txn.specs.Taken.{Taken, takes}
use Rattle.tl_txn.specs.Thinned.{DoesThin, thinned}
use Rattle.tl_txn.specs.declared.phase.Phase.{Phase}
use Rattle.tl_txn.specs.declared.phase.Phase.TheVariants as phase
use Rattle.tl_txn.proofs.Follows.{at_step}
use Rattle.tl_txn.proofs.Thinned.{does_thin}

thin_stopped : (doing : Doing) → is_stopped doing ≡ is_stopped (thin doing)
thin_stopped (Stopped nodes) = refl
thin_stopped doing = refl

thin_noted : (doing : Doing) (seen : TidSet) → thin doing ≡ Noted seen → doing ≡ Noted seen
thin_noted (Noted before) seen e = e
thin_noted doing seen e = cc

thin_ending : (doing : Doing) (tid : ℕ) (said : Answer) → thin doing ≡ Ending tid said → doing ≡ Ending tid said
thin_ending (Ending before said_so) tid said e = e
thin_ending doing tid said e = cc

loaded_thin : (b : Bool) → thin_loaded (loaded_if b) ≡ loaded_if b
loaded_thin true = refl
loaded_thin false = refl

commits_thin : (b : Bool) → thin_commits (commits_if b) ≡ commits_if b
commits_thin true = refl
commits_thin false = refl

-- the code keeps all that it needs
pub kept_thin : (stage : Stage) (kept : Phase) → thin (doing_of stage kept) ≡ doing_of stage kept
kept_thin stage phase.Asking = refl
kept_thin stage (phase.Noted seen) = refl
kept_thin stage (phase.Drawing seen) = refl
kept_thin stage (phase.Bringing seen low) = refl
kept_thin stage (phase.Ready live) = refl
kept_thin stage (phase.Reading live r) = refl
kept_thin stage (phase.TryingNothing live) = refl
kept_thin stage (phase.Trying a) = refl
kept_thin stage (phase.Storing s) = ap (λ (l : Option Loaded). Stores (storing_of stage s) l) (loaded_thin s.loaded)
kept_thin stage (phase.Removing r) = ap (λ (l : Option Loaded). Removes (removing_of stage r) l) (loaded_thin r.loaded)
kept_thin stage (phase.GivingUp live) = refl
kept_thin stage (phase.Closing tid d loaded) = ap (λ (c : Option CommitsCell). Closing (closed stage tid) (decided d) c) (commits_thin loaded)
kept_thin stage (phase.Ending tid d) = refl
kept_thin stage phase.Over = refl
kept_thin stage phase.Stopped = refl

module _ (settings : Settings) (catalog : Catalog) (node : Node) (statement : Bound) (stage : Stage) where
  suits_same : (a b : Doing) (kept : Phase) → Suits catalog (with_doing node a) statement stage kept → Suits catalog (with_doing node b) statement stage kept
  suits_same a b phase.Asking h = h
  suits_same a b (phase.Noted seen) h = h
  suits_same a b (phase.Drawing seen) h = h
  suits_same a b (phase.Bringing seen low) h = h
  suits_same a b (phase.Ready live) h = h
  suits_same a b (phase.Reading live r) h = h
  suits_same a b (phase.TryingNothing live) h = h
  suits_same a b (phase.Trying attempt) h = h
  suits_same a b (phase.Storing s) h = h
  suits_same a b (phase.Removing r) h = h
  suits_same a b (phase.GivingUp live) h = h
  suits_same a b (phase.Closing tid decision loaded) h = h
  suits_same a b (phase.Ending tid decision) h = h
  suits_same a b phase.Over h = h
  suits_same a b phase.Stopped h = h

  goes_alike : (a b : Node) (taken : Taken) → thinned a ≡ thinned b
      → asks_doing settings catalog a statement a.doing ≡ asks_doing settings catalog b statement b.doing
      → Goes settings catalog node statement stage b taken → Goes settings catalog node statement stage a taken
  goes_alike a b taken e asked g =
      let is_so : a ≡ with_doing node a.doing = ap (λ (n : Node). with_doing n a.doing) e ∙ ap (λ (n : Node). with_doing n a.doing) g.after_is in record {
        doing = a.doing;
        after_is = is_so;
        thin_is = ap (λ (n : Node). n.doing) e ∙ (ap (λ (n : Node). thin n.doing) g.after_is ∙ g.thin_is);
        ask_is =
            ap (λ (n : Node). asks_doing settings catalog n statement a.doing) (sym is_so)
            ∙ (asked ∙ (ap (λ (n : Node). asks_doing settings catalog n statement n.doing) g.after_is ∙ g.ask_is));
        suits = suits_same g.doing a.doing taken.phase g.suits;
        in_hand = g.in_hand;
      }

module _ (settings : Settings) (catalog : Catalog) (commits : List Committed) (node : Node) (statement : Bound) (stage : Stage) (kept : Phase) (doing : Doing) (heard : Heard) (told : Answer)
    (h : Suits catalog node statement stage kept) (e : thin doing ≡ doing_of stage kept) where
  -- the doing of the law
  abbrev after_of : Doing → Node
  after_of d = takes_doing settings catalog node statement d heard told

  alike : DoesThin settings catalog commits node statement doing heard told
  alike = does_thin settings catalog commits node statement doing heard told

  pub goes_on : (mark : Mark) → (takes settings node.number kept heard).step ≡ Some (step.Going mark)
      → Goes settings catalog node statement stage (takes_doing settings catalog node statement doing heard told) (takes settings node.number kept heard)
  goes_on mark f =
      goes_alike settings catalog node statement stage (after_of doing) (after_of (thin doing)) (takes settings node.number kept heard) alike.takes_is (alike.asks_is statement)
      (subst (λ (d : Doing). Goes settings catalog node statement stage (after_of d) (takes settings node.number kept heard)) (sym e)
      (at_step settings catalog commits node statement stage kept heard told (Some (step.Going mark)) h f).0)

  pub tells_so : (mark : Mark) → (takes settings node.number kept heard).step ≡ Some (step.Going mark)
      → says_doing settings catalog commits node statement doing heard told ≡ entries_of node.number mark
  tells_so mark f =
      alike.says_is
      ∙ (ap (λ (d : Doing). says_doing settings catalog commits node statement d heard told) e
      ∙ (at_step settings catalog commits node statement stage kept heard told (Some (step.Going mark)) h f).1)

  pub begins_so : (mark : Mark) → (takes settings node.number kept heard).step ≡ Some (step.Ready mark)
      → Begins settings commits node statement kept heard (takes_doing settings catalog node statement doing heard told)
      (says_doing settings catalog commits node statement doing heard told) (takes settings node.number kept heard) mark
  begins_so mark f =
      let b = at_step settings catalog commits node statement stage kept heard told (Some (step.Ready mark)) h f in
      let noted : doing_of stage kept ≡ Noted b.seen = ap (doing_of stage) b.before_is in
      subst
      (λ (d : Doing).
      Begins settings commits node statement kept heard (after_of d) (says_doing settings catalog commits node statement d heard told) (takes settings node.number kept heard) mark)
      (noted ∙ sym (thin_noted doing b.seen (e ∙ noted))) b

  pub ends_so : (mark : Mark) → (takes settings node.number kept heard).step ≡ Some (step.Ended mark)
      → Ends node stage kept (takes_doing settings catalog node statement doing heard told)
      (says_doing settings catalog commits node statement doing heard told) (takes settings node.number kept heard) mark
  ends_so mark f =
      let b = at_step settings catalog commits node statement stage kept heard told (Some (step.Ended mark)) h f in
      let ending : doing_of stage kept ≡ doing_of stage (phase.Ending b.tid b.decision) = ap (doing_of stage) b.before_is in
      subst
      (λ (d : Doing). Ends node stage kept (after_of d) (says_doing settings catalog commits node statement d heard told) (takes settings node.number kept heard) mark)
      (ending ∙ sym (thin_ending doing b.tid _ (e ∙ ending))) b

  pub stops_so : HasInHand kept → MayHear kept heard → (takes settings node.number kept heard).step ≡ None
      → (is_stopped (takes_doing settings catalog node statement doing heard told).doing || is_odd_for doing heard) ≡ true
  stops_so in_hand heard_so f =
      let stopped : is_stopped (after_of doing).doing ≡ is_stopped (after_of (thin doing)).doing =
      thin_stopped (after_of doing).doing ∙ (ap (λ (n : Node). is_stopped n.doing) alike.takes_is ∙ sym (thin_stopped (after_of (thin doing)).doing)) in
      ap (λ (b : Bool). b || is_odd_for doing heard) stopped
      ∙ (ap (λ (b : Bool). is_stopped (after_of (thin doing)).doing || b) alike.odd_is
      ∙ (ap (λ (d : Doing). is_stopped (after_of d).doing || is_odd_for d heard) e
      ∙ at_step settings catalog commits node statement stage kept heard told None h f in_hand heard_so))
