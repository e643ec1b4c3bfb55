-- The first request of a statement in a transaction: a commit, the end without one, or the one request of a statement without reads.
use Rattle.std.proofs.Common.{◌≡◌, ℕ, Bool, true, false, Option, Some, None, refl, sym, ap, ◌∙◌, subst}
use Rattle.std.specs.Prelude.{◌||◌, nat_le, if◌then◌else◌}
use Rattle.tl_collect.specs.Floors.{least_of}
use Rattle.tl_manager.specs.declared.request.ManagerRequest.TheVariants as request
use Rattle.tl_isolation.specs.declared.bound.Bound.{Bound}
use Rattle.tl_protocol.specs.Move.{is_empty}
use Rattle.tl_protocol.specs.World.{Txn}
use Rattle.tl_journal.specs.Ask.{LoadCommits, AskManager}
use Rattle.tl_journal.specs.Asks.{Course, ToIdle, ToCommit, ToGiveUp, asks_inside, course_in, other_manager, store_trying}
use Rattle.tl_journal.specs.Bytes.{home_of}
use Rattle.tl_journal.specs.Node.{Doing, Inside, Trying, Outside}
use Rattle.tl_ask.specs.Asked.{asked}
use Rattle.tl_ask.specs.Thin.{thin}
use Rattle.tl_ask.specs.declared.asked.Asked.{Asked}
use Rattle.tl_txn.specs.Calls.{ask_commit, ask_writes, commits, gives_up, snapshot_in, tries_nothing, tries_writes}
use Rattle.tl_txn.specs.Doing.{txn_in}
use Rattle.tl_txn.specs.declared.phase.Open.{Open}
use Rattle.tl_txn.specs.declared.phase.Phase.{Phase}
use Rattle.tl_txn.specs.declared.phase.Phase.TheVariants as phase
use Rattle.tl_txn.specs.declared.txn.Txn.{Txn as TheTxn}
use Rattle.tl_node.specs.Fits.{IsOwn}
use Rattle.tl_node.specs.Leads.{Leads, Led, is_at_once}
use Rattle.tl_node.specs.Seen.{settled_by}
use Rattle.tl_node.specs.View.{node_so, stage_of}
use Rattle.tl_node.specs.declared.kept.Core.{Core}
use Rattle.tl_node.specs.declared.work.Course.TheVariants as way
use Rattle.tl_node.specs.declared.work.Stage.{Stage}
use Rattle.tl_node.specs.declared.work.Work.{Work}
use Rattle.tl_node.specs.declared.work.Work.TheVariants as work

-- what the statement comes to
abbrev To : Core → Bound → Stage → Course
To core statement said = course_in core.catalog (stage_of said) statement

-- what its node does, and asks, where it is to commit: by whether it wrote nothing, and whether there is one manager
abbrev commits_so : Txn → Bool → Bool → Doing
commits_so t nothing alone = if nothing then Inside t else (if alone then Trying t else Inside t)

abbrev commit_asks : Core → Txn → Bool → Bool → Option Asked
commit_asks core t nothing alone =
    Some
    (asked core.layout
    (if nothing then LoadCommits else
    (if alone then store_trying (node_so core (Inside t)) t else AskManager (other_manager core.layout (node_so core (Inside t))) (request.Floor t.snapshot))))

by_two : {A : Type 0} (f : Bool → Bool → A) (a b c d : Bool) → a ≡ c → b ≡ d → f c d ≡ f a b
by_two f a b c d e g = ap (λ (x : Bool). f x d) (sym e) ∙ ap (λ (y : Bool). f a y) (sym g)

module _ (core : Core) (t : Txn) (to meant : Course) (same : to ≡ meant) where
  pub settles : thin (settled_by core.layout t meant) ≡ thin (settled_by core.layout t to)
  settles = ap (λ (x : Course). thin (settled_by core.layout t x)) (sym same)

  pub asks_so : Some (asked core.layout (asks_inside core.layout (node_so core (Inside t)) t meant)) ≡ Some (asked core.layout (asks_inside core.layout (node_so core (Inside t)) t to))
  asks_so = ap (λ (x : Course). Some (asked core.layout (asks_inside core.layout (node_so core (Inside t)) t x))) (sym same)

module _ (core : Core) (statement : Bound) (said : Stage) (live : Open) where
  pub by_phase : (so_far : Phase) (w : Phase → Work) → so_far ≡ phase.Ready live → Led core statement said live (w (phase.Ready live)) → Led core statement said live (w so_far)
  by_phase so_far w is led = subst (λ (p : Phase). Led core statement said live (w p)) (sym is) led

  led_up : (txn : TheTxn) → txn.layout ≡ core.layout → txn.node ≡ core.number → txn.phase ≡ phase.Ready live → To core statement said ≡ ToGiveUp
      → Led core statement said live (work.Runs (record { txn = record txn { phase = gives_up txn.phase; next = Some (asked txn.layout LoadCommits) }; stage = said; course = way.Ends None }))
  led_up txn layout node is e =
      by_phase txn.phase
      (λ (p : Phase). work.Runs (record { txn = record txn { phase = gives_up p; next = Some (asked txn.layout LoadCommits) }; stage = said; course = way.Ends None })) is
      (record {
        doing_is = settles core (txn_in (stage_of said) live) (To core statement said) ToGiveUp e;
        ask_is = ap (λ settings. Some (asked settings LoadCommits)) layout ∙ asks_so core (txn_in (stage_of said) live) (To core statement said) ToGiveUp e;
        fits = record { own = record { layout = layout; node = node }; course = (tt, e, tt, refl) };
      })

  -- by whether nothing was written
  abbrev commit_work : TheTxn → Phase → Bool → Work
  commit_work txn p nothing =
      work.Runs
      (record {
        txn = record txn {
          phase = if nothing then tries_nothing p else tries_writes txn.node (least_of core.floors) p;
          next = Some (asked txn.layout (if nothing then LoadCommits else ask_writes txn.node (least_of core.floors) p));
        };
        stage = said;
        course = way.Ends None;
      })

  led_nothing : (txn : TheTxn) → txn.layout ≡ core.layout → txn.node ≡ core.number → To core statement said ≡ ToCommit → is_empty live.own ≡ true
      → Led core statement said live (commit_work txn (phase.Ready live) true)
  led_nothing txn layout node e none =
      let t : Txn = txn_in (stage_of said) live in
      let alone : Bool = nat_le core.layout.managers 1 in
      record {
        doing_is = by_two (λ (a b : Bool). thin (commits_so t a b)) (is_empty t.own) alone true alone none refl ∙ settles core t (To core statement said) ToCommit e;
        ask_is = ap (λ settings. Some (asked settings LoadCommits)) layout ∙ by_two (commit_asks core t) (is_empty t.own) alone true alone none refl ∙ asks_so core t (To core statement said) ToCommit e;
        fits = record { own = record { layout = layout; node = node }; course = (none, e, tt, refl) };
      }

  led_writes : (txn : TheTxn) → txn.layout ≡ core.layout → txn.node ≡ core.number → To core statement said ≡ ToCommit → is_empty live.own ≡ false → nat_le core.layout.managers 1 ≡ true
      → Led core statement said live (commit_work txn (phase.Ready live) false)
  led_writes txn layout node e some alone =
      let t : Txn = txn_in (stage_of said) live in
      record {
        doing_is = by_two (λ (a b : Bool). thin (commits_so t a b)) (is_empty t.own) (nat_le core.layout.managers 1) false true some alone ∙ settles core t (To core statement said) ToCommit e;
        ask_is =
            ap (λ settings. Some (asked settings (ask_writes txn.node (least_of core.floors) (phase.Ready live)))) layout
            ∙ ap (λ (number : ℕ). Some (asked core.layout (ask_writes number (least_of core.floors) (phase.Ready live)))) node
            ∙ by_two (commit_asks core t) (is_empty t.own) (nat_le core.layout.managers 1) false true some alone ∙ asks_so core t (To core statement said) ToCommit e;
        fits = record { own = record { layout = layout; node = node }; course = (tt, record { node_is = node; floor_is = refl }, tt, refl) };
      }

  -- no other manager is asked
  led_at_once : (txn : TheTxn) → txn.layout ≡ core.layout → txn.node ≡ core.number → txn.phase ≡ phase.Ready live → To core statement said ≡ ToCommit
      → is_at_once core.layout live.own ≡ true
      → Led core statement said live
      (work.Runs
      (record {
        txn = record txn { phase = commits txn.node (least_of core.floors) txn.phase; next = Some (asked txn.layout (ask_commit txn.node (least_of core.floors) txn.phase)) };
        stage = said;
        course = way.Ends None;
      }))
  led_at_once txn layout node is e once =
      by_phase txn.phase
      (λ (p : Phase).
      work.Runs
      (record {
        txn = record txn { phase = commits txn.node (least_of core.floors) p; next = Some (asked txn.layout (ask_commit txn.node (least_of core.floors) p)) };
        stage = said;
        course = way.Ends None;
      })) is
      (by (is_empty live.own) (nat_le core.layout.managers 1) refl refl once)
    where
      by : (a b : Bool) → is_empty live.own ≡ a → nat_le core.layout.managers 1 ≡ b → (a || b) ≡ true → Led core statement said live (commit_work txn (phase.Ready live) (is_empty live.own))
      by true b f g h = subst (λ (x : Bool). Led core statement said live (commit_work txn (phase.Ready live) x)) (sym f) (led_nothing txn layout node e f)
      by false true f g h = subst (λ (x : Bool). Led core statement said live (commit_work txn (phase.Ready live) x)) (sym f) (led_writes txn layout node e f g)
      by false false f g h = cc

  -- another manager is asked
  led_other : (txn : TheTxn) (manager : ℕ) (a : Asked) → txn.layout ≡ core.layout → txn.node ≡ core.number → txn.phase ≡ phase.Ready live → To core statement said ≡ ToCommit
      → is_at_once core.layout live.own ≡ false → manager ≡ other_manager core.layout (node_so core Outside)
      → a ≡ asked core.layout (AskManager manager (request.Floor (snapshot_in txn.phase)))
      → Led core statement said live (work.Runs (record { txn = txn; stage = said; course = way.AsksOther manager a }))
  led_other txn manager a layout node is e other manager_is asks =
      by (is_empty live.own) (nat_le core.layout.managers 1) refl refl other
    where
      by : (x y : Bool) → is_empty live.own ≡ x → nat_le core.layout.managers 1 ≡ y → (x || y) ≡ false
          → Led core statement said live (work.Runs (record { txn = txn; stage = said; course = way.AsksOther manager a }))
      by true y f g h = cc
      by false true f g h = cc
      by false false f g h =
          let t : Txn = txn_in (stage_of said) live in
          by_phase txn.phase (λ (p : Phase). work.Runs (record { txn = record txn { phase = p }; stage = said; course = way.AsksOther manager a })) is
          (record {
            doing_is = by_two (λ (a b : Bool). thin (commits_so t a b)) (is_empty t.own) (nat_le core.layout.managers 1) false false f g ∙ settles core t (To core statement said) ToCommit e;
            ask_is =
                ap (λ (x : Asked). Some x) asks
                ∙ ap (λ (p : Phase). Some (asked core.layout (AskManager manager (request.Floor (snapshot_in p))))) is
                ∙ ap (λ (m : ℕ). Some (asked core.layout (AskManager m (request.Floor live.snapshot)))) manager_is
                ∙ by_two (commit_asks core t) (is_empty t.own) (nat_le core.layout.managers 1) false false f g ∙ asks_so core t (To core statement said) ToCommit e;
            fits = record { own = record { layout = layout; node = node }; course = ((e, f), g, manager_is) };
          })

  led_idle : (txn : TheTxn) (a : Asked) → txn.layout ≡ core.layout → txn.node ≡ core.number → txn.phase ≡ phase.Ready live → To core statement said ≡ ToIdle
      → a ≡ asked core.layout (AskManager (home_of core.layout core.number) (request.Floor (snapshot_in txn.phase)))
      → Led core statement said live (work.Runs (record { txn = txn; stage = said; course = way.Idles a }))
  led_idle txn a layout node is e asks =
      by_phase txn.phase (λ (p : Phase). work.Runs (record { txn = record txn { phase = p }; stage = said; course = way.Idles a })) is
      (record {
        doing_is = settles core (txn_in (stage_of said) live) (To core statement said) ToIdle e;
        ask_is =
            ap (λ (x : Asked). Some x) asks
            ∙ ap (λ (p : Phase). Some (asked core.layout (AskManager (home_of core.layout core.number) (request.Floor (snapshot_in p))))) is
            ∙ asks_so core (txn_in (stage_of said) live) (To core statement said) ToIdle e;
        fits = record { own = record { layout = layout; node = node }; course = e };
      })

-- whatever is answered meanwhile
module _ (core : Core) (statement : Bound) (txn : TheTxn) (said : Stage) (w : Work) (own : IsOwn core txn) where
  pub leads_so : ((answered : Core) (live : Open) → txn.phase ≡ phase.Ready live → Led (record core { answers = answered.answers }) statement said live w) → Leads core statement txn.phase said w
  leads_so led = λ live after is same. subst (λ (c : Core). Led c statement said live w) (sym same) (led after live is)

  pub leads_up : To core statement said ≡ ToGiveUp
      → w ≡ work.Runs (record { txn = record txn { phase = gives_up txn.phase; next = Some (asked txn.layout LoadCommits) }; stage = said; course = way.Ends None })
      → Leads core statement txn.phase said w
  leads_up e same =
      leads_so (λ after live is. subst (λ (x : Work). Led (record core { answers = after.answers }) statement said live x) (sym same)
      (led_up (record core { answers = after.answers }) statement said live txn own.layout own.node is e))

  pub leads_at_once : To core statement said ≡ ToCommit → ((live : Open) → txn.phase ≡ phase.Ready live → is_at_once core.layout live.own ≡ true)
      → w ≡ work.Runs
      (record {
        txn = record txn { phase = commits txn.node (least_of core.floors) txn.phase; next = Some (asked txn.layout (ask_commit txn.node (least_of core.floors) txn.phase)) };
        stage = said;
        course = way.Ends None;
      })
      → Leads core statement txn.phase said w
  leads_at_once e once same =
      leads_so (λ after live is. subst (λ (x : Work). Led (record core { answers = after.answers }) statement said live x) (sym same)
      (led_at_once (record core { answers = after.answers }) statement said live txn own.layout own.node is e (once live is)))

  pub leads_other : (manager : ℕ) (a : Asked) → To core statement said ≡ ToCommit → ((live : Open) → txn.phase ≡ phase.Ready live → is_at_once core.layout live.own ≡ false)
      → manager ≡ other_manager core.layout (node_so core Outside)
      → a ≡ asked core.layout (AskManager manager (request.Floor (snapshot_in txn.phase)))
      → w ≡ work.Runs (record { txn = txn; stage = said; course = way.AsksOther manager a }) → Leads core statement txn.phase said w
  leads_other manager a e other manager_is asks same =
      leads_so (λ after live is. subst (λ (x : Work). Led (record core { answers = after.answers }) statement said live x) (sym same)
      (led_other (record core { answers = after.answers }) statement said live txn manager a own.layout own.node is e (other live is) manager_is asks))

  pub leads_idle : (a : Asked) → To core statement said ≡ ToIdle → a ≡ asked core.layout (AskManager (home_of core.layout core.number) (request.Floor (snapshot_in txn.phase)))
      → w ≡ work.Runs (record { txn = txn; stage = said; course = way.Idles a }) → Leads core statement txn.phase said w
  leads_idle a e asks same =
      leads_so (λ after live is. subst (λ (x : Work). Led (record core { answers = after.answers }) statement said live x) (sym same)
      (led_idle (record core { answers = after.answers }) statement said live txn a own.layout own.node is e asks))
