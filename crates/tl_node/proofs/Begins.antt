-- A transaction has begun: its node goes on with the present statement, or answers BEGIN.
use Rattle.std.proofs.Common.{◌≡◌, ℕ, false, List, [], ◌∷◌, length, drop, Option, Some, None, Result, Ok, Err, inl, refl, sym, ap, subst}
use Rattle.tl_base.specs.declared.memory.NoMemory.{NoMemory}
use Rattle.tl_descriptor.specs.Tids.{TidSet}
use Rattle.tl_isolation.specs.declared.bound.Bound.{Bound}
use Rattle.tl_isolation.specs.declared.bound.Bound.TheVariants as bound
use Rattle.tl_isolation.specs.declared.entry.Answer.TheVariants as answer
use Rattle.tl_isolation.specs.declared.entry.Entry.TheVariants as entry
use Rattle.tl_isolation.specs.declared.entry.Said.{Said}
use Rattle.tl_isolation.specs.declared.state.Commit.{Commit}
use Rattle.tl_manager.specs.declared.mark.Mark.TheVariants as mark
use Rattle.tl_manager.specs.declared.request.ManagerReply.TheVariants as manager
use Rattle.tl_manager.specs.declared.request.Reply.{Reply}
use Rattle.tl_manager.specs.declared.request.Reply.TheVariants as reply
use Rattle.tl_protocol.specs.Told.{count_in}
use Rattle.tl_protocol.specs.World.{Fresh, Opened}
use Rattle.tl_journal.specs.Ask.{Told}
use Rattle.tl_journal.specs.Memory.{unsaid}
use Rattle.tl_journal.specs.Node.{Noted, Inside, Node}
use Rattle.tl_journal.specs.Says.{says_at}
use Rattle.tl_journal.specs.Strange.{is_odd_begin}
use Rattle.tl_journal.specs.Takes.{takes}
use Rattle.tl_node.specs.Hears.{manager_says}
use Rattle.tl_txn.specs.Doing.{txn_in}
use Rattle.tl_txn.specs.Taken.{opened}
use Rattle.tl_txn.specs.declared.phase.Phase.{Phase}
use Rattle.tl_txn.specs.declared.phase.Phase.TheVariants as phase
use Rattle.tl_txn.specs.declared.txn.Txn.{Txn}
use Rattle.tl_node.specs.After.{ComesTo, Goes, IsOpened, Opens, at_todo}
use Rattle.tl_node.specs.Begun.{EntersBy, HasBegun, SaysOn, began_floor, began_mark}
use Rattle.tl_node.specs.Fits.{HasPresent}
use Rattle.tl_node.specs.Leaves.{learns}
use Rattle.tl_node.specs.View.{StandsFor, node_so, value_of}
use Rattle.tl_node.specs.declared.kept.Core.{Core}
use Rattle.tl_node.specs.declared.work.Next.{Next}
use Rattle.tl_node.specs.declared.work.Next.TheVariants as next
use Rattle.tl_node.specs.declared.work.Stage.TheVariants as stage
use Rattle.tl_node.specs.declared.work.Work.{Work}
use Rattle.tl_node.proofs.Arrives.{Arrives, answered_at, answers_on, arrives_at}
use Rattle.tl_node.proofs.NotStrange.{not_strange_at}

-- ---- the node of the law, once its present statement is in hand

module _ (old new : Core) (seen : TidSet) (later : List Bound) (tid : ℕ) (snapshot floor : TidSet) (not_odd : is_odd_begin tid snapshot ≡ false) where
  abbrev pub Comes : Bound → Result Next NoMemory → Type 0
  Comes statement result =
      ComesTo old.layout old.catalog (at_todo old (statement ∷ later) (Noted seen)) (Told (manager.Began tid snapshot floor)) (reply.Manager (manager.Began tid snapshot floor)) new
      (mark.Began tid) result

  begin_comes : (w : Work) (s : Said) → drop (length old.answers.items) old.statements ≡ bound.Begin ∷ later
      → SaysOn (learns old floor) answer.Begun (phase.Ready (opened tid snapshot)) stage.Opened new w s → Comes bound.Begin (Ok (next.Says w s))
  begin_comes w s todo_is on =
      let a : Arrives old.layout old.catalog new w (answered_at (learns old floor) later answer.Begun (Inside (txn_in Opened (opened tid snapshot)))) =
      answers_on (learns old floor) new answer.Begun bound.Begin later stage.Opened (opened tid snapshot) (phase.Ready (opened tid snapshot)) w todo_is on.rest on.answers refl on.opens in
      record {
        fits = a.fits;
        not_strange = not_odd;
        so = λ suits. record {
          stands = a.stands;
          means = tt;
          entries = λ commits. ap (λ (x : Said). entry.Began old.number tid (count_in snapshot commits) ∷ entry.Said old.number bound.Begin x ∷ []) (sym on.said_is);
        };
      }

  -- another statement is opened
  pub record IsOther (statement : Bound) : Type 0 where
    pub takes_is : takes old.layout old.catalog (at_todo old (statement ∷ later) (Noted seen)) (Told (manager.Began tid snapshot floor)) answer.Begun
        ≡ at_todo (learns old floor) (statement ∷ later) (Inside (txn_in Fresh (opened tid snapshot)))
    pub says_is : (commits : List Commit)
        → says_at old.layout old.catalog commits (at_todo old (statement ∷ later) (Noted seen)) (Told (manager.Began tid snapshot floor)) answer.Begun
        ≡ entry.Began old.number tid (count_in snapshot commits) ∷ []

  other_comes : (statement : Bound) (w : Work) → IsOther statement → drop (length old.answers.items) old.statements ≡ statement ∷ later → new ≡ learns old floor
      → Opens (learns old floor) (length old.answers.items) (phase.Ready (opened tid snapshot)) stage.Fresh w → Comes statement (Ok (next.Goes w))
  other_comes statement w is todo_is same opens =
      let o : IsOpened (learns old floor) (statement ∷ later) (Inside (txn_in Fresh (opened tid snapshot))) w =
      subst (λ (todo : List Bound). IsOpened (learns old floor) todo (Inside (txn_in Fresh (opened tid snapshot))) w) todo_is (opens (opened tid snapshot) (learns old floor) refl refl) in
      let a : Arrives old.layout old.catalog (learns old floor) w (at_todo (learns old floor) (statement ∷ later) (Inside (txn_in Fresh (opened tid snapshot)))) =
      arrives_at (learns old floor) (statement ∷ later) w (Inside (txn_in Fresh (opened tid snapshot))) todo_is o in
      subst
      (λ (c : Core).
      Goes old.layout old.catalog (at_todo old (statement ∷ later) (Noted seen)) (Told (manager.Began tid snapshot floor)) (reply.Manager (manager.Began tid snapshot floor))
      (mark.Began tid) c w) (sym same)
      (record {
        fits = a.fits;
        not_strange =
            not_strange_at old.layout old.catalog (at_todo old (statement ∷ later) (Noted seen)) (Told (manager.Began tid snapshot floor)) _ is.takes_is refl not_odd;
        stands = subst (λ (n : Node). StandsFor old.layout old.catalog n (value_of (learns old floor) w)) (sym is.takes_is) a.stands;
        entries = is.says_is;
      })

  unsaid_so : (commits : List Commit) (statement : Bound)
      → unsaid (says_at old.layout old.catalog commits (at_todo old (statement ∷ later) (Noted seen)) (Told (manager.Began tid snapshot floor)) answer.Begun)
      ≡ entry.Began old.number tid (count_in snapshot commits) ∷ []
  unsaid_so commits bound.Begin = refl
  unsaid_so commits statement = refl

  pub comes : (statement : Bound) (result : Result Next NoMemory) → drop (length old.answers.items) old.statements ≡ statement ∷ later
      → EntersBy statement old floor (phase.Ready (opened tid snapshot)) new result → Comes statement result
  comes bound.Begin (Ok (next.Says w s)) todo_is on = begin_comes w s todo_is on
  comes bound.Begin (Ok (next.Goes w)) todo_is on = absurd on
  comes bound.Begin (Ok next.Strange) todo_is on = absurd on
  comes statement (Ok (next.Goes w)) todo_is on = other_comes statement w (record { takes_is = refl; says_is = λ commits. refl }) todo_is on.0 on.1
  comes statement (Ok (next.Says w s)) todo_is on = absurd on
  comes statement (Ok next.Strange) todo_is on = absurd on
  comes statement (Err e) todo_is on = (record { left = refl; answers = on.answers }, record { no_end = refl; entries = λ strange commits. inl (unsaid_so commits statement) })

-- ---- the node as it stands

abbrev BegunBy : Core → Core → TidSet → Reply → Result Next NoMemory → List Bound → Type 0
BegunBy old new seen told result todo =
    ComesTo old.layout old.catalog (at_todo old todo (Noted seen)) (manager_says told) told new (began_mark told) result

pub begun_comes : (old new : Core) (txn : Txn) (told : Reply) (seen : TidSet) (result : Result Next NoMemory) (present : HasPresent old (λ statement. Unit {0})) (begun : HasBegun txn told)
    (floor : TidSet) → began_floor (manager_says told) ≡ Some floor → EntersBy present.statement old floor txn.phase new result
    → ComesTo old.layout old.catalog (node_so old (Noted seen)) (manager_says told) told new (began_mark told) result
begun_comes old new txn told seen result present begun floor heard on =
    subst (BegunBy old new seen told result) (sym present.todo_is)
    (subst (λ (r : Reply). BegunBy old new seen r result (present.statement ∷ present.later)) (sym begun.told_is)
    (comes old new seen present.later begun.tid begun.snapshot begun.floor begun.not_odd present.statement result present.todo_is
    (subst (λ (set : TidSet). EntersBy present.statement old set (phase.Ready (opened begun.tid begun.snapshot)) new result) same
    (subst (λ (p : Phase). EntersBy present.statement old floor p new result) begun.phase_is on))))
  where
    same : floor ≡ begun.floor
    same = let e : ◌≡◌ {A = Option TidSet} (Some begun.floor) (Some floor) = subst (λ (r : Reply). began_floor (manager_says r) ≡ Some floor) begun.told_is heard in cc

pub not_strange : (txn : Txn) (told : Reply) → HasBegun txn told → began_floor (manager_says told) ≡ None → ⊥
not_strange txn told begun none =
    let e : ◌≡◌ {A = Option TidSet} (Some begun.floor) None = subst (λ (r : Reply). began_floor (manager_says r) ≡ None) begun.told_is none in cc
