-- A node takes the reply to the one request of a statement without reads.
use Rattle.std.proofs.Common.{◌≡◌, true, ◌||◌, inl, List, [], ◌∷◌, Some, None, Result, Ok, Err, refl, sym, ap, ◌∙◌, subst}
use Rattle.tl_base.specs.declared.memory.NoMemory.{NoMemory}
use Rattle.tl_base.specs.declared.place.Settings.{Settings}
use Rattle.tl_descriptor.specs.Tids.{TidSet}
use Rattle.tl_schema.specs.declared.catalog.Catalog.{Catalog}
use Rattle.tl_manager.specs.declared.mark.Mark.TheVariants as mark
use Rattle.tl_manager.specs.declared.request.ManagerReply.TheVariants as manager
use Rattle.tl_manager.specs.declared.request.Reply.{Reply}
use Rattle.tl_isolation.specs.declared.bound.Bound.{Bound}
use Rattle.tl_isolation.specs.declared.bound.Bound.TheVariants as bound
use Rattle.tl_isolation.specs.declared.entry.Answer.{Answer}
use Rattle.tl_isolation.specs.declared.entry.Answer.TheVariants as answer
use Rattle.tl_isolation.specs.declared.state.Commit.{Commit}
use Rattle.tl_protocol.specs.World.{Txn}
use Rattle.tl_journal.specs.Ask.{Heard, Told}
use Rattle.tl_journal.specs.Asks.{Course, ToIdle, course_in}
use Rattle.tl_journal.specs.Memory.{unsaid}
use Rattle.tl_journal.specs.Node.{Inside, Node}
use Rattle.tl_journal.specs.Says.{says_at, says_idle, says_inside}
use Rattle.tl_journal.specs.Strange.{is_odd_for, is_stopped, is_strange_to}
use Rattle.tl_journal.specs.Takes.{stopped, takes_idle, takes_inside}
use Rattle.tl_ask.specs.Hears.{hears_manager}
use Rattle.tl_txn.specs.Doing.{txn_in}
use Rattle.tl_txn.specs.declared.phase.Open.{Open}
use Rattle.tl_txn.specs.declared.phase.Phase.TheVariants as phase
use Rattle.tl_txn.specs.declared.txn.Txn.{Txn as TheTxn}
use Rattle.tl_node.specs.After.{ComesTo, Stays, at_todo}
use Rattle.tl_node.specs.Fits.{HasPresent, IsOwn}
use Rattle.tl_node.specs.Hears.{floor_heard}
use Rattle.tl_node.specs.Leaves.{IsUnanswered, learns}
use Rattle.tl_node.specs.ReadOn.{Idles, IdlesBy}
use Rattle.tl_node.specs.View.{node_so, stage_of}
use Rattle.tl_node.specs.declared.kept.Core.{Core}
use Rattle.tl_node.specs.declared.work.Next.{Next}
use Rattle.tl_node.specs.declared.work.Next.TheVariants as next
use Rattle.tl_node.specs.declared.work.Stage.{Stage}
use Rattle.tl_node.proofs.Idling.{idle_comes}
use Rattle.tl_node.proofs.OutsideReplies.{floor_told}

stops_idle : (settings : Settings) (catalog : Catalog) (n : Node) (statement : Bound) (t : Txn) (sound : Heard) (told : Answer) → floor_heard sound ≡ None
    → takes_idle settings catalog n statement t sound told ≡ stopped n
stops_idle settings catalog n statement t (Told (manager.FloorIs floor)) told e = cc
stops_idle settings catalog n statement t (Told other) told e = refl
stops_idle settings catalog n statement t sound told e = refl

unsaid_idle : (n : Node) (statement : Bound) (t : Txn) (floor : TidSet) (told : Answer) → unsaid (says_idle n statement t (Told (manager.FloorIs floor)) told) ≡ []
unsaid_idle n bound.Begin t floor told = refl
unsaid_idle n (bound.Recover gone) t floor told = refl
unsaid_idle n statement t floor told = refl

module _ (old : Core) (statement : Bound) (later : List Bound) (t : Txn) (e : course_in old.catalog t.stage statement ≡ ToIdle) where
  strange_idle : (sound : Heard) → floor_heard sound ≡ None → is_strange_to old.layout old.catalog (at_todo old (statement ∷ later) (Inside t)) sound ≡ true
  strange_idle sound none =
      ap
      (λ (c : Course).
      is_stopped (takes_inside old.layout old.catalog (at_todo old (statement ∷ later) (Inside t)) statement t c sound answer.Begun).doing || is_odd_for (Inside t) sound) e
      ∙ ap (λ (m : Node). is_stopped m.doing || is_odd_for (Inside t) sound)
      (stops_idle old.layout old.catalog (at_todo old (statement ∷ later) (Inside t)) statement t sound answer.Begun none)

  wants_idle : (commits : List Commit) (floor : TidSet)
      → unsaid (says_at old.layout old.catalog commits (at_todo old (statement ∷ later) (Inside t)) (Told (manager.FloorIs floor)) answer.Begun) ≡ []
  wants_idle commits floor =
      ap (λ (c : Course). unsaid (says_inside old.layout (at_todo old (statement ∷ later) (Inside t)) statement t c (Told (manager.FloorIs floor)) answer.Begun)) e
      ∙ unsaid_idle (at_todo old (statement ∷ later) (Inside t)) statement t floor answer.Begun

-- what is to be shown, where these statements are left
abbrev IdlesTo : Core → Core → Txn → Reply → List Bound → Heard → Result Next NoMemory → Type 0
IdlesTo old new t told todo sound result = ComesTo old.layout old.catalog (at_todo old todo (Inside t)) sound told new mark.Quiet result

module _ (old : Core) (said : Stage) (live : Open) (told : Reply) (present : HasPresent old (λ statement. course_in old.catalog (stage_of said) statement ≡ ToIdle)) where
  pub idle_takes : (new : Core) (txn : TheTxn) (floor : TidSet) (result : Result Next NoMemory) → txn.phase ≡ phase.Ready live → Some floor ≡ floor_heard (hears_manager told)
      → IdlesBy old floor txn said new result
      → ComesTo old.layout old.catalog (node_so old (Inside (txn_in (stage_of said) live))) (hears_manager told) told new mark.Quiet result
  idle_takes new txn floor result is e on =
      subst (λ (todo : List Bound). IdlesTo old new (txn_in (stage_of said) live) told todo (hears_manager told) result) (sym present.todo_is)
      (subst (λ (sound : Heard). IdlesTo old new (txn_in (stage_of said) live) told (present.statement ∷ present.later) sound result) (sym (floor_told (hears_manager told) floor (sym e)))
      (by result on))
    where
      by : (result : Result Next NoMemory) → IdlesBy old floor txn said new result
          → IdlesTo old new (txn_in (stage_of said) live) told (present.statement ∷ present.later) (Told (manager.FloorIs floor)) result
      by (Ok next) idles =
          idles (at_todo old (present.statement ∷ present.later) (Inside (txn_in (stage_of said) live))) (Told (manager.FloorIs floor)) told present.statement present.later live is present.todo_is
          (idle_comes old present.statement present.later (txn_in (stage_of said) live) floor present.holds)
      by (Err fault) kept = (
        record { left = refl; answers = kept.answers },
        record {
          no_end = refl;
          entries = λ strange commits. inl (wants_idle old present.statement present.later (txn_in (stage_of said) live) present.holds commits floor);
        },
      )

  pub idle_strange : None ≡ floor_heard (hears_manager told)
      → ComesTo old.layout old.catalog (node_so old (Inside (txn_in (stage_of said) live))) (hears_manager told) told old mark.Quiet (Ok next.Strange)
  idle_strange e =
      subst (λ (todo : List Bound). IdlesTo old old (txn_in (stage_of said) live) told todo (hears_manager told) (Ok next.Strange)) (sym present.todo_is) (
        record { left = refl; answers = refl },
        strange_idle old present.statement present.later (txn_in (stage_of said) live) present.holds (hears_manager told) (sym e),
      )

-- the low-water mark is noted, and the statement said
pub learnt_idle : (old mid new : Core) (floor : TidSet) (txn : TheTxn) (said : Stage) (result : Result Next NoMemory) → mid ≡ learns old floor
    → Idles mid txn said new result → new ≡ record mid { answers = new.answers } → ((e : NoMemory) → result ≡ Err e → new.answers.items ≡ mid.answers.items)
    → IdlesBy old floor txn said new result
learnt_idle old mid new floor txn said (Ok next) e idles rest kept = subst (λ (c : Core). Idles c txn said new (Ok next)) e idles
learnt_idle old mid new floor txn said (Err fault) e idles rest kept =
    let same : new ≡ record (learns old floor) { answers = new.answers } = rest ∙ ap (λ (c : Core). record c { answers = new.answers }) e in
    record {
      stays = record {
        layout = ap (λ (c : Core). c.layout) same;
        catalog = ap (λ (c : Core). c.catalog) same;
        statements = ap (λ (c : Core). c.statements) same;
        number = ap (λ (c : Core). c.number) same;
      };
      answers = kept fault refl ∙ ap (λ (c : Core). c.answers.items) e;
    }

pub learnt_stays : (old mid new : Core) (floor : TidSet) → mid ≡ learns old floor → new ≡ record mid { answers = new.answers } → Stays old new
learnt_stays old mid new floor e rest =
    let same : new ≡ record (learns old floor) { answers = new.answers } = rest ∙ ap (λ (c : Core). record c { answers = new.answers }) e in
    record {
      layout = ap (λ (c : Core). c.layout) same;
      catalog = ap (λ (c : Core). c.catalog) same;
      statements = ap (λ (c : Core). c.statements) same;
      number = ap (λ (c : Core). c.number) same;
    }

pub learnt_own : (old mid : Core) (floor : TidSet) → mid ≡ learns old floor → (txn : TheTxn) → IsOwn old txn → IsOwn mid txn
learnt_own old mid floor e txn own =
    record { layout = own.layout ∙ sym (ap (λ (c : Core). c.layout) e); node = own.node ∙ sym (ap (λ (c : Core). c.number) e) }

pub unlearnt : (old new : Core) → new ≡ old → IsUnanswered old new
unlearnt old new same =
    record {
      stays = record {
        layout = ap (λ (c : Core). c.layout) same;
        catalog = ap (λ (c : Core). c.catalog) same;
        statements = ap (λ (c : Core). c.statements) same;
        number = ap (λ (c : Core). c.number) same;
      };
      answers = ap (λ (c : Core). c.answers.items) same;
    }
