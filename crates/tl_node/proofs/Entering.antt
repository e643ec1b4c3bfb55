-- A transaction enters its present statement: BEGIN is answered, another one is opened.
use Rattle.std.proofs.Common.{◌≡◌, ◌+◌, true, false, List, [], ◌∷◌, ◌++◌, length, Option, Some, None, Result, Ok, Err, refl, sym, ap, ◌∙◌, subst}
use Rattle.std.specs.Prelude.{slice_get}
use Rattle.tl_base.specs.declared.memory.NoMemory.{NoMemory}
use Rattle.tl_descriptor.specs.Tids.{TidSet}
use Rattle.tl_isolation.specs.declared.bound.Bound.{Bound}
use Rattle.tl_isolation.specs.declared.bound.Bound.TheVariants as bound
use Rattle.tl_isolation.specs.declared.entry.Answer.{Answer}
use Rattle.tl_isolation.specs.declared.entry.Answer.TheVariants as answer
use Rattle.tl_isolation.specs.declared.entry.Said.{Said}
use Rattle.tl_txn.specs.declared.phase.Phase.{Phase}
use Rattle.tl_txn.specs.declared.txn.Txn.{Txn}
use Rattle.tl_node.specs.After.{Opens, Stays}
use Rattle.tl_node.specs.Begun.{AnswersOn, Enters, EntersBy}
use Rattle.tl_node.specs.Fits.{IsOwn}
use Rattle.tl_node.specs.Leaves.{IsKept, IsUnanswered, learns}
use Rattle.tl_node.specs.Present.{is_begin}
use Rattle.tl_node.specs.declared.kept.Core.{Core}
use Rattle.tl_node.specs.declared.work.Next.{Next}
use Rattle.tl_node.specs.declared.work.Next.TheVariants as next
use Rattle.tl_node.specs.declared.work.Stage.{Stage}
use Rattle.tl_node.specs.declared.work.Stage.TheVariants as stage
use Rattle.tl_node.specs.declared.work.Work.{Work}

pub stays_rest : (old new : Core) → new ≡ record old { answers = new.answers } → Stays old new
stays_rest old new rest =
    record {
      layout = ap (λ (c : Core). c.layout) rest;
      catalog = ap (λ (c : Core). c.catalog) rest;
      statements = ap (λ (c : Core). c.statements) rest;
      number = ap (λ (c : Core). c.number) rest;
    }

module _ (old new : Core) (so_far : Phase) where
  -- the present statement is answered: room for the answer was taken first
  pub says_so : (mid : Core) (told : Answer) (said : Stage) (w : Work) (s : Said) → mid ≡ record old { answers = mid.answers } → mid.answers.items ≡ old.answers.items
      → s ≡ record { statement = length old.answers.items + 1; answer = told; answered = true } → new ≡ record mid { answers = new.answers }
      → new.answers.items ≡ mid.answers.items ++ told ∷ [] → Opens mid (length mid.answers.items + 1) so_far said w
      → AnswersOn old told so_far said new (Ok (next.Says w s))
  says_so mid told said w s rest kept is later pushed opens = record {
    rest = later ∙ ap (λ (c : Core). record c { answers = new.answers }) rest;
    answers = pushed ∙ ap (λ (xs : List Answer). xs ++ told ∷ []) kept;
    said_is = is;
    opens =
        subst (λ (c : Core). Opens c (length old.answers.items + 1) so_far said w) rest
        (subst (λ (xs : List Answer). Opens mid (length xs + 1) so_far said w) kept opens);
  }

  pub enters_begin : (statement : Bound) (result : Result Next NoMemory) → statement ≡ bound.Begin → AnswersOn old answer.Begun so_far stage.Opened new result
      → Enters statement old so_far new result
  enters_begin statement result e = subst (λ (s : Bound). Enters s old so_far new result) (sym e)

  pub enters_wanting : (statement : Bound) (fault : NoMemory) → IsKept old new → Enters statement old so_far new (Err fault)
  enters_wanting bound.Begin fault kept = kept
  enters_wanting statement fault kept = kept

  wanting_kept : (statement : Bound) (fault : NoMemory) → Enters statement old so_far new (Err fault) → IsKept old new
  wanting_kept bound.Begin fault kept = kept
  wanting_kept statement fault kept = kept

  enters_by : (floor : TidSet) (statement : Bound) (result : Result Next NoMemory) → new ≡ record (learns old floor) { answers = new.answers }
      → Enters statement (learns old floor) so_far new result → EntersBy statement old floor so_far new result
  enters_by floor statement (Ok n) rest on = on
  enters_by floor statement (Err fault) rest on = by statement on
    where
      stays : Stays old new
      stays = let s : Stays (learns old floor) new = stays_rest (learns old floor) new rest in
          record { layout = s.layout; catalog = s.catalog; statements = s.statements; number = s.number }

      by : (statement : Bound) → Enters statement (learns old floor) so_far new (Err fault) → IsUnanswered old new
      by bound.Begin kept = record { stays = stays; answers = kept.answers }
      by statement kept = record { stays = stays; answers = kept.answers }

pub begin_so : (statement : Bound) → is_begin statement ≡ true → statement ≡ bound.Begin
begin_so bound.Begin e = refl
begin_so statement e = cc

pub enters_other : (old : Core) (so_far : Phase) (statement : Bound) (w : Work) → is_begin statement ≡ false → Opens old (length old.answers.items) so_far stage.Fresh w
    → Enters statement old so_far old (Ok (next.Goes w))
enters_other old so_far bound.Begin w other opens = cc
enters_other old so_far statement w other opens = (refl, opens)

-- what holds of the statement in hand holds of the present one
pub of_present : (P : Bound → Type 0) (o : Option Bound) (present : Bound) → Some present ≡ o → P present → (statement : Bound) → o ≡ Some statement → P statement
of_present P o present here h statement e =
    let both : Some present ≡ Some statement = here ∙ e in
    let same : present ≡ statement = cc in
    subst P same h

pub of_none : (P : Bound → Type 0) (o : Option Bound) → None ≡ o → (statement : Bound) → o ≡ Some statement → P statement
of_none P o none statement e =
    let both : ◌≡◌ {A = Option Bound} None (Some statement) = none ∙ e in
    cc

-- no answer stands where the mark could not be kept
pub unlearnt : (old new : Core) → new ≡ old → IsUnanswered old new
unlearnt old new same =
    subst (λ (c : Core). IsUnanswered old c) (sym same) (record { stays = record { layout = refl; catalog = refl; statements = refl; number = refl }; answers = refl })

-- its manager's low-water mark is known
module _ (old mid new : Core) (floor : TidSet) (e : mid ≡ learns old floor) where
  pub learnt_own : (txn : Txn) → IsOwn old txn → IsOwn mid txn
  learnt_own txn own = subst (λ (c : Core). IsOwn c txn) (sym e) (record { layout = own.layout; node = own.node })

  pub learnt_enters : (so_far : Phase) (result : Result Next NoMemory) → new ≡ record mid { answers = new.answers }
      → ((statement : Bound) → slice_get mid.statements (length mid.answers.items) ≡ Some statement → Enters statement mid so_far new result)
      → (statement : Bound) → slice_get old.statements (length old.answers.items) ≡ Some statement → EntersBy statement old floor so_far new result
  learnt_enters so_far result rest on statement is =
      enters_by old new so_far floor statement result (subst (λ (c : Core). new ≡ record c { answers = new.answers }) e rest)
      (subst (λ (c : Core). (s : Bound) → slice_get c.statements (length c.answers.items) ≡ Some s → Enters s c so_far new result) e on statement is)

  pub learnt_stays : new ≡ record mid { answers = new.answers } → Stays old new
  learnt_stays rest =
      let s : Stays (learns old floor) new = stays_rest (learns old floor) new (subst (λ (c : Core). new ≡ record c { answers = new.answers }) e rest) in
      record { layout = s.layout; catalog = s.catalog; statements = s.statements; number = s.number }
