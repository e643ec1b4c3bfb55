-- A transaction has begun, and what was said in it is answered.
use Rattle.std.specs.Prelude.{◌≡◌, ℕ, ◌+◌, true, false, [], ◌∷◌, ◌++◌, Option, Some, None, Result, Ok, Err, length}
use Rattle.tl_base.specs.declared.memory.NoMemory.{NoMemory}
use Rattle.tl_descriptor.specs.Tids.{TidSet}
use Rattle.tl_isolation.specs.declared.bound.Bound.{Bound}
use Rattle.tl_isolation.specs.declared.bound.Bound.TheVariants as bound
use Rattle.tl_isolation.specs.declared.entry.Answer.{Answer}
use Rattle.tl_isolation.specs.declared.entry.Answer.TheVariants as answer
use Rattle.tl_isolation.specs.declared.entry.Said.{Said}
use Rattle.tl_manager.specs.declared.mark.Mark.{Mark}
use Rattle.tl_manager.specs.declared.mark.Mark.TheVariants as mark
use Rattle.tl_manager.specs.declared.request.ManagerReply.TheVariants as manager
use Rattle.tl_manager.specs.declared.request.Reply.{Reply}
use Rattle.tl_manager.specs.declared.request.Reply.TheVariants as reply
use Rattle.tl_journal.specs.Ask.{Heard, Told}
use Rattle.tl_journal.specs.Strange.{is_odd_begin}
use Rattle.tl_txn.specs.Taken.{opened}
use Rattle.tl_txn.specs.declared.phase.Phase.{Phase}
use Rattle.tl_txn.specs.declared.phase.Phase.TheVariants as phase
use Rattle.tl_txn.specs.declared.txn.Txn.{Txn}
use Rattle.tl_node.specs.After.{Opens}
use Rattle.tl_node.specs.Leaves.{IsKept, IsUnanswered, learns}
use Rattle.tl_node.specs.declared.kept.Core.{Core}
use Rattle.tl_node.specs.declared.work.Next.{Next}
use Rattle.tl_node.specs.declared.work.Next.TheVariants as next
use Rattle.tl_node.specs.declared.work.Stage.{Stage}
use Rattle.tl_node.specs.declared.work.Stage.TheVariants as stage
use Rattle.tl_node.specs.declared.work.Work.{Work}

-- the reply gave the transaction its number and its snapshot, neither of them odd, and told the low-water mark
pub record HasBegun (txn : Txn) (told : Reply) : Type 0 where
  pub tid : ℕ
  pub snapshot : TidSet
  pub floor : TidSet
  pub told_is : told ≡ reply.Manager (manager.Began tid snapshot floor)
  pub phase_is : txn.phase ≡ phase.Ready (opened tid snapshot)
  pub not_odd : is_odd_begin tid snapshot ≡ false

abbrev pub began_mark : Reply → Mark
began_mark (reply.Manager (manager.Began tid snapshot floor)) = mark.Began tid
began_mark other = mark.Quiet

abbrev pub began_floor : Heard → Option TidSet
began_floor (Told (manager.Began tid snapshot floor)) = Some floor
began_floor other = None

-- the present statement is answered, and the transaction goes on with the next one
pub record SaysOn (old : Core) (told : Answer) (so_far : Phase) (said : Stage) (new : Core) (w : Work) (s : Said) : Type 0 where
  pub rest : new ≡ record old { answers = new.answers }
  pub answers : new.answers.items ≡ old.answers.items ++ told ∷ []
  pub said_is : s ≡ record { statement = length old.answers.items + 1; answer = told; answered = true }
  pub opens : Opens old (length old.answers.items + 1) so_far said w

abbrev pub AnswersOn : Core → Answer → Phase → Stage → Core → Result Next NoMemory → Type 0
AnswersOn old told so_far said new (Ok (next.Says w s)) = SaysOn old told so_far said new w s
AnswersOn old told so_far said new (Ok other) = ⊥
AnswersOn old told so_far said new (Err e) = IsKept old new

-- BEGIN is answered at once; another statement is opened
abbrev pub Enters : Bound → Core → Phase → Core → Result Next NoMemory → Type 0
Enters bound.Begin old so_far new result = AnswersOn old answer.Begun so_far stage.Opened new result
Enters statement old so_far new (Ok (next.Goes w)) = (new ≡ old) × Opens old (length old.answers.items) so_far stage.Fresh w
Enters statement old so_far new (Ok other) = ⊥
Enters statement old so_far new (Err e) = IsKept old new

-- its manager's low-water mark is known from then on; no answer stands where memory was wanted
abbrev pub EntersBy : Bound → Core → TidSet → Phase → Core → Result Next NoMemory → Type 0
EntersBy statement old floor so_far new (Ok next) = Enters statement (learns old floor) so_far new (Ok next)
EntersBy statement old floor so_far new (Err e) = IsUnanswered old new
