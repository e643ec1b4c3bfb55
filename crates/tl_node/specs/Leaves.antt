-- A statement is answered, and its node goes on outside a transaction.
use Rattle.std.specs.Prelude.{◌≡◌, ℕ, ◌+◌, true, [], ◌∷◌, ◌++◌, Result, Ok, Err, length, slice_set}
use Rattle.tl_base.specs.NodeSet.{with_node}
use Rattle.tl_base.specs.declared.memory.NoMemory.{NoMemory}
use Rattle.tl_base.specs.declared.node.NodeSet.{NodeSet}
use Rattle.tl_descriptor.specs.Tids.{TidSet}
use Rattle.tl_isolation.specs.declared.entry.Answer.{Answer}
use Rattle.tl_isolation.specs.declared.entry.Answer.TheVariants as answer
use Rattle.tl_isolation.specs.declared.entry.Said.{Said}
use Rattle.tl_journal.specs.Bytes.{home_of}
use Rattle.tl_recover.specs.Heeds.{IsStarted}
use Rattle.tl_node.specs.After.{Stays}
use Rattle.tl_node.specs.Fits.{IsOpening}
use Rattle.tl_node.specs.declared.kept.Core.{Core}
use Rattle.tl_node.specs.declared.work.Next.{Next}
use Rattle.tl_node.specs.declared.work.Next.TheVariants as next
use Rattle.tl_node.specs.declared.work.Outside.{Outside as TheOutside}
use Rattle.tl_node.specs.declared.work.Work.{Work}
use Rattle.tl_node.specs.declared.work.Work.TheVariants as work

-- the answer stands, is told, and the next statement begins
pub record LeavesSo (old : Core) (told : Answer) (new : Core) (o : TheOutside) (said : Said) : Type 0 where
  pub rest : new ≡ record old { answers = new.answers }
  pub answers : new.answers.items ≡ old.answers.items ++ told ∷ []
  pub said_is : said ≡ record { statement = length old.answers.items + 1; answer = told; answered = true }
  pub following : IsOpening old (length old.answers.items + 1) o

-- no answer stands
pub record IsKept (old new : Core) : Type 0 where
  pub rest : new ≡ record old { answers = new.answers }
  pub answers : new.answers.items ≡ old.answers.items

abbrev pub Leaves : Core → Answer → Core → Result Next NoMemory → Type 0
Leaves old told new (Ok (next.Says (work.Outside o) said)) = LeavesSo old told new o said
Leaves old told new (Ok other) = ⊥
Leaves old told new (Err e) = IsKept old new

-- its manager's low-water mark is known to the node
abbrev pub learns : Core → TidSet → Core
learns old floor = record old { floors = slice_set old.floors (home_of old.layout old.number) floor }

-- no answer stands, whether the mark is known or not
pub record IsUnanswered (old new : Core) : Type 0 where
  pub stays : Stays old new
  pub answers : new.answers.items ≡ old.answers.items

-- COMMIT or ROLLBACK is answered
abbrev pub Learns : Core → TidSet → Core → Result Next NoMemory → Type 0
Learns old floor new (Ok next) = Leaves (learns old floor) answer.Outside new (Ok next)
Learns old floor new (Err e) = IsUnanswered old new

-- the recovery of the node that was claimed, with these
abbrev pub Recovers : Core → ℕ → NodeSet → Work → Type 0
Recovers core gone also (work.Recovers node recover) = (node ≡ gone) × IsStarted core.layout (with_node also gone) recover
Recovers core gone also other = ⊥
