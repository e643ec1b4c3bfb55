-- The end of a transaction: its answer is made ready, and stands.
use Rattle.std.specs.Prelude.{◌≡◌, ℕ, ◌+◌, [], ◌∷◌, ◌++◌, Option, Some, None, Result, Ok, Err, slice_set}
use Rattle.tl_base.specs.declared.memory.NoMemory.{NoMemory}
use Rattle.tl_collect.specs.Floors.{least_of}
use Rattle.tl_descriptor.specs.Tids.{TidSet}
use Rattle.tl_manager.specs.declared.mark.Mark.{Mark}
use Rattle.tl_manager.specs.declared.mark.Mark.TheVariants as mark
use Rattle.tl_isolation.specs.declared.entry.Answer.{Answer}
use Rattle.tl_isolation.specs.declared.entry.Said.{Said}
use Rattle.tl_protocol.specs.Next.{end_answer}
use Rattle.tl_protocol.specs.World.{Commit, Undo}
use Rattle.tl_ask.specs.Asked.{asked}
use Rattle.tl_txn.specs.Calls.{ask_commit, commits, conflict_in}
use Rattle.tl_txn.specs.declared.txn.Txn.{Txn}
use Rattle.tl_node.specs.Fits.{FitsLast}
use Rattle.tl_node.specs.Leaves.{IsKept, IsUnanswered}
use Rattle.tl_node.specs.View.{stage_of}
use Rattle.tl_node.specs.declared.kept.Core.{Core}
use Rattle.tl_node.specs.declared.work.Course.TheVariants as course
use Rattle.tl_node.specs.declared.work.Last.{Last}
use Rattle.tl_node.specs.declared.work.Next.{Next}
use Rattle.tl_node.specs.declared.work.Next.TheVariants as next
use Rattle.tl_node.specs.declared.work.Outside.{Outside as TheOutside}
use Rattle.tl_node.specs.declared.work.Stage.{Stage}
use Rattle.tl_node.specs.declared.work.Work.TheVariants as work

-- the last answer stands, and the next statement begins
pub record EndsSo (old : Core) (last : Last) (new : Core) (o : TheOutside) (said : Said) : Type 0 where
  pub rest : new ≡ record old { answers = new.answers }
  pub answers : new.answers.items ≡ old.answers.items ++ last.kept ∷ []
  pub said_is : said ≡ last.said
  pub following_is : o ≡ last.following

abbrev pub EndsWith : Core → Last → Core → Next → Type 0
EndsWith old last new (next.Says (work.Outside o) said) = EndsSo old last new o said
EndsWith old last new other = ⊥

-- the answer is ready
abbrev pub Reserves : Core → Answer → Core → Result Last NoMemory → Type 0
Reserves old told new (Ok last) = IsKept old new × FitsLast new told last
Reserves old told new (Err e) = IsKept old new

-- the node goes on to the end with this answer ready
pub record GoesWithLast (old : Core) (txn : Txn) (stage : Stage) (told : Answer) (new : Core) (n : Next) : Type 0 where
  pub kept : IsKept old new
  pub last : Last
  pub next_is : n ≡ next.Goes (work.Runs (record { txn = txn; stage = stage; course = course.Ends (Some last) }))
  pub fits : FitsLast new told last

abbrev pub ReadiesAnswer : Core → Txn → Stage → Answer → Core → Result Next NoMemory → Type 0
ReadiesAnswer old txn stage told new (Ok n) = GoesWithLast old txn stage told new n
ReadiesAnswer old txn stage told new (Err e) = IsKept old new

-- what the mark makes ready
abbrev pub IsReadied : Core → Txn → Stage → Mark → Option Last → Type 0
IsReadied new txn stage (mark.Committed tid) (Some last) = FitsLast new (end_answer (stage_of stage) Commit) last
IsReadied new txn stage (mark.Committed tid) None = ⊥
IsReadied new txn stage (mark.Undone tid) (Some last) = FitsLast new (end_answer (stage_of stage) (Undo (conflict_in txn.phase))) last
IsReadied new txn stage (mark.Undone tid) None = ⊥
IsReadied new txn stage other last = last ≡ None

pub record GoesToEnd (old : Core) (txn : Txn) (stage : Stage) (m : Mark) (new : Core) (n : Next) : Type 0 where
  pub kept : IsKept old new
  pub last : Option Last
  pub next_is : n ≡ next.Goes (work.Runs (record { txn = txn; stage = stage; course = course.Ends last }))
  pub readied : IsReadied new txn stage m last

abbrev pub Readies : Core → Txn → Stage → Mark → Core → Result Next NoMemory → Type 0
Readies old txn stage m new (Ok n) = GoesToEnd old txn stage m new n
Readies old txn stage m new (Err e) = IsKept old new

-- ---- another manager's low-water mark

-- it is known to the node, which asked once more
abbrev pub learns_other : Core → ℕ → TidSet → Core
learns_other old manager floor = record old { floors = slice_set old.floors manager floor; asked_others = old.asked_others + 1 }

-- the transaction commits with the least of the low-water marks that the node knows
abbrev pub committing : Core → Txn → Txn
committing core txn =
    record txn {
      phase = commits txn.node (least_of core.floors) txn.phase;
      next = Some (asked txn.layout (ask_commit txn.node (least_of core.floors) txn.phase));
    }

abbrev pub CommitsWith : Core → Txn → Stage → ℕ → TidSet → Core → Result Next NoMemory → Type 0
CommitsWith old txn stage manager floor new (Ok n) =
    (new ≡ learns_other old manager floor)
    × (n ≡ next.Goes (work.Runs (record { txn = committing (learns_other old manager floor) txn; stage = stage; course = course.Ends None })))
CommitsWith old txn stage manager floor new (Err e) = IsUnanswered old new
