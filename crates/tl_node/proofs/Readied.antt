-- What a mark makes ready on the way to the end of a transaction.
use Rattle.std.proofs.Common.{◌≡◌, ◌⊎◌, inl, inr, ℕ, Bool, true, false, None, Result, Ok, refl, sym, ap, subst}
use Rattle.tl_base.specs.declared.memory.NoMemory.{NoMemory}
use Rattle.tl_manager.specs.declared.mark.Mark.{Mark}
use Rattle.tl_manager.specs.declared.mark.Mark.TheVariants as mark
use Rattle.tl_protocol.specs.Next.{end_answer}
use Rattle.tl_protocol.specs.World as protocol
use Rattle.tl_txn.specs.Calls.{conflict_in}
use Rattle.tl_txn.specs.declared.txn.Txn.{Txn}
use Rattle.tl_node.specs.Ends.{IsReadied, Readies, ReadiesAnswer}
use Rattle.tl_node.specs.View.{stage_of}
use Rattle.tl_node.specs.declared.kept.Core.{Core}
use Rattle.tl_node.specs.declared.work.Course.TheVariants as course
use Rattle.tl_node.specs.declared.work.Next.{Next}
use Rattle.tl_node.specs.declared.work.Next.TheVariants as next
use Rattle.tl_node.specs.declared.work.Stage.{Stage}
use Rattle.tl_node.specs.declared.work.Work.TheVariants as work
use Rattle.tl_node.proofs.Ending.{committed_ready, undone_ready, way_ready}

-- the transaction isn't finished with this mark
abbrev pub is_way : Mark → Bool
is_way (mark.Committed tid) = false
is_way (mark.Undone tid) = false
is_way other = true

-- the marks that are taken together
abbrev pub IsWay : Mark → Type 0
IsWay m =
    (m ≡ mark.Quiet) ⊎ ((m ≡ mark.Asked) ⊎ (((x : ℕ) × (m ≡ mark.Began x)) ⊎ (((x : ℕ) × (m ≡ mark.Tried x))
    ⊎ (((x : ℕ) × (y : ℕ) × (z : ℕ) × (m ≡ mark.Clashed x y z)) ⊎ (m ≡ mark.Answered)))))

pub way_so : (m : Mark) → IsWay m → is_way m ≡ true
way_so m (inl e) = ap is_way e
way_so m (inr (inl e)) = ap is_way e
way_so m (inr (inr (inl e))) = ap is_way e.1
way_so m (inr (inr (inr (inl e)))) = ap is_way e.1
way_so m (inr (inr (inr (inr (inl e))))) = ap is_way e.3
way_so m (inr (inr (inr (inr (inr e))))) = ap is_way e

pub commit_readied : (old new : Core) (txn : Txn) (stage : Stage) (tid : ℕ) (m : Mark) (result : Result Next NoMemory) → m ≡ mark.Committed tid
    → ReadiesAnswer old txn stage (end_answer (stage_of stage) protocol.Commit) new result → Readies old txn stage m new result
commit_readied old new txn stage tid m result e h =
    subst (λ (x : Mark). Readies old txn stage x new result) (sym e) (committed_ready old new txn stage tid result h)

pub undo_readied : (old new : Core) (txn : Txn) (stage : Stage) (tid : ℕ) (m : Mark) (result : Result Next NoMemory) → m ≡ mark.Undone tid
    → ReadiesAnswer old txn stage (end_answer (stage_of stage) (protocol.Undo (conflict_in txn.phase))) new result → Readies old txn stage m new result
undo_readied old new txn stage tid m result e h =
    subst (λ (x : Mark). Readies old txn stage x new result) (sym e) (undone_ready old new txn stage tid result h)

none_readied_so : (old : Core) (txn : Txn) (stage : Stage) (m : Mark) → is_way m ≡ true → IsReadied old txn stage m None
none_readied_so old txn stage (mark.Committed tid) e = absurd cc
none_readied_so old txn stage (mark.Undone tid) e = absurd cc
none_readied_so old txn stage other e = refl

pub way_readied : (old : Core) (txn : Txn) (stage : Stage) (m : Mark) (x : Next) → is_way m ≡ true
    → x ≡ next.Goes (work.Runs (record { txn = txn; stage = stage; course = course.Ends None })) → Readies old txn stage m old (Ok x)
way_readied old txn stage m x e f = way_ready old txn stage m x (none_readied_so old txn stage m e) f
