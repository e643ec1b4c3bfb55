-- All is read: the present statement is answered by what was found, and said.
use Rattle.std.proofs.Common.{◌≡◌, ℕ, zero, suc, List, [], ◌∷◌, length, drop, Some, Result, Err, refl, ap, ◌∙◌, subst}
use Rattle.std.specs.Prelude.{slice_get}
use Rattle.tl_base.specs.declared.memory.NoMemory.{NoMemory}
use Rattle.tl_values.specs.declared.value.Value.{Value}
use Rattle.tl_write.specs.declared.write.Write.{Write}
use Rattle.tl_isolation.specs.declared.bound.Bound.{Bound}
use Rattle.tl_isolation.specs.declared.entry.Answer.{Answer}
use Rattle.tl_journal.specs.Takes.{Means, own_said}
use Rattle.tl_txn.specs.Calls.{IsReady, own_in, with_own}
use Rattle.tl_txn.specs.Doing.{txn_in}
use Rattle.tl_txn.specs.declared.phase.Phase.{Phase}
use Rattle.tl_txn.specs.declared.phase.Phase.TheVariants as phase
use Rattle.tl_txn.specs.declared.txn.Txn.{Txn}
use Rattle.tl_node.specs.Fits.{OwnSuitsStatement}
use Rattle.tl_node.specs.ReadOn.{SaysFound}
use Rattle.tl_node.specs.Saying.{IsAnswered, SaidSo, tables_found}
use Rattle.tl_node.specs.View.{stage_of}
use Rattle.tl_node.specs.declared.kept.Core.{Core}
use Rattle.tl_node.specs.declared.work.Next.{Next}
use Rattle.tl_node.specs.declared.work.Stage.{Stage}
use Rattle.tl_node.proofs.Saying.{said_comes, says_wants}

module _ {A : Type 0} where
  pub first_left : (k : ℕ) (xs : List A) (x : A) (ys : List A) → drop k xs ≡ x ∷ ys → slice_get xs k ≡ Some x
  first_left zero [] x ys e = cc
  first_left zero (z ∷ zs) x ys e = let f : z ≡ x = cc in ap (λ (y : A). Some y) f
  first_left (suc k) [] x ys e = cc
  first_left (suc k) (z ∷ zs) x ys e = first_left k zs x ys e

-- a transaction that is ready has the own writes that it has
pub own_stays : (txn : Txn) → IsReady txn.phase → txn ≡ record txn { phase = with_own txn.phase (own_in txn.phase) }
own_stays txn ready = ap (λ (p : Phase). record txn { phase = p }) (by txn.phase ready)
  where
    by : (p : Phase) → IsReady p → p ≡ with_own p (own_in p)
    by (phase.Ready live) h = refl
    by other h = absurd h

pub say_found : (old new : Core) (txn after : Txn) (said : Stage) (found : List (List (List Value))) (told : Answer) (result : Result Next NoMemory)
    → ((statement : Bound) → slice_get old.statements (length old.answers.items) ≡ Some statement → IsAnswered old.catalog statement found txn after told)
    → SaidSo said old told after.phase new result → SaysFound old txn said found new result
say_found old new txn after said found told result answers on = λ n sound r statement later live tables is takes todo_is nexts are.
    let a : IsAnswered old.catalog statement found txn after told = answers statement (first_left (length old.answers.items) old.statements statement later todo_is) in
    let own_is : own_in txn.phase ≡ live.own = ap (λ (p : Phase). own_in p) is in
    said_comes old new n sound r statement later live tables found a.own after.phase
    (ap (λ (x : Txn). x.phase) a.after_is ∙ ap (λ (p : Phase). with_own p a.own) is) todo_is are
    (subst (λ (own : List Write). OwnSuitsStatement old.catalog statement own → a.own ≡ own_said old.catalog statement own (tables_found statement found)) own_is a.own_is)
    said told result takes nexts
    (subst (λ (own : List Write). OwnSuitsStatement old.catalog statement own → Means old.catalog statement own (tables_found statement found) told) own_is a.means) on

-- memory was wanted for the answer
pub say_wants : (old new : Core) (txn : Txn) (said : Stage) (found : List (List (List Value))) (e : NoMemory) → new.answers.items ≡ old.answers.items
    → SaysFound old txn said found new (Err e)
say_wants old new txn said found e kept = λ n sound r statement later live tables is takes todo_is nexts are.
    says_wants old new n sound r statement later (txn_in (stage_of said) live) tables e nexts kept
