-- A statement is said, once all is read.
use Rattle.std.specs.Prelude.{◌≡◌, ◌+◌, false, List, [], ◌∷◌, Result, Ok, Err, flat_map, length}
use Rattle.tl_base.specs.declared.memory.NoMemory.{NoMemory}
use Rattle.tl_schema.specs.declared.catalog.Catalog.{Catalog}
use Rattle.tl_values.specs.declared.value.Value.{Value}
use Rattle.tl_write.specs.declared.write.Write.{Write}
use Rattle.tl_isolation.specs.declared.bound.Bound.{Bound}
use Rattle.tl_isolation.specs.declared.bound.Bound.TheVariants as bound
use Rattle.tl_isolation.specs.declared.entry.Answer.{Answer}
use Rattle.tl_isolation.specs.declared.entry.Said.{Said}
use Rattle.tl_isolation.specs.declared.state.Commit.{Commit}
use Rattle.tl_plan.specs.Plan.{numbers_of}
use Rattle.tl_protocol.specs.Told.{says_in}
use Rattle.tl_protocol.specs.World.{Txn}
use Rattle.tl_journal.specs.Ask.{Heard}
use Rattle.tl_journal.specs.Memory.{is_ending}
use Rattle.tl_journal.specs.Node.{Outside, Node}
use Rattle.tl_journal.specs.Says.{says_at}
use Rattle.tl_journal.specs.Strange.{is_strange_to}
use Rattle.tl_journal.specs.Takes.{MayMean, Means, first_rows, own_said, said, takes, tables_seen}
use Rattle.tl_txn.specs.Calls.{own_in, with_own}
use Rattle.tl_txn.specs.declared.phase.Phase.{Phase}
use Rattle.tl_txn.specs.declared.txn.Txn.{Txn as TheTxn}
use Rattle.tl_node.specs.After.{Opens, at_todo}
use Rattle.tl_node.specs.Begun.{AnswersOn}
use Rattle.tl_node.specs.Fits.{OwnSuitsNode, OwnSuitsStatement}
use Rattle.tl_node.specs.Leaves.{IsKept}
use Rattle.tl_node.specs.declared.kept.Core.{Core}
use Rattle.tl_node.specs.declared.work.Next.{Next}
use Rattle.tl_node.specs.declared.work.Next.TheVariants as next
use Rattle.tl_node.specs.declared.work.Stage.{Stage}
use Rattle.tl_node.specs.declared.work.Stage.TheVariants as stage
use Rattle.tl_node.specs.declared.work.Work.{Work}

-- by the law this statement is said next, in this transaction, by these rows of its tables
pub record SaysNext (core : Core) (n : Node) (sound : Heard) (statement : Bound) (later : List Bound) (t : Txn) (tables : List (List (List Value))) : Type 0 where
  pub todo_is : n.todo ≡ statement ∷ later
  pub number_is : n.number ≡ core.number
  pub answers_are : n.answers ≡ core.answers.items
  pub takes_is : (told : Answer) → takes core.layout core.catalog n sound told ≡ said core.catalog (at_todo core (statement ∷ later) Outside) statement t tables told
  pub says_is : (commits : List Commit) (told : Answer)
      → says_at core.layout core.catalog commits n sound told ≡ says_in t.stage core.number (length core.answers.items + 1) statement told ∷ []
  pub means_is : (told : Answer) → Means core.catalog statement t.own tables told → MayMean core.layout core.catalog n sound told
  pub not_strange : is_strange_to core.layout core.catalog n sound ≡ false
  pub no_end : is_ending n.doing ≡ false
  pub suits : OwnSuitsNode core.catalog n → OwnSuitsStatement core.catalog statement t.own

-- the rows of all reads, one behind the other
abbrev pub all_rows : List (List (List Value)) → List (List Value)
all_rows found = flat_map (λ (rows : List (List Value)). rows) found

-- what code answers it by
abbrev pub tables_found : Bound → List (List (List Value)) → List (List (List Value))
tables_found (bound.Select query) found = found
tables_found (bound.Change edit) found = all_rows found ∷ []
tables_found statement found = found

-- it comes to the same
abbrev pub AreFound : Catalog → Bound → List Write → List (List (List Value)) → List (List (List Value)) → Type 0
AreFound catalog (bound.Select query) own tables found = tables_seen catalog (numbers_of query) own tables ≡ tables_seen catalog (numbers_of query) own found
AreFound catalog (bound.Change edit) own tables found = first_rows tables ≡ all_rows found
AreFound catalog statement own tables found = ⊥

-- the answer, and the own writes after it
pub record IsAnswered (catalog : Catalog) (statement : Bound) (found : List (List (List Value))) (before after : TheTxn) (told : Answer) : Type 0 where
  pub own : List Write
  pub after_is : after ≡ record before { phase = with_own before.phase own }
  pub own_is : OwnSuitsStatement catalog statement (own_in before.phase) → own ≡ own_said catalog statement (own_in before.phase) (tables_found statement found)
  pub means : OwnSuitsStatement catalog statement (own_in before.phase) → Means catalog statement (own_in before.phase) (tables_found statement found) told

-- its answer waits for the end
pub record SaysFirst (old : Core) (told : Answer) (so_far : Phase) (new : Core) (w : Work) (s : Said) : Type 0 where
  pub same : new ≡ old
  pub said_is : s ≡ record { statement = length old.answers.items + 1; answer = told; answered = false }
  pub opens : Opens old (length old.answers.items) so_far (stage.Answering told) w

abbrev pub SaidFirst : Core → Answer → Phase → Core → Result Next NoMemory → Type 0
SaidFirst old told so_far new (Ok (next.Says w s)) = SaysFirst old told so_far new w s
SaidFirst old told so_far new (Ok other) = ⊥
SaidFirst old told so_far new (Err e) = IsKept old new

-- by what was said before in the transaction
abbrev pub SaidSo : Stage → Core → Answer → Phase → Core → Result Next NoMemory → Type 0
SaidSo stage.Opened old told so_far new result = AnswersOn old told so_far stage.Opened new result
SaidSo said old told so_far new result = SaidFirst old told so_far new result
