-- The present statement is answered, and what was said keeps the node as it is but for its answers.
use Rattle.std.proofs.Common.{◌≡◌, true, false, List, [], ◌∷◌, length, Option, Some, None, Result, Ok, Err, refl, sym, ap, ◌∙◌, subst}
use Rattle.std.specs.Prelude.{IfOk, OnErr, OnOk, slice_get}
use Rattle.tl_base.specs.declared.memory.NoMemory.{NoMemory}
use Rattle.tl_values.specs.declared.value.Value.{Value}
use Rattle.tl_schema.specs.declared.catalog.Catalog.{Catalog}
use Rattle.tl_algebra.specs.declared.edit.Edit.{Edit}
use Rattle.tl_algebra.specs.declared.query.Query.{Query}
use Rattle.tl_write.specs.declared.write.Write.{Write}
use Rattle.tl_isolation.specs.Meaning.{QueryAnswers}
use Rattle.tl_isolation.specs.declared.bound.Bound.{Bound}
use Rattle.tl_isolation.specs.declared.bound.Bound.TheVariants as bound
use Rattle.tl_isolation.specs.declared.entry.Answer.{Answer}
use Rattle.tl_answer.specs.Own.{OwnSuits}
use Rattle.tl_plan.specs.Plan.{numbers_of}
use Rattle.tl_journal.specs.Takes.{Means, own_said, tables_seen}
use Rattle.tl_txn.specs.Calls.{IsReady, own_in, rows_taken, with_own}
use Rattle.tl_txn.specs.declared.phase.Phase.{Phase}
use Rattle.tl_txn.specs.declared.phase.Phase.TheVariants as phase
use Rattle.tl_txn.specs.declared.txn.Txn.{Txn}
use Rattle.tl_node.specs.After.{Stays}
use Rattle.tl_node.specs.Begun.{AnswersOn}
use Rattle.tl_node.specs.Fits.{IsOwn}
use Rattle.tl_node.specs.ReadOn.{Idles, is_nested}
use Rattle.tl_node.specs.Saying.{IsAnswered, SaidFirst, SaidSo, all_rows}
use Rattle.tl_node.specs.declared.kept.Core.{Core}
use Rattle.tl_node.specs.declared.work.Next.{Next}
use Rattle.tl_node.specs.declared.work.Stage.{Stage}
use Rattle.tl_node.specs.declared.work.Stage.TheVariants as stage
use Rattle.tl_node.proofs.Found.{first_left, own_stays}
use Rattle.tl_node.proofs.Idling.{IsNested}

module _ {A E : Type 0} where
  pub ok_more : (result : Result A E) (P Q : A → Type 0) → ((x : A) → P x → Q x) → IfOk result P → IfOk result Q
  ok_more (Ok x) P Q f h = f x h
  ok_more (Err e) P Q f h = tt

-- what holds of the statement in hand holds of the present one
pub present_so : (P : Bound → Type 0) (o : Option Bound) (present : Bound) → Some present ≡ o → P present → (statement : Bound) → o ≡ Some statement → P statement
present_so P o present here h statement e =
    let both : Some present ≡ Some statement = here ∙ e in
    let same : present ≡ statement = cc in
    subst P same h

pub answered_query : (catalog : Catalog) (query : Query) (found : List (List (List Value))) (txn : Txn) (told : Answer) → IsReady txn.phase
    → QueryAnswers query (tables_seen catalog (numbers_of query) (own_in txn.phase) found) told → IsAnswered catalog (bound.Select query) found txn txn told
answered_query catalog query found txn told ready h = record { own = own_in txn.phase; after_is = own_stays txn ready; own_is = λ suits. refl; means = λ suits. h }

pub answered_change : (catalog : Catalog) (edit : Edit) (found : List (List (List Value))) (rows : List (List Value)) (before after : Txn) (told : Answer) → rows ≡ all_rows found
    → after ≡ record before { phase = with_own before.phase (own_in after.phase) }
    → (OwnSuits catalog edit (own_in before.phase) → own_in after.phase ≡ own_said catalog (bound.Change edit) (own_in before.phase) (rows ∷ []))
    → (OwnSuits catalog edit (own_in before.phase) → Means catalog (bound.Change edit) (own_in before.phase) (rows ∷ []) told)
    → IsAnswered catalog (bound.Change edit) found before after told
answered_change catalog edit found rows before after told rows_are after_is own_is means =
    record {
      own = own_in after.phase;
      after_is = after_is;
      own_is = λ suits.
          own_is suits ∙ ap (λ (all : List (List Value)). own_said catalog (bound.Change edit) (own_in before.phase) (all ∷ [])) rows_are;
      means = λ suits. subst (λ (all : List (List Value)). Means catalog (bound.Change edit) (own_in before.phase) (all ∷ []) told) rows_are (means suits);
    }

-- ---- the transaction stays ready, and the node's own

own_ready : (p : Phase) (own : List Write) → IsReady p → IsReady (with_own p own)
own_ready (phase.Ready live) own h = tt
own_ready other own h = absurd h

pub ready_kept : (txn after : Txn) → IsReady txn.phase → after ≡ record txn { phase = with_own txn.phase (own_in after.phase) } → IsReady after.phase
ready_kept txn after ready same = subst IsReady (sym (ap (λ (x : Txn). x.phase) same)) (own_ready txn.phase (own_in after.phase) ready)

pub own_kept : (core : Core) (txn after : Txn) (p : Phase) → IsOwn core txn → after ≡ record txn { phase = p } → IsOwn core after
own_kept core txn after p own same =
    record { layout = ap (λ (x : Txn). x.layout) same ∙ own.layout; node = ap (λ (x : Txn). x.node) same ∙ own.node }

rows_ready : (p : Phase) → IsReady p → IsReady (rows_taken p)
rows_ready (phase.Ready live) h = tt
rows_ready other h = absurd h

pub ready_taken : (txn after : Txn) → IsReady txn.phase → after ≡ record txn { phase = rows_taken txn.phase } → IsReady after.phase
ready_taken txn after ready same = subst IsReady (sym (ap (λ (x : Txn). x.phase) same)) (rows_ready txn.phase ready)

-- ---- the answers that stand, where memory was wanted

answers_kept : (old : Core) (told : Answer) (so_far : Phase) (said : Stage) (new : Core) (result : Result Next NoMemory) → AnswersOn old told so_far said new result
    → OnErr result (new.answers.items ≡ old.answers.items)
answers_kept old told so_far said new (Ok x) on = tt
answers_kept old told so_far said new (Err e) on = on.answers

first_kept : (old : Core) (told : Answer) (so_far : Phase) (new : Core) (result : Result Next NoMemory) → SaidFirst old told so_far new result
    → OnErr result (new.answers.items ≡ old.answers.items)
first_kept old told so_far new (Ok x) on = tt
first_kept old told so_far new (Err e) on = on.answers

pub said_kept : (said : Stage) (old : Core) (told : Answer) (so_far : Phase) (new : Core) (result : Result Next NoMemory) → SaidSo said old told so_far new result
    → OnErr result (new.answers.items ≡ old.answers.items)
said_kept stage.Opened old told so_far new result on = answers_kept old told so_far stage.Opened new result on
said_kept stage.Fresh old told so_far new result on = first_kept old told so_far new result on
said_kept (stage.Answering before) old told so_far new result on = first_kept old told so_far new result on

pub answered_kept : (old : Core) (told : Answer) (so_far : Phase) (said : Stage) (new : Core) (result : Result Next NoMemory) → AnswersOn old told so_far said new result
    → OnErr result (new.answers.items ≡ old.answers.items)
answered_kept old told so_far said new result on = answers_kept old told so_far said new result on

pub err_kept : {A : Type 0} (result : Result A NoMemory) (P : Type 0) → OnErr result P → (e : NoMemory) → result ≡ Err e → P
err_kept (Ok x) P h e is = cc
err_kept (Err fault) P h e is = h

pub stays_but : (old new : Core) → new ≡ record old { answers = new.answers } → Stays old new
stays_but old new same =
    record {
      layout = ap (λ (c : Core). c.layout) same;
      catalog = ap (λ (c : Core). c.catalog) same;
      statements = ap (λ (c : Core). c.statements) same;
      number = ap (λ (c : Core). c.number) same;
    }

-- ---- BEGIN and RECOVER

pub nested_so : (statement : Bound) → is_nested statement ≡ true → IsNested statement
nested_so bound.Begin e = tt
nested_so (bound.Recover gone) e = tt
nested_so statement e = cc

pub nested_not : (statement : Bound) → is_nested statement ≡ false → IsNested statement → ⊥
nested_not bound.Begin e h = cc
nested_not (bound.Recover gone) e h = cc
nested_not statement e h = h

-- without a present statement nothing is said
pub idles_none : (old new : Core) (txn : Txn) (said : Stage) (result : Result Next NoMemory) → slice_get old.statements (length old.answers.items) ≡ None → Idles old txn said new result
idles_none old new txn said result none = λ n sound told statement later live is todo_is nexts.
    let some : slice_get old.statements (length old.answers.items) ≡ Some statement = first_left (length old.answers.items) old.statements statement later todo_is in
    absurd (clash (slice_get old.statements (length old.answers.items)) statement some none)
  where
    clash : (o : Option Bound) (statement : Bound) → o ≡ Some statement → o ≡ None → ⊥
    clash o statement e f = cc

-- ---- the own writes that are lent

own_in_with : (p : Phase) (own : List Write) → IsReady p → own_in (with_own p own) ≡ own
own_in_with (phase.Ready live) own h = refl
own_in_with other own h = absurd h

on_more : {A E : Type 0} (result : Result A E) (P Q : Type 0) → (P → Q) → OnOk result P → OnOk result Q
on_more (Ok x) P Q f h = f h
on_more (Err e) P Q f h = h

pub lent_stays : (txn : Txn) (own : List Write) → IsReady txn.phase
    → record txn { phase = with_own txn.phase own } ≡ record txn { phase = with_own txn.phase (own_in (with_own txn.phase own)) }
lent_stays txn own ready = ap (λ (x : List Write). record txn { phase = with_own txn.phase x }) (sym (own_in_with txn.phase own ready))

pub lent_own : (catalog : Catalog) (edit : Edit) (result : Result Answer NoMemory) (p : Phase) (rows : List (List Value)) (before after : List Write) → IsReady p → before ≡ own_in p
    → (OwnSuits catalog edit before → OnOk result (after ≡ own_said catalog (bound.Change edit) before (rows ∷ []))) → OwnSuits catalog edit (own_in p)
    → OnOk result (own_in (with_own p after) ≡ own_said catalog (bound.Change edit) (own_in p) (rows ∷ []))
lent_own catalog edit result p rows before after ready e own_is suits =
    on_more result (after ≡ own_said catalog (bound.Change edit) (own_in p) (rows ∷ [])) (own_in (with_own p after) ≡ own_said catalog (bound.Change edit) (own_in p) (rows ∷ []))
    (λ is. own_in_with p after ready ∙ is)
    (subst (λ (own : List Write). OwnSuits catalog edit own → OnOk result (after ≡ own_said catalog (bound.Change edit) own (rows ∷ []))) e own_is suits)

pub lent_told : (catalog : Catalog) (edit : Edit) (result : Result Answer NoMemory) (own : List Write) (rows : List (List Value)) (before : List Write) → before ≡ own
    → (OwnSuits catalog edit before → IfOk result (λ told. Means catalog (bound.Change edit) before (rows ∷ []) told)) → OwnSuits catalog edit own
    → IfOk result (λ told. Means catalog (bound.Change edit) own (rows ∷ []) told)
lent_told catalog edit result own rows before e told =
    subst (λ (x : List Write). OwnSuits catalog edit x → IfOk result (λ told. Means catalog (bound.Change edit) x (rows ∷ []) told)) e told

pub told_query : (catalog : Catalog) (query : Query) (found : List (List (List Value))) (txn : Txn) (result : Result Answer NoMemory) (own : List Write) → IsReady txn.phase → own ≡ own_in txn.phase
    → IfOk result (λ told. QueryAnswers query (tables_seen catalog (numbers_of query) own found) told)
    → IfOk result (λ told. IsAnswered catalog (bound.Select query) found txn txn told)
told_query catalog query found txn result own ready e told =
    ok_more result (λ told. QueryAnswers query (tables_seen catalog (numbers_of query) (own_in txn.phase) found) told) (λ told. IsAnswered catalog (bound.Select query) found txn txn told)
    (λ answer h. answered_query catalog query found txn answer ready h)
    (subst (λ (x : List Write). IfOk result (λ told. QueryAnswers query (tables_seen catalog (numbers_of query) x found) told)) e told)
