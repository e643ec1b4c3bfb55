-- A statement is said: the node does what the law says of it.
use Rattle.std.proofs.Common.{◌≡◌, ℕ, ◌+◌, true, false, inl, List, [], ◌∷◌, ◌++◌, length, drop, Option, Some, Result, Ok, Err, refl, sym, ap, ◌∙◌, subst}
use Rattle.tl_base.specs.declared.memory.NoMemory.{NoMemory}
use Rattle.tl_values.specs.declared.value.Value.{Value}
use Rattle.tl_schema.specs.declared.catalog.Catalog.{Catalog}
use Rattle.tl_manager.specs.declared.mark.Mark.TheVariants as mark
use Rattle.tl_manager.specs.declared.request.Reply.{Reply}
use Rattle.tl_write.specs.declared.write.Write.{Write}
use Rattle.tl_isolation.specs.declared.bound.Bound.{Bound}
use Rattle.tl_isolation.specs.declared.bound.Bound.TheVariants as bound
use Rattle.tl_isolation.specs.declared.entry.Answer.{Answer}
use Rattle.tl_isolation.specs.declared.entry.Answer.TheVariants as answer
use Rattle.tl_isolation.specs.declared.entry.Entry.{Entry}
use Rattle.tl_isolation.specs.declared.entry.Entry.TheVariants as entry
use Rattle.tl_isolation.specs.declared.entry.Said.{Said}
use Rattle.tl_isolation.specs.Meaning.{QueryAnswers, change_of, told_of}
use Rattle.tl_isolation.specs.Step.{own_after}
use Rattle.tl_protocol.specs.Move.{is_empty}
use Rattle.tl_protocol.specs.World.{Fresh, Opened, Answering, Txn}
use Rattle.tl_journal.specs.Ask.{Heard}
use Rattle.tl_journal.specs.Memory.{unsaid}
use Rattle.tl_journal.specs.Node.{Inside, Node}
use Rattle.tl_journal.specs.Takes.{Means, own_said, view_read}
use Rattle.tl_write.specs.Change.{number_of}
use Rattle.tl_txn.specs.Doing.{txn_in}
use Rattle.tl_txn.specs.declared.phase.Open.{Open}
use Rattle.tl_txn.specs.declared.phase.Phase.{Phase}
use Rattle.tl_txn.specs.declared.phase.Phase.TheVariants as phase
use Rattle.tl_node.specs.After.{ComesTo, IsOpened, Says, at_todo, statement_in}
use Rattle.tl_node.specs.Begun.{SaysOn}
use Rattle.tl_node.specs.Fits.{OwnSuitsStatement, TakesStatements}
use Rattle.tl_node.specs.Saying.{AreFound, SaidSo, SaysFirst, SaysNext, tables_found}
use Rattle.tl_node.specs.View.{StandsFor, stage_of, value_of}
use Rattle.tl_node.specs.declared.kept.Core.{Core}
use Rattle.tl_node.specs.declared.work.Next.{Next}
use Rattle.tl_node.specs.declared.work.Next.TheVariants as next
use Rattle.tl_node.specs.declared.work.Stage.{Stage}
use Rattle.tl_node.specs.declared.work.Stage.TheVariants as stage
use Rattle.tl_node.specs.declared.work.Work.{Work}
use Rattle.tl_node.proofs.Arrives.{Arrives, answered_at, answers_on, arrives_at}

own_found : (catalog : Catalog) (statement : Bound) (own : List Write) (tables found : List (List (List Value))) → AreFound catalog statement own tables found
    → own_said catalog statement own (tables_found statement found) ≡ own_said catalog statement own tables
own_found catalog (bound.Change edit) own tables found e =
    ap (λ (rows : List (List Value)). own_after (change_of catalog edit (view_read catalog (number_of edit) own rows) own) own) (sym e)
own_found catalog statement own tables found e = refl

means_found : (catalog : Catalog) (statement : Bound) (own : List Write) (tables found : List (List (List Value))) (told : Answer) → AreFound catalog statement own tables found
    → Means catalog statement own (tables_found statement found) told → Means catalog statement own tables told
means_found catalog (bound.Select query) own tables found told e h = subst (λ (seen : List (List (List Value))). QueryAnswers query seen told) (sym e) h
means_found catalog (bound.Change edit) own tables found told e h =
    subst (λ (rows : List (List Value)). ◌≡◌ {A = Option Answer} (told_of (change_of catalog edit (view_read catalog (number_of edit) own rows) own)) (Some told)) (sym e) h
means_found catalog statement own tables found told e h = absurd h

module _ (old new : Core) (n : Node) (sound : Heard) (told : Reply) (statement : Bound) (later : List Bound) where
  abbrev pub Comes : Result Next NoMemory → Type 0
  Comes result = ComesTo old.layout old.catalog n sound told new mark.Quiet result

  -- memory was wanted
  pub says_wants : (t : Txn) (tables : List (List (List Value))) (e : NoMemory) → SaysNext old n sound statement later t tables → new.answers.items ≡ old.answers.items → Comes (Err e)
  says_wants t tables e next kept = (
    record { left = ap (λ (todo : List Bound). is_empty todo) next.todo_is; answers = kept ∙ sym next.answers_are },
    record { no_end = next.no_end; entries = λ strange commits. inl (ap (λ (entries : List Entry). unsaid entries) (next.says_is commits answer.Begun)) },
  )

  -- the entry of what is said
  pub entry_is : (s : Said) → n.todo ≡ statement ∷ later → n.number ≡ old.number → entry.Said old.number statement s ∷ [] ≡ [] ++ entry.Said n.number (statement_in n.todo) s ∷ []
  entry_is s todo_is number_is =
      ap (λ (number : ℕ). entry.Said number statement s ∷ []) (sym number_is)
      ∙ ap (λ (todo : List Bound). entry.Said n.number (statement_in todo) s ∷ []) (sym todo_is)

  module _ (live : Open) (tables found : List (List (List Value))) (own : List Write) (so_far : Phase) (is : so_far ≡ phase.Ready (record live { own = own }))
      (todo_is : drop (length old.answers.items) old.statements ≡ statement ∷ later) (are : AreFound old.catalog statement live.own tables found)
      (own_is : OwnSuitsStatement old.catalog statement live.own → own ≡ own_said old.catalog statement live.own (tables_found statement found)) where
    says_opened : (told_so : Answer) (w : Work) (s : Said) → SaysNext old n sound statement later (txn_in Opened live) tables
        → (OwnSuitsStatement old.catalog statement live.own → Means old.catalog statement live.own (tables_found statement found) told_so)
        → SaysOn old told_so so_far stage.Opened new w s → Comes (Ok (next.Says w s))
    says_opened told_so w s nexts means on =
        let a : Arrives old.layout old.catalog new w (answered_at old later told_so (Inside (txn_in Opened (record live { own = own })))) =
        answers_on old new told_so statement later stage.Opened (record live { own = own }) so_far w todo_is on.rest on.answers is on.opens in
        subst (λ (x : Said). Says old.layout old.catalog n sound told mark.Quiet new w x) (sym on.said_is)
        (record {
          fits = a.fits;
          not_strange = nexts.not_strange;
          so = λ suits. record {
            stands =
                subst (λ (m : Node). StandsFor old.layout old.catalog m (value_of new w)) (sym (nexts.takes_is told_so))
                (subst (λ (kept : List Write). StandsFor old.layout old.catalog (answered_at old later told_so (Inside (txn_in Opened (record live { own = kept })))) (value_of new w))
                (own_is (nexts.suits suits) ∙ own_found old.catalog statement live.own tables found are) a.stands);
            means = nexts.means_is told_so (means_found old.catalog statement live.own tables found told_so are (means (nexts.suits suits)));
            entries = λ commits. nexts.says_is commits told_so ∙ entry_is (record { statement = length old.answers.items + 1; answer = told_so; answered = true }) nexts.todo_is nexts.number_is;
          };
        })

    says_fresh : (told_so : Answer) (w : Work) (s : Said) → SaysNext old n sound statement later (txn_in Fresh live) tables
        → (OwnSuitsStatement old.catalog statement live.own → Means old.catalog statement live.own (tables_found statement found) told_so)
        → SaysFirst old told_so so_far new w s → Comes (Ok (next.Says w s))
    says_fresh told_so w s nexts means on =
        let o : IsOpened old (statement ∷ later) (Inside (txn_in (Answering told_so) (record live { own = own }))) w =
        subst (λ (todo : List Bound). IsOpened old todo (Inside (txn_in (Answering told_so) (record live { own = own }))) w) todo_is (on.opens (record live { own = own }) old is refl) in
        let a : Arrives old.layout old.catalog old w (at_todo old (statement ∷ later) (Inside (txn_in (Answering told_so) (record live { own = own })))) =
        arrives_at old (statement ∷ later) w (Inside (txn_in (Answering told_so) (record live { own = own }))) todo_is o in
        subst (λ (c : Core). Says old.layout old.catalog n sound told mark.Quiet c w s) (sym on.same)
        (subst (λ (x : Said). Says old.layout old.catalog n sound told mark.Quiet old w x) (sym on.said_is)
        (record {
          fits = a.fits;
          not_strange = nexts.not_strange;
          so = λ suits. record {
            stands =
                subst (λ (m : Node). StandsFor old.layout old.catalog m (value_of old w)) (sym (nexts.takes_is told_so))
                (subst (λ (kept : List Write). StandsFor old.layout old.catalog (at_todo old (statement ∷ later) (Inside (txn_in (Answering told_so) (record live { own = kept })))) (value_of old w))
                (own_is (nexts.suits suits) ∙ own_found old.catalog statement live.own tables found are) a.stands);
            means = nexts.means_is told_so (means_found old.catalog statement live.own tables found told_so are (means (nexts.suits suits)));
            entries = λ commits. nexts.says_is commits told_so ∙ entry_is (record { statement = length old.answers.items + 1; answer = told_so; answered = false }) nexts.todo_is nexts.number_is;
          };
        }))

    pub said_comes : (said : Stage) (told_so : Answer) (result : Result Next NoMemory) → TakesStatements (stage_of said)
        → SaysNext old n sound statement later (txn_in (stage_of said) live) tables
        → (OwnSuitsStatement old.catalog statement live.own → Means old.catalog statement live.own (tables_found statement found) told_so)
        → SaidSo said old told_so so_far new result → Comes result
    said_comes stage.Opened told_so (Ok (next.Says w s)) takes nexts means on = says_opened told_so w s nexts means on
    said_comes stage.Opened told_so (Ok (next.Goes w)) takes nexts means on = absurd on
    said_comes stage.Opened told_so (Ok next.Strange) takes nexts means on = absurd on
    said_comes stage.Opened told_so (Err e) takes nexts means on = says_wants (txn_in Opened live) tables e nexts on.answers
    said_comes stage.Fresh told_so (Ok (next.Says w s)) takes nexts means on = says_fresh told_so w s nexts means on
    said_comes stage.Fresh told_so (Ok (next.Goes w)) takes nexts means on = absurd on
    said_comes stage.Fresh told_so (Ok next.Strange) takes nexts means on = absurd on
    said_comes stage.Fresh told_so (Err e) takes nexts means on = says_wants (txn_in Fresh live) tables e nexts on.answers
    said_comes (stage.Answering before) told_so result takes nexts means on = absurd takes
