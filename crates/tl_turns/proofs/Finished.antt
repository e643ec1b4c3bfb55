-- The items that are left, where the finished ones are passed.
use Rattle.std.proofs.Common.{◌≡◌, ◌∙◌, ℕ, Bool, true, false, List, [], ◌∷◌, ◌++◌, Some, None, length, nat_le, ap, refl, sym}
use Rattle.std.specs.Prelude.{◌==◌, not, if◌then◌else◌}
use Rattle.std.proofs.lemmas.Bool.{not-true, or_parts}
use Rattle.tl_lemmas.proofs.Lists.{passes}
use Rattle.tl_isolation.specs.declared.script.Script.{Script}
use Rattle.tl_isolation.specs.declared.script.TurnItem.{TurnItem}
use Rattle.tl_isolation.specs.declared.script.TurnItem.TheVariants.{One, Until}
use Rattle.tl_isolation.specs.Script.{answers_by}
use Rattle.tl_journal.specs.declared.event.Event.{Event}
use Rattle.tl_journal.specs.Journal.{entries_told}
use Rattle.tl_journal.specs.Schedule.{Clock, is_finished, is_over, next_round, node_of, turn_at, turn_by, unfinished}
use Rattle.tl_journal.proofs.Grows.{finished_stays}

module _ (script : Script) (events : List Event) where
  pub passes_one : (item : TurnItem) (items : List TurnItem) → is_finished script events item ≡ true
      → unfinished script events (item ∷ items) ≡ unfinished script events items
  passes_one item items h = ap (λ (b : Bool). if b then unfinished script events items else item ∷ items) h

  pub stops_at : (item : TurnItem) (items : List TurnItem) → is_finished script events item ≡ false
      → unfinished script events (item ∷ items) ≡ item ∷ items
  stops_at item items h = ap (λ (b : Bool). if b then unfinished script events items else item ∷ items) h

  -- the first one that is left isn't finished
  first_left : (items : List TurnItem) (item : TurnItem) (later : List TurnItem) → unfinished script events items ≡ item ∷ later
      → is_finished script events item ≡ false
  first_left [] item later h = absurd cc
  first_left (i ∷ items) item later h = by (is_finished script events i) refl h (first_left items item later)
    where
      by : (b : Bool) → is_finished script events i ≡ b → (if b then unfinished script events items else i ∷ items) ≡ item ∷ later
          → (unfinished script events items ≡ item ∷ later → is_finished script events item ≡ false) → is_finished script events item ≡ false
      by true e g more = more g
      by false e g more = let same : i ≡ item = cc in ap (is_finished script events) (sym same) ∙ e

  not_over : (item : TurnItem) → is_finished script events item ≡ false → is_over script events (node_of item) ≡ false
  not_over (One node times) h = (or_parts (times == 0) (is_over script events node) h).1
  not_over (Until node statement) h = (or_parts (nat_le statement (length (answers_by node (entries_told events)))) (is_over script events node) h).1

  next_runs : (last node : ℕ) → next_round script events last ≡ Some node → is_over script events node ≡ false
  next_runs last node h = not-true (is_over script events node) (passes (λ n. not (is_over script events n)) _ node h)

  some_same : (n m : ℕ) → Some n ≡ Some m → n ≡ m
  some_same n m e = cc

  -- a node whose turn it is has more to do
  pub turn_runs : (clock : Clock) (node : ℕ) → turn_at script events clock ≡ Some node → is_over script events node ≡ false
  turn_runs clock node h = by (unfinished script events clock.items) refl h
    where
      by : (us : List TurnItem) → unfinished script events clock.items ≡ us → turn_by script events clock.last us ≡ Some node → is_over script events node ≡ false
      by [] e g = next_runs clock.last node g
      by (item ∷ later) e g =
          ap (is_over script events) (sym (some_same (node_of item) node g)) ∙ not_over item (first_left clock.items item later e)

  -- where it is no node's turn, no item is left and no node is next
  pub no_turn : (clock : Clock) → turn_at script events clock ≡ None → next_round script events clock.last ≡ None
  no_turn clock h = by (unfinished script events clock.items) refl h
    where
      by : (us : List TurnItem) → unfinished script events clock.items ≡ us → turn_by script events clock.last us ≡ None → next_round script events clock.last ≡ None
      by [] e g = g
      by (item ∷ later) e g = absurd cc

-- the items that were finished are so later
pub passes_again : (script : Script) (past more : List Event) (items : List TurnItem)
    → unfinished script (past ++ more) (unfinished script past items) ≡ unfinished script (past ++ more) items
passes_again script past more [] = refl
passes_again script past more (item ∷ items) = by (is_finished script past item) refl (passes_again script past more items)
  where
    by : (b : Bool) → is_finished script past item ≡ b
        → unfinished script (past ++ more) (unfinished script past items) ≡ unfinished script (past ++ more) items
        → unfinished script (past ++ more) (if b then unfinished script past items else item ∷ items) ≡ unfinished script (past ++ more) (item ∷ items)
    by true e again = again ∙ sym (passes_one script (past ++ more) item items (finished_stays script past more item e))
    by false e again = refl

-- and passing them twice is passing them once
pub passes_twice : (script : Script) (events : List Event) (items : List TurnItem)
    → unfinished script events (unfinished script events items) ≡ unfinished script events items
passes_twice script events [] = refl
passes_twice script events (item ∷ items) = by (is_finished script events item) refl (passes_twice script events items)
  where
    by : (b : Bool) → is_finished script events item ≡ b
        → unfinished script events (unfinished script events items) ≡ unfinished script events items
        → unfinished script events (if b then unfinished script events items else item ∷ items) ≡ (if b then unfinished script events items else item ∷ items)
    by true e again = again
    by false e again = stops_at script events item items e
