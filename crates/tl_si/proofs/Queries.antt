-- A query has one answer on what a transaction sees.
use Rattle.std.proofs.Common.{◌≡◌, true, List, Ok, Err, refl, sym, ap, subst, ◌∙◌}
use Rattle.tl_values.specs.declared.value.Value.{Value}
use Rattle.tl_algebra.specs.declared.fault.ValueFault.TheVariants as fault
use Rattle.tl_algebra.specs.declared.query.Query.{Query}
use Rattle.tl_algebra.specs.Law.{SelectHasOneAnswer, SelectNeverDoesBoth}
use Rattle.tl_algebra.specs.Select.{Tells}
use Rattle.tl_isolation.specs.declared.entry.Answer.{Answer}
use Rattle.tl_isolation.specs.declared.entry.Answer.TheVariants as answer
use Rattle.tl_isolation.specs.Meaning.{QueryAnswers}
use Rattle.tl_si.specs.Answers.{is_overflow, same_rows, tells_rows}
use Rattle.tl_si.proofs.Same.{rows_itself, rows_same}

module _ (q : Query) (tables : List (List (List Value))) (one : SelectHasOneAnswer) (never_both : SelectNeverDoesBoth) where
  pub rows_are : (rows : List (List Value)) → Tells q tables (Ok rows) → (told : Answer) → tells_rows told rows ≡ true → QueryAnswers q tables told
  rows_are rows t (answer.Rows r) h = subst (λ (x : List (List Value)). Tells q tables (Ok x)) (sym (rows_same r rows h)) t
  rows_are rows t told h = absurd cc

  pub rows_only : (rows : List (List Value)) → Tells q tables (Ok rows) → (told : Answer) → QueryAnswers q tables told → tells_rows told rows ≡ true
  rows_only rows t (answer.Rows r) h = ap (λ (x : List (List Value)). same_rows x rows) (one q tables r rows h t) ∙ rows_itself rows
  rows_only rows t answer.Overflow h = absurd (never_both q tables rows t h)
  rows_only rows t told h = absurd h

  pub overflow_is : Tells q tables (Err fault.Overflow) → (told : Answer) → is_overflow told ≡ true → QueryAnswers q tables told
  overflow_is t answer.Overflow h = t
  overflow_is t told h = absurd cc

  pub overflow_only : Tells q tables (Err fault.Overflow) → (told : Answer) → QueryAnswers q tables told → is_overflow told ≡ true
  overflow_only t (answer.Rows r) h = absurd (never_both q tables r h t)
  overflow_only t answer.Overflow h = refl
  overflow_only t told h = absurd h
