-- What may be said of statements that read no table.
use Rattle.std.proofs.Common.{◌≡◌, ℕ, ◌==◌, Bool, true, false, not, ◌&&◌, ◌||◌, Option, Some, None, refl, sym, subst, ◌∙◌}
use Rattle.std.specs.List.{list_any}
use Rattle.std.proofs.lemmas.Bool.{and_from, eq-eqb, eqb-true, or_left}
use Rattle.std.proofs.lemmas.Option.{same_Some}
use Rattle.tl_lemmas.proofs.Tests.{and_first, and_second}
use Rattle.tl_schema.specs.declared.catalog.Catalog.{Catalog}
use Rattle.tl_isolation.specs.declared.bound.Bound.TheVariants as bound
use Rattle.tl_isolation.specs.declared.entry.Answer.{Answer}
use Rattle.tl_isolation.specs.declared.entry.Answer.TheVariants as answer
use Rattle.tl_isolation.specs.declared.state.SiState.{SiState}
use Rattle.tl_isolation.specs.declared.state.Transaction.{Transaction}
use Rattle.tl_isolation.specs.State.{held_by, is_fresh, is_lost, is_open}
use Rattle.tl_isolation.specs.Step.{MaySay}
use Rattle.tl_si.specs.Statements.{may_answer_begin, may_answer_recover}

or_false : (a : Bool) → (a || false) ≡ true → a ≡ true
or_false true h = refl
or_false false h = absurd cc

module _ (catalog : Catalog) (s : SiState) (node : ℕ) (answered : Bool) where
  pub begin_may : (t : Transaction) → held_by node s.held ≡ Some t → answered ≡ true → (told : Answer) → may_answer_begin t told ≡ true
      → MaySay catalog s node bound.Begin told answered
  begin_may t e a answer.Begun h = (a, (t, e, h))
  begin_may t e a answer.Nested h = (a, (t, e, h))
  begin_may t e a told h = absurd cc

  pub begin_only : (t : Transaction) → held_by node s.held ≡ Some t → (told : Answer) → MaySay catalog s node bound.Begin told answered
      → (answered ≡ true) × (may_answer_begin t told ≡ true)
  begin_only t e answer.Begun (a, (u, f, h)) = (a, subst (λ (x : Transaction). is_fresh x ≡ true) (same_Some u t (sym f ∙ e)) h)
  begin_only t e answer.Nested (a, (u, f, h)) = (a, subst (λ (x : Transaction). is_open x ≡ true) (same_Some u t (sym f ∙ e)) h)
  begin_only t e told h = absurd h

  pub begin_none : held_by node s.held ≡ None → (told : Answer) → MaySay catalog s node bound.Begin told answered → ⊥
  begin_none e answer.Begun (a, (u, f, h)) = none_some u (sym e ∙ f)
    where
      none_some : (u : Transaction) → None ≡ Some u → ⊥
      none_some u e = cc
  begin_none e answer.Nested (a, (u, f, h)) = none_some u (sym e ∙ f)
    where
      none_some : (u : Transaction) → None ≡ Some u → ⊥
      none_some u e = cc
  begin_none e told h = h

  module _ (gone : ℕ) where
    abbrev lost : Bool
    lost = list_any (λ (t : Transaction). (t.node == gone) && is_lost t.phase) s.held

    recover_may_by : (o : Option Transaction) → held_by node s.held ≡ o → answered ≡ true → (told : Answer) → may_answer_recover o lost gone told ≡ true
        → MaySay catalog s node (bound.Recover gone) told answered
    recover_may_by (Some t) e a answer.Nested h = (a, (t, e, h))
    recover_may_by (Some t) e a told h = absurd cc
    recover_may_by None e a (answer.Recovered told) h = (a, eqb-true told gone (and_first (told == gone) (not lost) h), e, and_second (told == gone) (not lost) h)
    recover_may_by None e a (answer.There told) h = (a, eqb-true told gone (or_false (told == gone) h), e)
    recover_may_by None e a told h = absurd cc

    pub recover_may : answered ≡ true → (told : Answer) → may_answer_recover (held_by node s.held) lost gone told ≡ true
        → MaySay catalog s node (bound.Recover gone) told answered
    recover_may a told h = recover_may_by (held_by node s.held) refl a told h

    some_none : (u : Transaction) → Some u ≡ None → ⊥
    some_none u e = cc

    recover_only_by : (o : Option Transaction) → held_by node s.held ≡ o → (told : Answer) → MaySay catalog s node (bound.Recover gone) told answered
        → (answered ≡ true) × (may_answer_recover o lost gone told ≡ true)
    recover_only_by (Some t) e answer.Nested (a, (u, f, h)) = (a, subst (λ (x : Transaction). is_open x ≡ true) (same_Some u t (sym f ∙ e)) h)
    recover_only_by None e answer.Nested (a, (u, f, h)) = absurd (some_none u (sym f ∙ e))
    recover_only_by None e (answer.Recovered told) (a, p, f, q) = (a, and_from (told == gone) (not lost) (eq-eqb told gone p) q)
    recover_only_by (Some t) e (answer.Recovered told) (a, p, f, q) = absurd (some_none t (sym e ∙ f))
    recover_only_by None e (answer.There told) (a, p, f) = (a, or_left (told == gone) false (eq-eqb told gone p))
    recover_only_by (Some t) e (answer.There told) (a, p, f) = absurd (some_none t (sym e ∙ f))
    recover_only_by o e told h = absurd h

    pub recover_only : (told : Answer) → MaySay catalog s node (bound.Recover gone) told answered
        → (answered ≡ true) × (may_answer_recover (held_by node s.held) lost gone told ≡ true)
    recover_only told h = recover_only_by (held_by node s.held) refl told h
