-- New managers, one after the other.
use Rattle.std.proofs.Common.{◌≡◌, ◌⊎◌, inl, inr, ℕ, ◌+◌, List, [], ◌∷◌, ◌++◌, Some, refl, ap, subst, ◌∙◌}
use Rattle.std.specs.Prelude.{slice_get}
use Rattle.std.proofs.lemmas.List.{length_push}
use Rattle.tl_manager.specs.Serves.{Matches}
use Rattle.tl_manager.specs.State.{ManagerState}
use Rattle.tl_places.specs.Opening.{AreNew}
use Rattle.tl_places.specs.Places.{ManagerHasServed}
use Rattle.tl_places.proofs.Lists.{push_found}

pub none_new : AreNew 0 []
none_new = record { manager_count = refl; each = λ m state e. absurd cc }

pub one_new : (count : ℕ) (managers : List ManagerState) (state : ManagerState) → Matches [] state → AreNew count managers → AreNew (count + 1) (managers ++ state ∷ [])
one_new count managers new matches h = record {
  manager_count = length_push managers new ∙ ap (λ (n : ℕ). n + 1) h.manager_count;
  each = λ m state e. by m state (push_found managers m new state e);
}
  where
    by : (m : ℕ) (state : ManagerState) → ((slice_get managers m ≡ Some state) ⊎ (new ≡ state)) → ManagerHasServed [] state
    by m state (inl e) = h.each m state e
    by m state (inr e) = subst (λ (x : ManagerState). ManagerHasServed [] x) e (record { matches = matches; served = tt })
