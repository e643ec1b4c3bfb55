-- Literals are values, one condition on.
use Rattle.std.proofs.Common.{◌≡◌, ℕ, ◌+◌, ◌<◌, List, [], ◌∷◌, ◌++◌, length, get_or, map, drop, subst, sym}
use Rattle.std.specs.Prelude.{flat_map}
use Rattle.tl_values.specs.declared.value.Value.{Value}
use Rattle.tl_values.specs.Key.{AreValues}
use Rattle.tl_grammar.specs.declared.condition.Cond.{Cond}
use Rattle.tl_bind.specs.Condition.{values_in}
use Rattle.tl_lemmas.proofs.Lists.{drop_read}

pub values_append : (xs ys : List Value) → AreValues xs → AreValues ys → AreValues (xs ++ ys)
values_append [] ys h g = g
values_append (x ∷ xs) ys h g = (h.0, values_append xs ys h.1 g)

pub values_next : (xs : List Cond) (i : ℕ) (x : Cond) → i < length xs → x ≡ get_or xs i x → AreValues (values_in x) →
    AreValues (flat_map (λ vs. vs) (map values_in (drop (i + 1) xs))) → AreValues (flat_map (λ vs. vs) (map values_in (drop i xs)))
values_next xs i x h e here rest =
    subst (λ (l : List Cond). AreValues (flat_map (λ vs. vs) (map values_in l))) (sym (drop_read xs i x h e))
    (values_append (values_in x) (flat_map (λ vs. vs) (map values_in (drop (i + 1) xs))) here rest)
