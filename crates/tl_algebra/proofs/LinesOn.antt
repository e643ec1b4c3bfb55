-- The loops of the code, one item on.
use Rattle.std.proofs.Common.{◌≡◌, ℕ, ◌+◌, ◌<◌, Option, Some, List, [], ◌∷◌, ◌++◌, length, get_or, drop, map, ap, sym, subst, ◌∙◌, append_assoc}
use Rattle.std.specs.List.{flat_map}
use Rattle.std.proofs.lemmas.List.{drop_more}
use Rattle.tl_lemmas.proofs.Lists.{drop_read}
use Rattle.tl_values.specs.declared.value.Value.{Value}
use Rattle.tl_algebra.specs.declared.expression.Expression.{Expression}
use Rattle.tl_algebra.specs.declared.expression.Step.{Step}
use Rattle.tl_algebra.specs.declared.fault.ValueFault.{ValueFault}
use Rattle.tl_algebra.specs.Select.{before, each}
use Rattle.tl_algebra.specs.Value.{Fails, chained, stepped, value_of}
use Rattle.tl_algebra.specs.Steps.{step_value}
use Rattle.tl_algebra.proofs.Chains.{chained_fault}
use Rattle.tl_algebra.proofs.Each.{following, following_fault, following_one}

pub flat_next : {X A : Type 0} (f : X → List A) (done : List A) (xs : List X) (i : ℕ) (x : X) → i < length xs → x ≡ get_or xs i x →
    (done ++ f x) ++ flat_map f (drop (i + 1) xs) ≡ done ++ flat_map f (drop i xs)
flat_next f done xs i x h e =
    append_assoc done (f x) (flat_map f (drop (i + 1) xs)) ∙ ap (λ (l : List _). done ++ flat_map f l) (sym (drop_read xs i x h e))

pub each_stops : {X A B : Type 0} (e : ValueFault) (f : A → Option B) (g : X → A) (done : List B) (xs : List X) (i : ℕ) (x : X) → i < length xs → x ≡ get_or xs i x →
    Fails e (f (g x)) → Fails e (following done (each f (map g (drop i xs))))
each_stops e f g done xs i x h r fails =
    subst (λ (l : List _). Fails e (following done (each f (map g l)))) (sym (drop_read xs i x h r)) (following_fault e done (f (g x)) (each f (map g (drop (i + 1) xs))) fails)

pub each_next : {X A B : Type 0} (f : A → Option B) (g : X → A) (done : List B) (xs : List X) (i : ℕ) (x : X) (y : B) → i < length xs → x ≡ get_or xs i x →
    f (g x) ≡ Some y → following (done ++ y ∷ []) (each f (map g (drop (i + 1) xs))) ≡ following done (each f (map g (drop i xs)))
each_next f g done xs i x y h r gives =
    sym (following_one done y (each f (map g (drop (i + 1) xs))))
    ∙ ap (λ (o : Option _). following done (before o (each f (map g (drop (i + 1) xs))))) (sym gives)
    ∙ ap (λ (l : List _). following done (each f (map g l))) (sym (drop_read xs i x h r))

pub chain_stops : (e : ValueFault) (a : Value) (steps : List (Step Expression)) (row : List Value) (i : ℕ) (step : Step Expression) → i < length steps → step ≡ get_or steps i step →
    Fails e (stepped (Some a) step.by (value_of step.of row)) → Fails e (chained (Some a) (map (step_value row) (drop i steps)))
chain_stops e a steps row i step h r fails =
    subst (λ (l : List (Step Expression)). Fails e (chained (Some a) (map (step_value row) l))) (sym (drop_read steps i step h r))
    (chained_fault e (stepped (Some a) step.by (value_of step.of row)) (map (step_value row) (drop (i + 1) steps)) fails)
