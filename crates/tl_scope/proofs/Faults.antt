-- The first of faults, list by list.
use Rattle.std.proofs.Common.{◌≡◌, ℕ, ◌<◌, List, [], ◌∷◌, ◌++◌, Option, Some, None, length, get_or, drop, map, ◌+◌, refl, ap, sym, ◌∙◌, arith}
use Rattle.std.specs.List.{flat_map}
use Rattle.tl_lemmas.proofs.Lists.{drop_read}
use Rattle.tl_scope.specs.declared.fault.BindFault.{BindFault}
use Rattle.tl_scope.specs.Fault.{each_from, earlier, earliest, least}

earlier_assoc : (a b c : BindFault) → earlier (earlier a b) c ≡ earlier a (earlier b c)
earlier_assoc a b c = grind arith

pub earliest_assoc : (a b c : Option BindFault) → earliest (earliest a b) c ≡ earliest a (earliest b c)
earliest_assoc None b c = refl
earliest_assoc (Some a) None c = refl
earliest_assoc (Some a) (Some b) None = refl
earliest_assoc (Some a) (Some b) (Some c) = ap (λ (f : BindFault). Some f) (earlier_assoc a b c)

pub earliest_none : (a : Option BindFault) → earliest a None ≡ a
earliest_none None = refl
earliest_none (Some a) = refl

pub least_append : (fs gs : List BindFault) → least (fs ++ gs) ≡ earliest (least fs) (least gs)
least_append [] gs = refl
least_append (f ∷ fs) gs = ap (earliest (Some f)) (least_append fs gs) ∙ sym (earliest_assoc (Some f) (least fs) (least gs))

least_next : {X : Type 0} (f : X → List BindFault) (a : Option BindFault) (x : X) (xs : List X) →
    earliest (earliest a (least (f x))) (least (flat_map f xs)) ≡ earliest a (least (flat_map f (x ∷ xs)))
least_next f a x xs = earliest_assoc a (least (f x)) (least (flat_map f xs)) ∙ ap (earliest a) (sym (least_append (f x) (flat_map f xs)))

-- one item on, in a loop over lists of faults
pub loop_next : {X A : Type 0} (f : A → List BindFault) (g : X → A) (a b : Option BindFault) (xs : List X) (i : ℕ) (x : X) → i < length xs → x ≡ get_or xs i x →
    b ≡ earliest a (least (f (g x))) →
    earliest b (least (flat_map f (map g (drop (i + 1) xs)))) ≡ earliest a (least (flat_map f (map g (drop i xs))))
loop_next f g a b xs i x h e was =
    ap (λ (o : Option BindFault). earliest o (least (flat_map f (map g (drop (i + 1) xs))))) was
    ∙ least_next f a (g x) (map g (drop (i + 1) xs))
    ∙ ap (λ (l : List _). earliest a (least (flat_map f (map g l)))) (sym (drop_read xs i x h e))

pub joined : (r a b : Option BindFault) (fs gs : List BindFault) → r ≡ earliest a b → a ≡ least fs → b ≡ least gs → r ≡ least (fs ++ gs)
joined r a b fs gs e f g = rw (e, f, g) (sym (least_append fs gs))

pub loop_each : {X : Type 0} (f : X → List BindFault) (a b : Option BindFault) (xs : List X) (i : ℕ) (x : X) → i < length xs → x ≡ get_or xs i x → b ≡ earliest a (least (f x)) →
    earliest b (least (flat_map f (drop (i + 1) xs))) ≡ earliest a (least (flat_map f (drop i xs)))
loop_each f a b xs i x h e was =
    ap (λ (o : Option BindFault). earliest o (least (flat_map f (drop (i + 1) xs)))) was
    ∙ least_next f a x (drop (i + 1) xs)
    ∙ ap (λ (l : List _). earliest a (least (flat_map f l))) (sym (drop_read xs i x h e))

pub loop_indexed : {X : Type 0} (f : ℕ → X → List BindFault) (a b : Option BindFault) (xs : List X) (i : ℕ) (x : X) → i < length xs → x ≡ get_or xs i x → b ≡ earliest a (least (f i x)) →
    earliest b (least (each_from f (i + 1) (drop (i + 1) xs))) ≡ earliest a (least (each_from f i (drop i xs)))
loop_indexed f a b xs i x h e was =
    ap (λ (o : Option BindFault). earliest o (least (each_from f (i + 1) (drop (i + 1) xs)))) was
    ∙ earliest_assoc a (least (f i x)) (least (each_from f (i + 1) (drop (i + 1) xs)))
    ∙ ap (earliest a) (sym (least_append (f i x) (each_from f (i + 1) (drop (i + 1) xs))))
    ∙ ap (λ (l : List _). earliest a (least (each_from f i l))) (sym (drop_read xs i x h e))
