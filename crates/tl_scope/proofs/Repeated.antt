-- Names that are given twice, one after the other.
use Rattle.std.proofs.Common.{◌≡◌, ℕ, ◌+◌, ◌<◌, Bool, ◌||◌, List, [], ◌∷◌, ◌++◌, length, get_or, drop, map, Option, refl, ap, sym, ◌∙◌}
use Rattle.tl_grammar.specs.declared.name.Name.{Name}
use Rattle.tl_scope.specs.declared.fault.BindKind.TheVariants as kind
use Rattle.tl_scope.specs.declared.fault.BindFault.{BindFault}
use Rattle.tl_scope.specs.Fault.{earliest, fault_if, least}
use Rattle.tl_scope.specs.Named.{is_among, repeated_after}
use Rattle.tl_scope.specs.Scope.{same}
use Rattle.tl_lemmas.proofs.Lists.{drop_read}
use Rattle.tl_scope.proofs.Faults.{earliest_assoc, least_append}

same_before : (s t : List (List ℕ)) (ns : List Name) → ((x : List ℕ) → is_among s x ≡ is_among t x) → repeated_after s ns ≡ repeated_after t ns
same_before s t [] h = refl
same_before s t (n ∷ ns) h =
    rw (h n.text) (ap (λ (l : List BindFault). fault_if (is_among t n.text) n.at kind.Twice ++ l) (same_before (n.text ∷ s) (n.text ∷ t) ns (λ x. ap (λ (b : Bool). same x n.text || b) (h x))))

-- one name more
pub name_taken : (a b : Option BindFault) (seen now : List (List ℕ)) (n : Name) → ((x : List ℕ) → is_among now x ≡ (same x n.text || is_among seen x)) →
    b ≡ earliest a (least (fault_if (is_among seen n.text) n.at kind.Twice)) → (more : List Name) →
    earliest b (least (repeated_after now more)) ≡ earliest a (least (repeated_after seen (n ∷ more)))
name_taken a b seen now n h was more =
    let again = fault_if (is_among seen n.text) n.at kind.Twice in
    ap (λ (o : Option BindFault). earliest o (least (repeated_after now more))) was
    ∙ ap (λ (l : List BindFault). earliest (earliest a (least again)) (least l)) (same_before now (n.text ∷ seen) more h)
    ∙ earliest_assoc a (least again) (least (repeated_after (n.text ∷ seen) more))
    ∙ ap (earliest a) (sym (least_append again (repeated_after (n.text ∷ seen) more)))

-- one item on, in a loop over what has names
pub loop_named : {X : Type 0} (f : X → Name) (a b : Option BindFault) (seen now : List (List ℕ)) (xs : List X) (i : ℕ) (x : X) → i < length xs → x ≡ get_or xs i x →
    ((more : List Name) → earliest b (least (repeated_after now more)) ≡ earliest a (least (repeated_after seen (f x ∷ more)))) →
    earliest b (least (repeated_after now (map f (drop (i + 1) xs)))) ≡ earliest a (least (repeated_after seen (map f (drop i xs))))
loop_named f a b seen now xs i x h e next =
    next (map f (drop (i + 1) xs)) ∙ ap (λ (l : List _). earliest a (least (repeated_after seen (map f l)))) (sym (drop_read xs i x h e))
