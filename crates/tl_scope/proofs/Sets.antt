-- A set of names has a name exactly where it is among its keys.
use Rattle.std.proofs.Common.{◌≡◌, ℕ, Bool, true, false, ◌||◌, cond, List, [], ◌∷◌, refl, ap, sym, ◌∙◌}
use Rattle.std.specs.Cmp.Lexicographic.{nat_list_eq_equiv, slice_cmp, texts_ties}
use Rattle.std.specs.List.{list_any}
use Rattle.std.specs.Ordering.{is_eq, nat_cmp}
use Rattle.tl_scope.specs.Named.{is_among}
use Rattle.tl_scope.specs.Scope.{same}

pub among_keys : (keys : List (List ℕ)) (name : List ℕ) → is_among keys name ≡ list_any (λ k. is_eq (slice_cmp nat_cmp name k)) keys
among_keys [] name = refl
among_keys (k ∷ ks) name = ap (λ (b : Bool). b || is_among ks name) (texts_ties name k) ∙ ap (λ (b : Bool). is_eq (slice_cmp nat_cmp name k) || b) (among_keys ks name)

chosen : (a b more : Bool) → a ≡ b → cond a true more ≡ (b || more)
chosen true b more e = rw (sym e) refl
chosen false b more e = rw (sym e) refl

same_turned : (a b : List ℕ) → same a b ≡ same b a
same_turned = nat_list_eq_equiv.symm

-- one name more
pub among_more : (before now : List (List ℕ)) (name key other : List ℕ) → key ≡ name →
    list_any (λ k. is_eq (slice_cmp nat_cmp other k)) now ≡ cond (is_eq (slice_cmp nat_cmp key other)) true (list_any (λ k. is_eq (slice_cmp nat_cmp other k)) before) →
    is_among now other ≡ (same other name || is_among before other)
among_more before now name key other e updates =
    among_keys now other
    ∙ updates
    ∙ chosen (is_eq (slice_cmp nat_cmp key other)) (same other name) (list_any (λ k. is_eq (slice_cmp nat_cmp other k)) before)
    (sym (texts_ties key other) ∙ same_turned key other ∙ ap (same other) e)
    ∙ ap (λ (b : Bool). same other name || b) (sym (among_keys before other))
