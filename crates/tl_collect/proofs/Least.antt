-- The least of the marks is one of them, and it begins them all.
use Rattle.std.proofs.Common.{◌≡◌, ◌⊎◌, inl, inr, ℕ, zero, suc, ◌≤◌, Bool, true, false, cond, true≢false, List, [], ◌∷◌, Some, fold, length, slice_get, refl, sym, ap, subst, ◌∙◌, arith}
use Rattle.std.specs.List.{AllByRecursion}
use Rattle.tl_codec.specs.Fields.{some_is}
use Rattle.tl_descriptor.specs.Tids.{IsCanonical, TidSet, begins}
use Rattle.tl_manager.specs.Floor.{IsChain}
use Rattle.tl_collect.specs.Floors.{StandsIn, least_of, lower}
use Rattle.tl_descriptor.proofs.Order.{begins_itself, begins_on}

-- where a mark was taken or not
taken : (t : Bool) (first mark least : TidSet) (marks : List TidSet) → (least ≡ cond t mark first) ⊎ StandsIn marks least → (least ≡ first) ⊎ StandsIn (mark ∷ marks) least
taken true first mark least marks (inl e) = inr (zero, omega arith, ap Some (sym e))
taken false first mark least marks (inl e) = inl e
taken t first mark least marks (inr (j, within, e)) = inr (suc j, omega arith, e)

stands_after : (first : TidSet) (marks : List TidSet) → (fold lower first marks ≡ first) ⊎ StandsIn marks (fold lower first marks)
stands_after first [] = inl refl
stands_after first (mark ∷ marks) = taken (begins mark first) first mark (fold lower (lower first mark) marks) marks (stands_after (lower first mark) marks)

first_or_after : (first least : TidSet) (marks : List TidSet) → (least ≡ first) ⊎ StandsIn marks least → StandsIn (first ∷ marks) least
first_or_after first least marks (inl e) = (zero, omega arith, ap Some (sym e))
first_or_after first least marks (inr (j, within, e)) = (suc j, omega arith, e)

pub is_one : (marks : List TidSet) → 1 ≤ length marks → StandsIn marks (least_of marks)
is_one [] some = absurd (omega arith)
is_one (first ∷ marks) some = first_or_after first (fold lower first marks) marks (stands_after first marks)

either : (P : TidSet → Type 0) (t : Bool) (x y : TidSet) → P x → P y → P (cond t x y)
either P true x y p q = p
either P false x y p q = q

-- of two sets the one that is taken begins both
begins_two : (first mark : TidSet) (t : Bool) → begins mark first ≡ t → IsCanonical first → IsCanonical mark
    → (begins first mark ≡ true) ⊎ (begins mark first ≡ true) → (begins (cond t mark first) first ≡ true) × (begins (cond t mark first) mark ≡ true)
begins_two first mark true e f m c = (e, begins_itself mark m)
begins_two first mark false e f m (inl p) = (begins_itself first f, p)
begins_two first mark false e f m (inr p) = absurd (true≢false (sym p ∙ e))

begins_marks : (first : TidSet) (marks : List TidSet) → AllByRecursion IsCanonical (first ∷ marks) → IsChain (first ∷ marks)
    → IsCanonical (fold lower first marks) × AllByRecursion (λ mark. begins (fold lower first marks) mark ≡ true) (first ∷ marks)
begins_marks first [] h k = (h.0, (begins_itself first h.0, tt))
begins_marks first (mark ∷ marks) h k =
    let next : TidSet = lower first mark in
    let fits : IsCanonical next = either IsCanonical (begins mark first) mark first h.1.0 h.0 in
    let chain : AllByRecursion (λ other. (begins next other ≡ true) ⊎ (begins other next ≡ true)) marks =
    either (λ set. AllByRecursion (λ other. (begins set other ≡ true) ⊎ (begins other set ≡ true)) marks) (begins mark first) mark first k.1.0 k.0.1 in
    let rest = begins_marks next marks (fits, h.1.1) (chain, k.1.1) in
    let two = begins_two first mark (begins mark first) refl h.0 h.1.0 k.0.0 in
    let least : TidSet = fold lower next marks in
    (rest.0, (begins_on least next first rest.0 fits h.0 rest.1.0 two.0, (begins_on least next mark rest.0 fits h.1.0 rest.1.0 two.1, rest.1.1)))

pub begins_each : (marks : List TidSet) → AllByRecursion IsCanonical marks → IsChain marks → AllByRecursion (λ mark. begins (least_of marks) mark ≡ true) marks
begins_each [] h k = tt
begins_each (first ∷ marks) h k = (begins_marks first marks h k).1

at : (P : TidSet → Type 0) (marks : List TidSet) (j : ℕ) (mark : TidSet) → AllByRecursion P marks → slice_get marks j ≡ Some mark → P mark
at P [] j mark h e = absurd cc
at P (first ∷ marks) zero mark h e = subst P (some_is first mark e) h.0
at P (first ∷ marks) (suc j) mark h e = at P marks j mark h.1 e

pub begins_all : (marks : List TidSet) (j : ℕ) (mark : TidSet) → AllByRecursion IsCanonical marks → IsChain marks
    → slice_get marks j ≡ Some mark → begins (least_of marks) mark ≡ true
begins_all marks j mark h k e = at (λ set. begins (least_of marks) set ≡ true) marks j mark (begins_each marks h k) e
