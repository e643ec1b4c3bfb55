-- Duties in rising order: behind the first of those that are left, the ones after it are left.
use Rattle.std.proofs.Common.{◌≡◌, ℕ, ◌<◌, ◌≤◌, Bool, true, false, cond, List, [], ◌∷◌, filter, refl, sym, ap, subst, ◌∙◌, arith}
use Rattle.std.specs.Prelude.{nat_lt}
use Rattle.std.proofs.lemmas.Bool.{ltb-true, lt-ltb}
use Rattle.std.proofs.lemmas.Bool.Decides.{nat_tests}
use Rattle.tl_base.specs.NodeSet.{has_node}
use Rattle.tl_base.specs.declared.node.NodeSet.{NodeSet}
use Rattle.tl_journal.specs.Node.{all_nodes, nodes_in}
use Rattle.tl_recover.specs.Taken.{duties_after}

-- each is above the one before it, and the first above d
abbrev Rises : ℕ → List ℕ → Type 0
Rises d [] = Unit {0}
Rises d (x ∷ xs) = (d < x) × Rises x xs

lower : (d e : ℕ) (xs : List ℕ) → e ≤ d → Rises d xs → Rises e xs
lower d e [] le r = tt
lower d e (x ∷ xs) le r = let first = r.0 in (omega arith, r.1)

kept_or_not : (b : Bool) (d x : ℕ) (xs : List ℕ) → d < x → Rises x xs → Rises d (cond b (x ∷ xs) xs)
kept_or_not true d x xs lt r = (lt, r)
kept_or_not false d x xs lt r = lower x d xs (omega arith) r

chosen_rise : (p : ℕ → Bool) (d : ℕ) (xs : List ℕ) → Rises d xs → Rises d (filter p xs)
chosen_rise p d [] r = tt
chosen_rise p d (x ∷ xs) r = kept_or_not (p x) d x (filter p xs) r.0 (chosen_rise p x xs r.1)

-- what rises from e on is all above d
all_above : (d e : ℕ) (xs : List ℕ) → d ≤ e → Rises e xs → filter (λ n. nat_lt d n) xs ≡ xs
all_above d e [] le r = refl
all_above d e (x ∷ xs) le r =
    let above = r.0 in
    let here : nat_lt d x ≡ true = lt-ltb d x (omega arith) in
    rw here (ap (λ (ys : List ℕ). x ∷ ys) (all_above d x xs (omega arith) r.1))

not_below_itself : (d : ℕ) → nat_lt d d ≡ false
not_below_itself d = grind (arith, nat_tests)

behind : (d : ℕ) (left : List ℕ) → Rises d left → filter (λ n. nat_lt d n) (d ∷ left) ≡ left
behind d left r = rw (not_below_itself d) (all_above d d left (omega arith) r)

pub behind_first : (b d : ℕ) (ys left : List ℕ) → Rises b ys → ys ≡ d ∷ left → left ≡ filter (λ n. nat_lt d n) ys
behind_first b d ys left r e =
    let rest : Rises b (d ∷ left) = subst (λ (zs : List ℕ). Rises b zs) e r in
    subst (λ (zs : List ℕ). left ≡ filter (λ n. nat_lt d n) zs) (sym e) (sym (behind d left rest.1))

first_kept : (b : Bool) (d e y : ℕ) (ys left : List ℕ) → nat_lt d y ≡ b → (ys ≡ e ∷ left → nat_lt d e ≡ true) → cond b (y ∷ ys) ys ≡ e ∷ left → nat_lt d e ≡ true
first_kept true d e y ys left test later h = let same : y ≡ e = cc in subst (λ (x : ℕ). nat_lt d x ≡ true) same test
first_kept false d e y ys left test later h = later h

above : (d e : ℕ) (ys left : List ℕ) → filter (λ n. nat_lt d n) ys ≡ e ∷ left → nat_lt d e ≡ true
above d e [] left h = absurd cc
above d e (y ∷ ys) left h = first_kept (nat_lt d y) d e y (filter (λ n. nat_lt d n) ys) left refl (above d e ys left) h

not_above : (d e y : ℕ) → nat_lt d e ≡ true → nat_lt d y ≡ false → nat_lt e y ≡ false
not_above d e y lt le = grind (arith, nat_tests)

behind_kept : (b : Bool) (d e y : ℕ) (ys left : List ℕ) → nat_lt d y ≡ b → Rises y ys → (filter (λ n. nat_lt d n) ys ≡ e ∷ left → left ≡ filter (λ n. nat_lt e n) ys)
    → cond b (y ∷ filter (λ n. nat_lt d n) ys) (filter (λ n. nat_lt d n) ys) ≡ e ∷ left → left ≡ filter (λ n. nat_lt e n) (y ∷ ys)
behind_kept true d e y ys left test r later h =
    let same : y ≡ e = cc in
    let rest : filter (λ n. nat_lt d n) ys ≡ left = cc in
    let less : d < y = ltb-true d y test in
    let all : ys ≡ left = sym (all_above d y ys (omega arith) r) ∙ rest in
    subst (λ (x : ℕ). left ≡ filter (λ n. nat_lt x n) (y ∷ ys)) same (sym (behind y ys r ∙ all))
behind_kept false d e y ys left test r later h =
    let off : nat_lt e y ≡ false = not_above d e y (above d e ys left h) test in
    rw off (later h)

pub behind_next : (b d e : ℕ) (ys left : List ℕ) → Rises b ys → filter (λ n. nat_lt d n) ys ≡ e ∷ left → left ≡ filter (λ n. nat_lt e n) ys
behind_next b d e [] left r h = absurd cc
behind_next b d e (y ∷ ys) left r h = behind_kept (nat_lt d y) d e y ys left refl r.1 (behind_next y d e ys left r.1) h

all_rise : Rises 0 all_nodes
all_rise = (omega arith, (omega arith, (omega arith, (omega arith, (omega arith, (omega arith, (omega arith, (omega arith, (omega arith, (omega arith, (omega arith, (omega arith, (omega arith, (omega arith, (omega arith, (omega arith, tt))))))))))))))))

nodes_rise : (all : NodeSet) → Rises 0 (nodes_in all)
nodes_rise all = chosen_rise (has_node all) 0 all_nodes all_rise

pub after_first : (all : NodeSet) (d : ℕ) (left : List ℕ) → nodes_in all ≡ d ∷ left → left ≡ duties_after d all
unfolding duties_after
after_first all d left e = behind_first 0 d (nodes_in all) left (nodes_rise all) e

pub after_next : (all : NodeSet) (d e : ℕ) (left : List ℕ) → duties_after d all ≡ e ∷ left → left ≡ duties_after e all
unfolding duties_after
after_next all d e left h = behind_next 0 d e (nodes_in all) left (nodes_rise all) h

-- each node's number is above 0
pub after_none : (all : NodeSet) → duties_after 0 all ≡ nodes_in all
unfolding duties_after
after_none all = all_above 0 0 (nodes_in all) (let same : 0 ≤ 0 = omega arith in same) (nodes_rise all)
