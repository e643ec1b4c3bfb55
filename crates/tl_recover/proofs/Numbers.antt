-- The nodes of a set, one number after the other.
use Rattle.std.proofs.Common.{◌≡◌, ℕ, zero, suc, ◌+◌, ◌-◌, ◌<◌, ◌≤◌, Bool, true, false, cond, List, [], ◌∷◌, Some, filter, drop, refl, ap, subst, ◌∙◌, arith}
use Rattle.std.specs.Prelude.{nat_lt, ◌&&◌}
use Rattle.tl_base.specs.NodeSet.{has_node}
use Rattle.tl_base.specs.declared.node.NodeSet.{NodeSet}
use Rattle.tl_journal.specs.Node.{all_nodes}
use Rattle.tl_recover.specs.Duties.{first_of}
use Rattle.tl_recover.specs.Taken.{duties_after}

-- the nodes of the set after this one, of those from this number on
unfoldable pub picked : ℕ → NodeSet → ℕ → List ℕ
picked node all number = filter (λ n. nat_lt node n) (filter (has_node all) (drop (number - 1) all_nodes))

numbered : (j : ℕ) → j < 16 → drop j all_nodes ≡ (j + 1) ∷ drop (j + 1) all_nodes
numbered zero h = refl
numbered (suc zero) h = refl
numbered (suc (suc zero)) h = refl
numbered (suc (suc (suc zero))) h = refl
numbered (suc (suc (suc (suc zero)))) h = refl
numbered (suc (suc (suc (suc (suc zero))))) h = refl
numbered (suc (suc (suc (suc (suc (suc zero)))))) h = refl
numbered (suc (suc (suc (suc (suc (suc (suc zero))))))) h = refl
numbered (suc (suc (suc (suc (suc (suc (suc (suc zero)))))))) h = refl
numbered (suc (suc (suc (suc (suc (suc (suc (suc (suc zero))))))))) h = refl
numbered (suc (suc (suc (suc (suc (suc (suc (suc (suc (suc zero)))))))))) h = refl
numbered (suc (suc (suc (suc (suc (suc (suc (suc (suc (suc (suc zero))))))))))) h = refl
numbered (suc (suc (suc (suc (suc (suc (suc (suc (suc (suc (suc (suc zero)))))))))))) h = refl
numbered (suc (suc (suc (suc (suc (suc (suc (suc (suc (suc (suc (suc (suc zero))))))))))))) h = refl
numbered (suc (suc (suc (suc (suc (suc (suc (suc (suc (suc (suc (suc (suc (suc zero)))))))))))))) h = refl
numbered (suc (suc (suc (suc (suc (suc (suc (suc (suc (suc (suc (suc (suc (suc (suc zero))))))))))))))) h = refl
numbered (suc (suc (suc (suc (suc (suc (suc (suc (suc (suc (suc (suc (suc (suc (suc (suc j)))))))))))))))) h = absurd (omega arith)

pub from_number : (k : ℕ) → 1 ≤ k → k ≤ 16 → drop (k - 1) all_nodes ≡ k ∷ drop k all_nodes
from_number k least greatest =
    let before : k - 1 < 16 = omega arith in
    subst (λ (m : ℕ). drop (k - 1) all_nodes ≡ m ∷ drop m all_nodes) (let back : (k - 1) + 1 ≡ k = omega arith in back) (numbered (k - 1) before)

and_true : (a : Bool) → (a && true) ≡ false → a ≡ false
and_true true e = e
and_true false e = refl

skipped : (a b : Bool) (p : ℕ → Bool) (x : ℕ) (xs : List ℕ) → p x ≡ a → (a && b) ≡ false → filter p (cond b (x ∷ xs) xs) ≡ filter p xs
skipped a true p x xs e off = let no_test : p x ≡ false = e ∙ and_true a off in rw no_test refl
skipped a false p x xs e off = refl

first_picked : (a b : Bool) (p : ℕ → Bool) (x : ℕ) (xs : List ℕ) → p x ≡ a → (a && b) ≡ true → first_of (filter p (cond b (x ∷ xs) xs)) ≡ Some x
first_picked true true p x xs e on = rw e refl
first_picked true false p x xs e on = absurd cc
first_picked false b p x xs e on = absurd cc

pub goes_past : (node : ℕ) (all : NodeSet) (k : ℕ) → 1 ≤ k → k ≤ 16 → (nat_lt node k && has_node all k) ≡ false → picked node all k ≡ picked node all (k + 1)
unfolding picked
goes_past node all k least greatest off =
    ap (λ (ns : List ℕ). filter (λ n. nat_lt node n) (filter (has_node all) ns)) (from_number k least greatest)
    ∙ skipped (nat_lt node k) (has_node all k) (λ n. nat_lt node n) k (filter (has_node all) (drop k all_nodes)) refl off
    ∙ ap (λ (m : ℕ). filter (λ n. nat_lt node n) (filter (has_node all) (drop m all_nodes))) (let back : k ≡ (k + 1) - 1 = omega arith in back)

pub finds : (node : ℕ) (all : NodeSet) (k : ℕ) → 1 ≤ k → k ≤ 16 → (nat_lt node k && has_node all k) ≡ true → first_of (picked node all k) ≡ Some k
unfolding picked
finds node all k least greatest on =
    ap (λ (ns : List ℕ). first_of (filter (λ n. nat_lt node n) (filter (has_node all) ns))) (from_number k least greatest)
    ∙ first_picked (nat_lt node k) (has_node all k) (λ n. nat_lt node n) k (filter (has_node all) (drop k all_nodes)) refl on

pub all_picked : (node : ℕ) (all : NodeSet) → picked node all 1 ≡ duties_after node all
unfolding picked duties_after
all_picked node all = refl

pub none_picked : (node : ℕ) (all : NodeSet) (number : ℕ) → 17 ≤ number → number ≤ 17 → picked node all number ≡ []
unfolding picked
none_picked node all number least greatest =
    let end : 17 ≡ number = omega arith in
    subst (λ (n : ℕ). filter (λ m. nat_lt node m) (filter (has_node all) (drop (n - 1) all_nodes)) ≡ []) end refl
