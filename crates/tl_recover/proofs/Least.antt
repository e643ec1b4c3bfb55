-- The least node of a set.
use Rattle.std.proofs.Common.{◌≡◌, ℕ, zero, suc, ◌-◌, ◌^◌, ◌==◌, ◌≤◌, max, Bool, true, false, cond, List, [], ◌∷◌, Some, None, filter, drop, refl, sym, ap, ◌∙◌, arith}
use Rattle.std.specs.Int.{bit_at}
use Rattle.std.proofs.lemmas.Nat.Bits.{bit_at_or, bit_at-lt, bit_at-pow_same}
use Rattle.tl_base.specs.NodeSet.{has_node, with_node}
use Rattle.tl_base.specs.declared.node.NodeSet.{NodeSet}
use Rattle.tl_base.specs.declared.place.Settings.{Settings}
use Rattle.tl_journal.specs.Node.{all_nodes, nodes_in}
use Rattle.tl_recover.specs.declared.after.After.{After}
use Rattle.tl_recover.specs.declared.phase.Phase.TheVariants as phase
use Rattle.tl_recover.specs.Duties.{first_of}
use Rattle.tl_recover.specs.Heeds.{request_of, written}
use Rattle.tl_recover.specs.Taken.{duties_after, finding}
use Rattle.tl_recover.proofs.Numbers.{from_number}
use Rattle.tl_recover.proofs.Rising.{after_none}
use Rattle.tl_protocol.proofs.Held.{above_bit, vanished_here}

rest_none : (b : Bool) (x : ℕ) (xs : List ℕ) → cond b (x ∷ xs) xs ≡ [] → xs ≡ []
rest_none true x xs e = absurd cc
rest_none false x xs e = e

-- where none is chosen, none is behind a place either
none_behind : (p : ℕ → Bool) (k : ℕ) (xs : List ℕ) → filter p xs ≡ [] → filter p (drop k xs) ≡ []
none_behind p zero xs e = e
none_behind p (suc k) [] e = refl
none_behind p (suc k) (x ∷ xs) e = none_behind p k xs (rest_none (p x) x (filter p xs) e)

chosen_first : (b : Bool) (x : ℕ) (xs : List ℕ) → b ≡ true → cond b (x ∷ xs) xs ≡ [] → ⊥
chosen_first true x xs on e = cc
chosen_first false x xs on e = cc

not_none : (all : NodeSet) (node : ℕ) → has_node all node ≡ true → 1 ≤ node → node ≤ 16 → nodes_in all ≡ [] → ⊥
not_none all node on least greatest none =
    let behind : filter (has_node all) (drop (node - 1) all_nodes) ≡ [] = none_behind (has_node all) (node - 1) all_nodes none in
    chosen_first (has_node all node) node (filter (has_node all) (drop node all_nodes)) on
    (ap (filter (has_node all)) (sym (from_number node least greatest)) ∙ behind)

first_is : (nodes : List ℕ) (node : ℕ) → Some node ≡ first_of nodes → (later : List ℕ) × (nodes ≡ node ∷ later)
first_is [] node e = absurd cc
first_is (n ∷ later) node e = let same : n ≡ node = cc in (later, ap (λ (m : ℕ). m ∷ later) same)

none_is : (nodes : List ℕ) → None ≡ first_of nodes → nodes ≡ []
none_is [] e = refl
none_is (n ∷ later) e = absurd cc

pub least_first : (all : NodeSet) (node : ℕ) → Some node ≡ first_of (duties_after 0 all) → (later : List ℕ) × (nodes_in all ≡ node ∷ later)
least_first all node e = first_is (nodes_in all) node (e ∙ ap first_of (after_none all))

pub some_least : (all : NodeSet) (node : ℕ) → has_node all node ≡ true → 1 ≤ node → node ≤ 16 → None ≡ first_of (duties_after 0 all) → ⊥
some_least all node on least greatest e = not_none all node on least greatest (none_is (nodes_in all) (e ∙ ap first_of (after_none all)))

-- what a recovery begins with
abbrev pub IsBegun : Settings → NodeSet → After → Type 0
IsBegun settings all after =
    (least : ℕ) × (later : List ℕ) × (nodes_in all ≡ least ∷ later) × (after.phase ≡ phase.Finding least) × (after.next ≡ request_of settings (finding settings least).ask)

pub begun : (settings : Settings) (all : NodeSet) (least : ℕ) (after : After) → (later : List ℕ) × (nodes_in all ≡ least ∷ later) → after ≡ written settings (finding settings least)
    → IsBegun settings all after
begun settings all least after there e = (least, there.0, there.1, ap (λ (a : After). a.phase) e, ap (λ (a : After). a.next) e)
