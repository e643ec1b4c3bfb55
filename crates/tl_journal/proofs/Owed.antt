-- The nodes that a node is to recover, and those of them that are left.
use Rattle.std.proofs.Common.{◌≡◌, ℕ, ◌+◌, ◌<◌, ◌≤◌, Bool, true, false, List, [], ◌∷◌, zero, suc, refl, sym, ap, ◌∙◌, subst, arith}
use Rattle.std.specs.Prelude.{◌==◌, ◌||◌, ◌&&◌, ◌%◌, ◌^◌, ◌-◌, nat_le, nat_lt, filter, if◌then◌else◌}
use Rattle.std.proofs.lemmas.Bool.{eqb-true}
use Rattle.std.proofs.lemmas.Bool.Decides.{nat_tests}
use Rattle.std.proofs.Math.Nat.{zero-div}
use Rattle.tl_base.specs.NodeSet.{has_node, no_nodes, with_node}
use Rattle.tl_base.specs.declared.node.NodeSet.{NodeSet}
use Rattle.tl_protocol.specs.Store.{put}
use Rattle.tl_protocol.specs.World.{Duties, Recovery, NoDuty}
use Rattle.tl_protocol.specs.Next.{owed, without}
use Rattle.tl_protocol.proofs.Held.{vanished_here, vanished_other}
use Rattle.tl_journal.specs.Node.{Claimed, Doing, Outside, Noted, Drawing, Bringing, Inside, Reading, Trying, Stores, Removes, Closing, Ending, Recovering, ReadingLog, Stripping, Finishing, EndingLost, Stopped, all_nodes, nodes_in, owed_by}
use Rattle.tl_journal.specs.Served.{AreNodes}
use Rattle.tl_journal.proofs.Meets.{AreDistinct, ClaimedOk, RecoveryIs, members}

-- ---- sets of nodes

no_node : (d : ℕ) → (nat_le 1 d && has_node no_nodes d) ≡ false
no_node d = none (nat_le 1 d) (has_node no_nodes d) (ap (λ (q : ℕ). q % 2 == 1) (zero-div (2 ^ (d - 1))))
  where
    none : (x y : Bool) → y ≡ false → (x && y) ≡ false
    none x y e = grind arith

-- a claimed notice names its node and those that were posted with it
pub given_nodes : (also : ℕ → Bool) (set : NodeSet) (gone : ℕ) → 1 ≤ gone → AreNodes also set → AreNodes (put gone true also) (with_node set gone)
given_nodes also set gone some are d = by (gone == d) refl
  where
    named : (x y : Bool) → x ≡ true → y ≡ true → true ≡ (x && y)
    named x y e f = grind arith

    first : (n : ℕ) → 1 ≤ n → nat_le 1 n ≡ true
    first n h = grind (arith, nat_tests)

    least : (n : ℕ) → nat_le 1 n ≡ true → 1 ≤ n
    least n h = grind (arith, nat_tests)

    others : (x y z : Bool) → (x ≡ true → y ≡ z) → (x && z) ≡ (x && y)
    others true y z h = sym (h refl)
    others false y z h = refl

    by : (b : Bool) → (gone == d) ≡ b → (if b then true else also d) ≡ (nat_le 1 d && has_node (with_node set gone) d)
    by true e = subst (λ x. true ≡ (nat_le 1 x && has_node (with_node set gone) x)) (eqb-true gone d e)
        (named (nat_le 1 gone) (has_node (with_node set gone) gone) (first gone some) (vanished_here set gone))
    by false e = are d ∙ others (nat_le 1 d) (has_node (with_node set gone) d) (has_node set d)
        (λ h. vanished_other set gone d some (least d h) e)

pub given_small : (set : NodeSet) (gone : ℕ) → 1 ≤ gone → gone ≤ 16 → ((d : ℕ) → 16 < d → has_node set d ≡ false)
    → (d : ℕ) → 16 < d → has_node (with_node set gone) d ≡ false
given_small set gone some few small d h = vanished_other set gone d some (one d h) (apart gone d few h) ∙ small d h
  where
    one : (d : ℕ) → 16 < d → 1 ≤ d
    one d h = omega arith

    apart : (n d : ℕ) → n ≤ 16 → 16 < d → (n == d) ≡ false
    apart n d e h = grind (arith, nat_tests)

-- ---- the nodes of a set in rising order

pub members_filter : (p : ℕ → Bool) (xs : List ℕ) (d : ℕ) → members (filter p xs) d ≡ (p d && members xs d)
members_filter p [] d = none (p d)
  where
    none : (x : Bool) → false ≡ (x && false)
    none x = grind arith
members_filter p (x ∷ xs) d = by (p x) refl (members_filter p xs d)
  where
    kept : (e a b r : Bool) → (e ≡ true → a ≡ true) → r ≡ (a && b) → (e || r) ≡ (a && (e || b))
    kept e a b r h i = grind arith

    dropped : (e a b r : Bool) → (e ≡ true → a ≡ false) → r ≡ (a && b) → r ≡ (a && (e || b))
    dropped e a b r h i = grind arith

    by : (b : Bool) → p x ≡ b → members (filter p xs) d ≡ (p d && members xs d)
        → members (if b then x ∷ filter p xs else filter p xs) d ≡ (p d && members (x ∷ xs) d)
    by true e i = kept (x == d) (p d) (members xs d) (members (filter p xs) d) (λ h. sym (ap p (eqb-true x d h)) ∙ e) i
    by false e i = dropped (x == d) (p d) (members xs d) (members (filter p xs) d) (λ h. sym (ap p (eqb-true x d h)) ∙ e) i

distinct_filter : (p : ℕ → Bool) (xs : List ℕ) → AreDistinct xs → AreDistinct (filter p xs)
distinct_filter p [] h = tt
distinct_filter p (x ∷ xs) h = by (p x) (distinct_filter p xs h.1)
  where
    none : (a b : Bool) → b ≡ false → (a && b) ≡ false
    none a b e = grind arith

    by : (b : Bool) → AreDistinct (filter p xs) → AreDistinct (if b then x ∷ filter p xs else filter p xs)
    by true i = (members_filter p xs x ∙ none (p x) (members xs x) h.0, i)
    by false i = i

abbrev count_from : ℕ → ℕ → List ℕ
count_from low zero = []
count_from low (suc more) = low ∷ count_from (low + 1) more

pub members_count : (low more d : ℕ) → members (count_from low more) d ≡ (nat_le low d && nat_lt d (low + more))
members_count low zero d = none low d
  where
    none : (low d : ℕ) → false ≡ (nat_le low d && nat_lt d (low + zero))
    none low d = grind (arith, nat_tests)
members_count low (suc more) d = next low more d (members (count_from (low + 1) more) d) (members_count (low + 1) more d)
  where
    next : (low more d : ℕ) (r : Bool) → r ≡ (nat_le (low + 1) d && nat_lt d (low + 1 + more)) → (low == d || r) ≡ (nat_le low d && nat_lt d (low + suc more))
    next low more d r e = grind (arith, nat_tests)

distinct_count : (low more : ℕ) → AreDistinct (count_from low more)
distinct_count low zero = tt
distinct_count low (suc more) = (members_count (low + 1) more low ∙ none low more, distinct_count (low + 1) more)
  where
    none : (low more : ℕ) → (nat_le (low + 1) low && nat_lt low (low + 1 + more)) ≡ false
    none low more = grind (arith, nat_tests)

-- each node of the set is in the list, and once
pub nodes_members : (set : NodeSet) → ((d : ℕ) → 16 < d → has_node set d ≡ false) → (d : ℕ) → (nat_le 1 d && has_node set d) ≡ members (nodes_in set) d
nodes_members set small d =
    within (has_node set d) (members all_nodes d) d (members_count 1 16 d) (small d) ∙ sym (members_filter (has_node set) all_nodes d)
  where
    within : (x y : Bool) (d : ℕ) → y ≡ (nat_le 1 d && nat_lt d 17) → (16 < d → x ≡ false) → (nat_le 1 d && x) ≡ (x && y)
    within x y d e h = by (nat_le d 16) refl
      where
        by : (b : Bool) → nat_le d 16 ≡ b → (nat_le 1 d && x) ≡ (x && y)
        by true f = grind (arith, nat_tests)
        by false f = let z : x ≡ false = h (grind (arith, nat_tests)) in grind (arith, nat_tests)

pub nodes_distinct : (set : NodeSet) → AreDistinct (nodes_in set)
nodes_distinct set = distinct_filter (has_node set) all_nodes (distinct_count 1 16)

-- ---- the duties

-- what a claimed notice gives
pub claimed_ok : (also : ℕ → Bool) (set : NodeSet) (gone : ℕ) → 1 ≤ gone → gone ≤ 16 → ((d : ℕ) → 16 < d → has_node set d ≡ false) → AreNodes also set
    → ClaimedOk (record { node = gone; all = with_node set gone; left = nodes_in (with_node set gone) })
    (record { node = gone; all = put gone true also; left = put gone true also })
claimed_ok also set gone some few small are =
    let all = given_nodes also set gone some are in
    let few : (d : ℕ) → 16 < d → has_node (with_node set gone) d ≡ false = given_small set gone some few small in
    record {
      node = refl;
      all = all;
      left = λ d. all d ∙ nodes_members (with_node set gone) few d;
      distinct = nodes_distinct (with_node set gone);
      small = few;
    }

-- the first duty is seen to
pub claimed_rest : (c : Claimed) (duties : Duties) (d : ℕ) (left : List ℕ) → ClaimedOk (record c { left = d ∷ left }) duties
    → ClaimedOk (record c { left = left }) (without d duties)
claimed_rest c duties d left ok = record {
  node = ok.node;
  all = ok.all;
  left = λ e. by e (d == e) refl;
  distinct = ok.distinct.1;
  small = ok.small;
}
  where
    rest : (x y r : Bool) → x ≡ false → r ≡ (x || y) → r ≡ y
    rest x y r e f = grind arith

    by : (e : ℕ) (b : Bool) → (d == e) ≡ b → (if b then false else duties.left e) ≡ members left e
    by e true h = sym ok.distinct.0 ∙ ap (members left) (eqb-true d e h)
    by e false h = rest (d == e) (members left e) (duties.left e) h (ok.left e)

-- the first duty is one
pub first_left : (c : Claimed) (duties : Duties) (d : ℕ) (left : List ℕ) → ClaimedOk (record c { left = d ∷ left }) duties → duties.left d ≡ true
first_left c duties d left ok = ok.left d ∙ one d (members left d)
  where
    one : (d : ℕ) (y : Bool) → (d == d || y) ≡ true
    one d y = grind (arith, nat_tests)

none_owed : (r : Recovery) → r ≡ NoDuty → AreNodes (owed r) no_nodes
none_owed r e d = ap (λ x. owed x d) e ∙ sym (no_node d)

-- what a node owes is what its protocol state owes
pub owed_is : (doing : Doing) (r : Recovery) → RecoveryIs doing r → AreNodes (owed r) (owed_by doing)
owed_is Outside r h = none_owed r h
owed_is (Noted seen) r h = none_owed r h
owed_is (Drawing seen) r h = none_owed r h
owed_is (Bringing seen low) r h = none_owed r h
owed_is (Inside t) r h = none_owed r h
owed_is (Reading t reads) r h = none_owed r h
owed_is (Trying t) r h = none_owed r h
owed_is (Stores s l) r h = none_owed r h
owed_is (Removes s l) r h = none_owed r h
owed_is (Closing t d c) r h = none_owed r h
owed_is (Ending tid told) r h = none_owed r h
owed_is (Recovering c) r h = λ d. ap (λ x. owed x d) h.1 ∙ h.2.all d
owed_is (ReadingLog c o) r h = λ d. ap (λ x. owed x d) h.1 ∙ h.2.all d
owed_is (Stripping c o log keys l) r h = λ d. ap (λ x. owed x d) h.2 ∙ h.3.all d
owed_is (Finishing c o committed l) r h = λ d. ap (λ x. owed x d) h.1 ∙ h.2.all d
owed_is (EndingLost c o) r h = λ d. ap (λ x. owed x d) h.1 ∙ h.2.all d
owed_is (Stopped nodes) r h = h
