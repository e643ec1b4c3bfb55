-- What a turn of the machine leaves of its lists: the held transactions, the states of nodes, the vanished nodes.
use Rattle.std.proofs.Common.{◌≡◌, ℕ, ◌≤◌, ◌-◌, ◌^◌, ◌==◌, max, Bool, true, false, not, cond, ◌||◌, List, [], ◌∷◌, ◌++◌, Option, Some, None, option_map, if◌then◌else◌, map, filter, find, refl, sym, ap, subst, ◌∙◌, arith}
use Rattle.std.specs.Option.{option_or, unwrap_or}
use Rattle.std.specs.List.{list_any, AllByRecursion}
use Rattle.std.specs.Int.{bit_at}
use Rattle.std.proofs.lemmas.Bool.{both_ways, or_left, eqb-true, eq-eqb, eqb-false, not_from_true, not_from_false, false_from_ne_true}
use Rattle.std.proofs.lemmas.Bool.Decides.{nat_tests}
use Rattle.std.proofs.lemmas.List.Folds.{find-append, list_any-append}
use Rattle.std.proofs.lemmas.Nat.Bits.{bit_at_or, bit_at-lt, bit_at-pow_same, bit_at-pow_other}
use Rattle.std.proofs.lemmas.Option.{same_Some}
use Rattle.tl_lemmas.proofs.Lists.{all_both, all_filter, all_map, all_of, all_push, filter_none, find_filter, find_map, found, or_none, passes, weaker}
use Rattle.tl_base.specs.declared.node.NodeSet.{NodeSet}
use Rattle.tl_base.specs.NodeSet.{has_node, with_node}
use Rattle.tl_isolation.specs.declared.entry.Answer.{Answer}
use Rattle.tl_isolation.specs.declared.state.NodeState.{NodeState}
use Rattle.tl_isolation.specs.declared.state.Transaction.{Transaction}
use Rattle.tl_isolation.specs.declared.state.TxnPhase.TheVariants as phase
use Rattle.tl_isolation.specs.State.{held_as, held_by, idle, is_idle, node_of, put_held, put_node, without_held}
use Rattle.tl_isolation.specs.Step.{begin, lose}
use Rattle.tl_protocol.proofs.Ledger.{lost}
use Rattle.tl_protocol.proofs.Shown.{IsTidy}
use Rattle.tl_isolation.proofs.Known.{node_at}

abbrev pub AreTidy : List Transaction → List ℕ → Type 0
AreTidy held numbers = AllByRecursion (IsTidy held numbers) held

-- of held transactions only the node's changed
pub record HeldTurn (old new : List Transaction) (numbers : List ℕ) (n : ℕ) (now : Option Transaction) : Type 0 where
  pub tidy : AreTidy new numbers
  pub here : held_by n new ≡ now
  pub others : (m : ℕ) → (n == m) ≡ false → held_by m new ≡ held_by m old

-- of what nodes have in hand only the node's changed
pub record NodeTurn (old new : List NodeState) (n : ℕ) (note : Option ℕ) (end : Option Answer) : Type 0 where
  pub noted : (node_of n new).noted ≡ note
  pub outcome : (node_of n new).outcome ≡ end
  pub others : (m : ℕ) → (n == m) ≡ false → node_of m new ≡ node_of m old

different : (m n : ℕ) → (n == m) ≡ false → (m == n) ≡ false
different m n h = grind (arith, nat_tests)

-- the held transaction of a node
pub record IsOf (held : List Transaction) (numbers : List ℕ) (n : ℕ) (t : Transaction) : Type 0 where
  pub tidy : IsTidy held numbers t
  pub is_node : t.node ≡ n

pub held_of : (held : List Transaction) (numbers : List ℕ) (n : ℕ) (t : Transaction) → AreTidy held numbers → held_by n held ≡ Some t → IsOf held numbers n t
held_of held numbers n t tidy e = record {
  tidy = found (IsTidy held numbers) (λ x. x.node == n) held t tidy e;
  is_node = eqb-true t.node n (passes (λ x. x.node == n) held t e);
}

-- two held transactions with one number are one
same_number : (held : List Transaction) (numbers : List ℕ) (t u : Transaction) → IsTidy held numbers t → IsTidy held numbers u → t.tid ≡ u.tid → t ≡ u
same_number held numbers t u x y e = same_Some t u (sym x.by_tid ∙ ap (λ (tid : ℕ). held_as tid held) e ∙ y.by_tid)

-- and two of one node
same_node : (held : List Transaction) (numbers : List ℕ) (t u : Transaction) → IsTidy held numbers t → IsTidy held numbers u → t.node ≡ u.node → t ≡ u
same_node held numbers t u x y e = same_Some t u (sym x.by_node ∙ ap (λ (node : ℕ). held_by node held) e ∙ y.by_node)

-- the change leaves number and node
record Keeps (f : Transaction → Transaction) (t : Transaction) : Type 0 where
  node : (f t).node ≡ t.node
  tid : (f t).tid ≡ t.tid

by_node_map : (held : List Transaction) (f : Transaction → Transaction) → AllByRecursion (Keeps f) held → (n : ℕ) → held_by n (map f held) ≡ option_map f (held_by n held)
by_node_map held f keeps n =
    find_map (λ x. x.node == n) f held
    (weaker (Keeps f) (λ x. ((f x).node == n) ≡ (x.node == n)) (λ x k. ap (λ (m : ℕ). m == n) k.node) held keeps)

by_tid_map : (held : List Transaction) (f : Transaction → Transaction) → AllByRecursion (Keeps f) held → (n : ℕ) → held_as n (map f held) ≡ option_map f (held_as n held)
by_tid_map held f keeps n =
    find_map (λ x. x.tid == n) f held
    (weaker (Keeps f) (λ x. ((f x).tid == n) ≡ (x.tid == n)) (λ x k. ap (λ (m : ℕ). m == n) k.tid) held keeps)

tidy_map : (held : List Transaction) (numbers : List ℕ) (f : Transaction → Transaction) → AreTidy held numbers → AllByRecursion (Keeps f) held → AreTidy (map f held) numbers
tidy_map held numbers f tidy keeps =
    all_map (λ x. IsTidy held numbers x × Keeps f x) (IsTidy (map f held) numbers) f
    (λ x h. record {
      node = subst (λ (n : ℕ). 1 ≤ n) (sym h.1.node) h.0.node;
      by_node = ap (λ (n : ℕ). held_by n (map f held)) h.1.node ∙ by_node_map held f keeps x.node ∙ ap (option_map f) h.0.by_node;
      by_tid = ap (λ (n : ℕ). held_as n (map f held)) h.1.tid ∙ by_tid_map held f keeps x.tid ∙ ap (option_map f) h.0.by_tid;
      begun = ap (λ (n : ℕ). list_any (λ tid. tid == n) numbers) h.1.tid ∙ h.0.begun;
    })
    held (all_both (IsTidy held numbers) (Keeps f) held tidy keeps)

abbrev replaced : Transaction → Transaction → Transaction
replaced t h = if h.tid == t.tid then t else h

-- the node's transaction, changed
pub held_put : (held : List Transaction) (numbers : List ℕ) (n : ℕ) (old t : Transaction) → AreTidy held numbers → held_by n held ≡ Some old
    → t.node ≡ old.node → t.tid ≡ old.tid → HeldTurn held (put_held t held) numbers n (Some t)
held_put held numbers n old t tidy e node tid =
    let o : IsOf held numbers n old = held_of held numbers n old tidy e in
    let keeps : AllByRecursion (Keeps (replaced t)) held = weaker (IsTidy held numbers) (Keeps (replaced t))
    (λ x i. one x i (x.tid == t.tid) refl o.tidy) held tidy in
    record {
      tidy = tidy_map held numbers (replaced t) tidy keeps;
      here = by_node_map held (replaced t) keeps n ∙ ap (option_map (replaced t)) e
          ∙ ap (λ (b : Bool). Some (if b then t else old)) (eq-eqb old.tid t.tid (sym tid));
      others = λ m ne. by_node_map held (replaced t) keeps m ∙ other m ne (held_by m held) refl o;
    }
  where
    one : (x : Transaction) → IsTidy held numbers x → (b : Bool) → (x.tid == t.tid) ≡ b → IsTidy held numbers old → Keeps (replaced t) x
    one x i true f o =
        let same : x ≡ old = same_number held numbers x old i o (eqb-true x.tid t.tid f ∙ tid) in
        record {
          node = ap (λ (b : Bool). (if b then t else x).node) f ∙ node ∙ ap (λ (y : Transaction). y.node) (sym same);
          tid = ap (λ (b : Bool). (if b then t else x).tid) f ∙ sym (eqb-true x.tid t.tid f);
        }
    one x i false f o = record {
      node = ap (λ (b : Bool). (if b then t else x).node) f;
      tid = ap (λ (b : Bool). (if b then t else x).tid) f;
    }

    other : (m : ℕ) → (n == m) ≡ false → (r : Option Transaction) → held_by m held ≡ r → IsOf held numbers n old → option_map (replaced t) r ≡ r
    other m ne None f o = refl
    other m ne (Some x) f o =
        let p : IsOf held numbers m x = held_of held numbers m x tidy f in
        ap (λ (b : Bool). Some (if b then t else x))
        (false_from_ne_true (x.tid == t.tid) (λ i.
        let same : x ≡ old = same_number held numbers x old p.tidy o.tidy (eqb-true x.tid t.tid i ∙ tid) in
        both_ways (n == m) ne (eq-eqb n m (sym o.is_node ∙ ap (λ (y : Transaction). y.node) (sym same) ∙ p.is_node))))

-- the transaction of a node that vanishes
pub held_lost : (held : List Transaction) (numbers : List ℕ) (n : ℕ) → AreTidy held numbers → HeldTurn held (map (lose n) held) numbers n (lost (held_by n held))
held_lost held numbers n tidy =
    let keeps : AllByRecursion (Keeps (lose n)) held = all_of (Keeps (lose n)) (λ x. one x (x.node == n) refl) held in
    record {
      tidy = tidy_map held numbers (lose n) tidy keeps;
      here = by_node_map held (lose n) keeps n ∙ is_lost (held_by n held) refl;
      others = λ m ne. by_node_map held (lose n) keeps m ∙ other m ne (held_by m held) refl;
    }
  where
    one : (x : Transaction) (b : Bool) → (x.node == n) ≡ b → Keeps (lose n) x
    one x true f = record {
      node = ap (λ (b : Bool). (if b then record x { phase = phase.Lost } else x).node) f;
      tid = ap (λ (b : Bool). (if b then record x { phase = phase.Lost } else x).tid) f;
    }
    one x false f = record {
      node = ap (λ (b : Bool). (if b then record x { phase = phase.Lost } else x).node) f;
      tid = ap (λ (b : Bool). (if b then record x { phase = phase.Lost } else x).tid) f;
    }

    is_lost : (r : Option Transaction) → held_by n held ≡ r → option_map (lose n) r ≡ lost r
    is_lost None f = refl
    is_lost (Some x) f = ap (λ (b : Bool). Some (if b then record x { phase = phase.Lost } else x)) (passes (λ y. y.node == n) held x f)

    other : (m : ℕ) → (n == m) ≡ false → (r : Option Transaction) → held_by m held ≡ r → option_map (lose n) r ≡ r
    other m ne None f = refl
    other m ne (Some x) f =
        ap (λ (b : Bool). Some (if b then record x { phase = phase.Lost } else x))
        (ap (λ (i : ℕ). i == n) (eqb-true x.node m (passes (λ y. y.node == m) held x f)) ∙ different m n ne)

-- the node's transaction ends
pub held_ended : (held : List Transaction) (numbers : List ℕ) (n : ℕ) (t : Transaction) → AreTidy held numbers → held_by n held ≡ Some t
    → HeldTurn held (without_held t.tid held) numbers n None
held_ended held numbers n t tidy e =
    let o : IsOf held numbers n t = held_of held numbers n t tidy e in
    record {
      tidy = all_filter (IsTidy held numbers) (IsTidy (without_held t.tid held) numbers) stays (λ x i h. record {
        node = h.node;
        by_node = find_filter (λ y. y.node == x.node) stays held
            (weaker (IsTidy held numbers) (λ y. (y.node == x.node) ≡ true → stays y ≡ true) (λ y k f.
            subst (λ (z : Transaction). stays z ≡ true) (same_node held numbers x y h k (sym (eqb-true y.node x.node f))) i) held tidy)
            ∙ h.by_node;
        by_tid = find_filter (λ y. y.tid == x.tid) stays held
            (weaker (IsTidy held numbers) (λ y. (y.tid == x.tid) ≡ true → stays y ≡ true) (λ y k f.
            subst (λ (z : Transaction). stays z ≡ true) (same_number held numbers x y h k (sym (eqb-true y.tid x.tid f))) i) held tidy)
            ∙ h.by_tid;
        begun = h.begun;
      }) held tidy;
      here = filter_none (λ y. y.node == n) stays held
          (weaker (IsTidy held numbers) (λ y. (y.node == n) ≡ true → stays y ≡ false) (λ y k f.
          let same : y ≡ t = same_node held numbers y t k o.tidy (eqb-true y.node n f ∙ sym o.is_node) in
          not_from_true (y.tid == t.tid) (eq-eqb y.tid t.tid (ap (λ (z : Transaction). z.tid) same))) held tidy);
      others = λ m ne. find_filter (λ y. y.node == m) stays held
          (weaker (IsTidy held numbers) (λ y. (y.node == m) ≡ true → stays y ≡ true) (λ y k f.
          not_from_false (y.tid == t.tid) (false_from_ne_true (y.tid == t.tid) (λ i.
          let same : y ≡ t = same_number held numbers y t k o.tidy (eqb-true y.tid t.tid i) in
          both_ways (n == m) ne (eq-eqb n m (sym o.is_node ∙ ap (λ (z : Transaction). z.node) (sym same) ∙ eqb-true y.node m f))))) held tidy);
    }
  where
    stays : Transaction → Bool
    stays x = not (x.tid == t.tid)

not_held : (held : List Transaction) (numbers : List ℕ) (tid : ℕ) → AreTidy held numbers → list_any (λ x. x == tid) numbers ≡ false
    → (r : Option Transaction) → held_as tid held ≡ r → r ≡ None
not_held held numbers tid tidy free None f = refl
not_held held numbers tid tidy free (Some x) f =
    let i : IsTidy held numbers x = found (IsTidy held numbers) (λ y. y.tid == tid) held x tidy f in
    absurd (both_ways (list_any (λ y. y == tid) numbers) free
    (subst (λ (n : ℕ). list_any (λ y. y == n) numbers ≡ true) (eqb-true x.tid tid (passes (λ y. y.tid == tid) held x f)) i.begun))

-- a transaction of a fresh number begins
pub held_begun : (held : List Transaction) (numbers : List ℕ) (n tid first : ℕ) → AreTidy held numbers → 1 ≤ n → held_by n held ≡ None
    → list_any (λ x. x == tid) numbers ≡ false
    → HeldTurn held (held ++ begin n tid first ∷ []) (numbers ++ tid ∷ []) n (Some (begin n tid first))
held_begun held numbers n tid first tidy node none free =
    let t : Transaction = begin n tid first in
    let push : (p : Transaction → Bool) → find p (held ++ t ∷ []) ≡ option_or (find p held) (cond (p t) (Some t) None) = λ p. find-append p held (t ∷ []) in
    let begun : (m : ℕ) → list_any (λ x. x == m) (numbers ++ tid ∷ []) ≡ (list_any (λ x. x == m) numbers || ((tid == m) || false)) = λ m. list_any-append (λ x. x == m) numbers (tid ∷ []) in
    let itself : (m : ℕ) → cond (m == m) (Some t) None ≡ Some t = λ m. ap (λ (b : Bool). cond b (Some t) None) (eq-eqb m m refl) in
    let by_node : held_by n (held ++ t ∷ []) ≡ Some t =
    push (λ x. x.node == n) ∙ ap (λ (o : Option Transaction). option_or o (cond (n == n) (Some t) None)) none ∙ itself n in
    record {
      tidy = all_push (IsTidy (held ++ t ∷ []) (numbers ++ tid ∷ [])) held t
          (weaker (IsTidy held numbers) (IsTidy (held ++ t ∷ []) (numbers ++ tid ∷ [])) (λ x i. record {
            node = i.node;
            by_node = push (λ y. y.node == x.node) ∙ ap (λ (o : Option Transaction). option_or o (cond (n == x.node) (Some t) None)) i.by_node;
            by_tid = push (λ y. y.tid == x.tid) ∙ ap (λ (o : Option Transaction). option_or o (cond (tid == x.tid) (Some t) None)) i.by_tid;
            begun = begun x.tid ∙ or_left (list_any (λ y. y == x.tid) numbers) ((tid == x.tid) || false) i.begun;
          }) held tidy)
          (record {
            node = node;
            by_node = by_node;
            by_tid = push (λ x. x.tid == tid)
                ∙ ap (λ (o : Option Transaction). option_or o (cond (tid == tid) (Some t) None)) (not_held held numbers tid tidy free (held_as tid held) refl)
                ∙ itself tid;
            begun = begun tid ∙ ap (λ (b : Bool). b || ((tid == tid) || false)) free ∙ ap (λ (b : Bool). b || false) (eq-eqb tid tid refl);
          });
      here = by_node;
      others = λ m ne. push (λ x. x.node == m) ∙ ap (λ (b : Bool). option_or (held_by m held) (cond b (Some t) None)) ne ∙ or_none (held_by m held);
    }

pub held_same : (held : List Transaction) (numbers : List ℕ) (n : ℕ) (now : Option Transaction) → AreTidy held numbers → held_by n held ≡ now → HeldTurn held held numbers n now
held_same held numbers n now tidy e = record { tidy = tidy; here = e; others = λ m ne. refl }

idle_is : (n : ℕ) (noted : Option ℕ) (outcome : Option Answer) → is_idle (record { node = n; noted = noted; outcome = outcome }) ≡ true
    → idle n ≡ record { node = n; noted = noted; outcome = outcome }
idle_is n None None h = refl
idle_is n None (Some a) h = absurd cc
idle_is n (Some m) outcome h = absurd cc

put_node_here : (s : NodeState) (nodes : List NodeState) → node_of s.node (put_node s nodes) ≡ s
put_node_here s nodes =
    ap (λ (o : Option NodeState). unwrap_or o (idle s.node))
    (find-append is_here (filter (λ (o : NodeState). not (o.node == s.node)) nodes) (if is_idle s then [] else s ∷ [])
    ∙ ap (λ (o : Option NodeState). option_or o (find is_here (if is_idle s then [] else s ∷ [])))
    (filter_none is_here (λ (o : NodeState). not (o.node == s.node)) nodes
    (all_of (λ (o : NodeState). (o.node == s.node) ≡ true → not (o.node == s.node) ≡ false) (λ o h. not_from_true (o.node == s.node) h) nodes)))
    ∙ go (is_idle s) refl
  where
    is_here : NodeState → Bool
    is_here o = o.node == s.node

    go : (b : Bool) → is_idle s ≡ b → unwrap_or (find is_here (if b then [] else s ∷ [])) (idle s.node) ≡ s
    go true e = idle_is s.node s.noted s.outcome e
    go false e = ap (λ (b : Bool). unwrap_or (cond b (Some s) None) (idle s.node)) (eq-eqb s.node s.node refl)

put_node_other : (s : NodeState) (nodes : List NodeState) (m : ℕ) → (s.node == m) ≡ false → node_of m (put_node s nodes) ≡ node_of m nodes
put_node_other s nodes m ne =
    ap (λ (o : Option NodeState). unwrap_or o (idle m))
    (find-append is_here (filter (λ (o : NodeState). not (o.node == s.node)) nodes) (if is_idle s then [] else s ∷ [])
    ∙ ap (option_or (find is_here (filter (λ (o : NodeState). not (o.node == s.node)) nodes))) (go (is_idle s))
    ∙ or_none (find is_here (filter (λ (o : NodeState). not (o.node == s.node)) nodes))
    ∙ find_filter is_here (λ (o : NodeState). not (o.node == s.node)) nodes
    (all_of (λ (o : NodeState). (o.node == m) ≡ true → not (o.node == s.node) ≡ true) (λ o h. apart o.node m s.node h ne) nodes))
  where
    is_here : NodeState → Bool
    is_here o = o.node == m

    go : (b : Bool) → find is_here (if b then [] else s ∷ []) ≡ None
    go true = refl
    go false = ap (λ (b : Bool). cond b (Some s) None) ne

    apart : (o m n : ℕ) → (o == m) ≡ true → (n == m) ≡ false → not (o == n) ≡ true
    apart o m n h ne = grind (arith, nat_tests)

-- the node has this in hand
pub node_put : (nodes : List NodeState) (n : ℕ) (s : NodeState) → s.node ≡ n → NodeTurn nodes (put_node s nodes) n s.noted s.outcome
node_put nodes n s e =
    let here : node_of n (put_node s nodes) ≡ s = ap (λ (m : ℕ). node_of m (put_node s nodes)) (sym e) ∙ put_node_here s nodes in
    record {
      noted = ap (λ (x : NodeState). x.noted) here;
      outcome = ap (λ (x : NodeState). x.outcome) here;
      others = λ m ne. put_node_other s nodes m (ap (λ (i : ℕ). i == m) e ∙ ne);
    }

pub node_noted : (nodes : List NodeState) (n : ℕ) (noted : Option ℕ) (outcome : Option Answer) → (node_of n nodes).outcome ≡ outcome
    → NodeTurn nodes (put_node (record (node_of n nodes) { noted = noted }) nodes) n noted outcome
node_noted nodes n noted outcome e =
    subst (λ (o : Option Answer). NodeTurn nodes (put_node (record (node_of n nodes) { noted = noted }) nodes) n noted o) e
    (node_put nodes n (record (node_of n nodes) { noted = noted }) (node_at n nodes))

pub node_outcome : (nodes : List NodeState) (n : ℕ) (noted : Option ℕ) (outcome : Option Answer) → (node_of n nodes).noted ≡ noted
    → NodeTurn nodes (put_node (record (node_of n nodes) { outcome = outcome }) nodes) n noted outcome
node_outcome nodes n noted outcome e =
    subst (λ (o : Option ℕ). NodeTurn nodes (put_node (record (node_of n nodes) { outcome = outcome }) nodes) n o outcome) e
    (node_put nodes n (record (node_of n nodes) { outcome = outcome }) (node_at n nodes))

pub node_same : (nodes : List NodeState) (n : ℕ) (noted : Option ℕ) (outcome : Option Answer) → (node_of n nodes).noted ≡ noted → (node_of n nodes).outcome ≡ outcome
    → NodeTurn nodes nodes n noted outcome
node_same nodes n noted outcome e f = record { noted = e; outcome = f; others = λ m ne. refl }

-- bits of a set of nodes
pub above_bit : (a : ℕ) → a ≤ 1 → max a 1 ≡ 1
above_bit a h = omega arith

no_bit : (a : ℕ) → max a 0 ≡ a
no_bit a = omega arith

pub vanished_here : (set : NodeSet) (n : ℕ) → has_node (with_node set n) n ≡ true
vanished_here set n =
    ap (λ (b : ℕ). b == 1)
    (bit_at_or set.0 (2 ^ (n - 1)) (n - 1) ∙ ap (max (bit_at set.0 (n - 1))) (bit_at-pow_same (n - 1))
    ∙ above_bit (bit_at set.0 (n - 1)) (let below = bit_at-lt set.0 (n - 1) in omega arith))

pub vanished_other : (set : NodeSet) (n m : ℕ) → 1 ≤ n → 1 ≤ m → (n == m) ≡ false → has_node (with_node set n) m ≡ has_node set m
vanished_other set n m one first ne =
    ap (λ (b : ℕ). b == 1)
    (bit_at_or set.0 (2 ^ (n - 1)) (m - 1) ∙ ap (max (bit_at set.0 (m - 1))) (bit_at-pow_other (n - 1) (m - 1) (λ (e : m - 1 ≡ n - 1). eqb-false n m ne (omega arith)))
    ∙ no_bit (bit_at set.0 (m - 1)))
