-- Of the low-water marks that a node keeps the least is that of the protocol.
use Rattle.std.proofs.Common.{◌≡◌, ◌⊎◌, inl, inr, ℕ, zero, suc, ◌+◌, ◌<◌, ◌≤◌, Bool, true, false, List, [], ◌∷◌, length, slice_get, Some, refl, sym, ◌∙◌, subst, arith}
use Rattle.std.specs.Prelude.{if◌then◌else◌}
use Rattle.std.specs.List.{AllByRecursion}
use Rattle.tl_lemmas.proofs.Lists.{some_at}
use Rattle.tl_base.specs.declared.place.Settings.{Settings}
use Rattle.tl_descriptor.specs.Tids.{TidSet, IsCanonical, IsWithin, begins}
use Rattle.tl_descriptor.proofs.Order.{begins_from_within}
use Rattle.tl_manager.specs.Floor.{IsChain}
use Rattle.tl_collect.specs.Floors.{least_of}
use Rattle.tl_collect.proofs.Least.{begins_all, is_one}
use Rattle.tl_protocol.specs.World.{Txn, Fact, World, IsLeast}
use Rattle.tl_protocol.proofs.Finished.{Finished, Snap}
use Rattle.tl_protocol.proofs.Sets.{newer_above}
use Rattle.tl_protocol.proofs.Inv.{Ghost, Inv}
use Rattle.tl_protocol.proofs.Ledger.{Ledger}
use Rattle.tl_journal.specs.Reads.{Reads}
use Rattle.tl_journal.specs.Node.{Node}
use Rattle.tl_journal.proofs.Meets.{IsLaidOut, NodeIs}

-- of two known sets one begins the other
pub one_begins : (a b : TidSet) (ds : List Finished) → Snap a ds → Snap b ds → (begins a b ≡ true) ⊎ (begins b a ≡ true)
one_begins a b ds p q = by (begins a b) refl
  where
    by : (t : Bool) → begins a b ≡ t → (begins a b ≡ true) ⊎ (begins b a ≡ true)
    by true e = inl e
    by false e =
        inr (begins_from_within b a q.known.canonical p.known.canonical (subst (λ (t : Bool). IsWithin b (if t then b else a)) e (newer_above a b ds p q).1))

each_other : (a : TidSet) (bs : List TidSet) (ds : List Finished) → Snap a ds → AllByRecursion (λ s. Snap s ds) bs
    → AllByRecursion (λ b. (begins a b ≡ true) ⊎ (begins b a ≡ true)) bs
each_other a [] ds p q = tt
each_other a (b ∷ bs) ds p q = (one_begins a b ds p q.0, each_other a bs ds p q.1)

-- known sets are a chain
pub known_chain : (sets : List TidSet) (ds : List Finished) → AllByRecursion (λ s. Snap s ds) sets → IsChain sets
known_chain [] ds h = tt
known_chain (a ∷ sets) ds h = (each_other a sets ds h.0 h.1, known_chain sets ds h.1)

pub known_canonical : (sets : List TidSet) (ds : List Finished) → AllByRecursion (λ s. Snap s ds) sets → AllByRecursion IsCanonical sets
known_canonical [] ds h = tt
known_canonical (a ∷ sets) ds h = (h.0.known.canonical, known_canonical sets ds h.1)

-- what holds of each place holds of all
each_place : {A : Type 0} (P : A → Type 0) (xs : List A) → ((j : ℕ) (x : A) → slice_get xs j ≡ Some x → P x) → AllByRecursion P xs
each_place P [] h = tt
each_place P (x ∷ xs) h = (h zero x refl, each_place P xs (λ j y e. h (suc j) y e))

module _ (R : Txn → List Fact → Reads → Type 0) (settings : Settings) (node : Node) (w : World) (n : ℕ) (a : Ledger) (g : Ghost)
    (v : Inv w a g) (o : NodeIs R settings node w n) (laid : IsLaidOut settings w) where
  -- each low-water mark that the node keeps is a known set
  pub marks_known : AllByRecursion (λ s. Snap s g.finished) node.floors
  marks_known =
      each_place (λ s. Snap s g.finished) node.floors
      (λ j floor e. subst (λ s. Snap s g.finished) (o.floors j floor e) (v.core.managers.floor_known n j))

  -- the least of them
  pub least_mark : IsLeast w n (least_of node.floors)
  least_mark =
      let some : 1 ≤ length node.floors = subst (λ k. 1 ≤ k) (sym o.managers) laid.some in
      let one = is_one node.floors some in
      record {
        is_one = (one.0, below one.0 (length node.floors) one.1 (o.managers ∙ sym laid.top), sym (o.floors one.0 (least_of node.floors) one.2));
        begins_all = λ j l.
            let s = some_at node.floors j (above j (length node.floors) l (o.managers ∙ sym laid.top)) in
            subst (λ x. begins (least_of node.floors) x ≡ true) (sym (o.floors j s.0 s.1))
            (begins_all node.floors j s.0 (known_canonical node.floors g.finished marks_known) (known_chain node.floors g.finished marks_known) s.1);
      }
    where
      below : (j k : ℕ) → j < k → k ≡ w.top + 1 → j ≤ w.top
      below j k l e = omega arith

      above : (j k : ℕ) → j ≤ w.top → k ≡ w.top + 1 → j < k
      above j k l e = omega arith
