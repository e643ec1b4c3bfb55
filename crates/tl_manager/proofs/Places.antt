-- What stands at the places of a board.
use Rattle.std.proofs.Common.{◌≡◌, ◌≢◌, ◌<◌, ℕ, zero, suc, ◌+◌, ◌==◌, Bool, true, false, cond, List, [], ◌∷◌, length, slice_get, slice_index_or, slice_set, Option, Some, None, refl, sym, ap, ◌∙◌, arith, eq-eqb, eqb-true, ne_eqb, true≢false}
use Rattle.std.specs.Cmp.{nat_cmp_total, unsigned_tied}
use Rattle.std.specs.FinMap as map
use Rattle.std.specs.FinMap.{nat_cmp-IsAntisymmetric}
use Rattle.std.specs.FinMap.Entries.{find}
use Rattle.std.specs.Ordering.{eq_by_cmp, nat_cmp}
use Rattle.tl_base.specs.declared.node.NodeSet.{NodeSet}
use Rattle.tl_manager.specs.Board.{listed, on_board}

abbrev flat : Option (Option NodeSet) → Option NodeSet
flat None = None
flat (Some found) = found

differs : (a b : ℕ) → a ≢ b → eq_by_cmp nat_cmp a b ≡ false
differs a b h = unsigned_tied a b ∙ ne_eqb a b h

ties : (a b : ℕ) → a ≡ b → eq_by_cmp nat_cmp a b ≡ true
ties a b h = unsigned_tied a b ∙ eq-eqb a b h

-- no notice stands before the first place
find-before : (node : ℕ) (places : List (Option NodeSet)) (q : ℕ) → q < node → find nat_cmp q (listed node places) ≡ None
find-before node [] q h = refl
find-before node (None ∷ places) q h = find-before (suc node) places q (omega arith)
find-before node (Some nodes ∷ places) q h =
    ap (λ b. cond b (Some nodes) (find nat_cmp q (listed (suc node) places))) (differs q node (λ same. omega arith)) ∙ find-before (suc node) places q (omega arith)

find-at : (node : ℕ) (places : List (Option NodeSet)) (i q : ℕ) → q ≡ node + i → find nat_cmp q (listed node places) ≡ flat (slice_get places i)
find-at node [] i q e = refl
find-at node (None ∷ places) zero q e = find-before (suc node) places q (omega arith)
find-at node (None ∷ places) (suc i) q e = find-at (suc node) places i q (omega arith)
find-at node (Some nodes ∷ places) zero q e = ap (λ b. cond b (Some nodes) (find nat_cmp q (listed (suc node) places))) (ties q node (omega arith))
find-at node (Some nodes ∷ places) (suc i) q e =
    ap (λ b. cond b (Some nodes) (find nat_cmp q (listed (suc node) places))) (differs q node (λ same. omega arith)) ∙ find-at (suc node) places i q (omega arith)

-- the notice of the node at a place
get-place : (places : List (Option NodeSet)) (i q : ℕ) → q ≡ i + 1 → map.get (on_board places) q ≡ flat (slice_get places i)
get-place places i q e = map.get-from_entries nat_cmp_total (listed 1 places) q ∙ find-at 1 places i q (omega arith)

index-flat : (places : List (Option NodeSet)) (i : ℕ) → slice_index_or places i None ≡ flat (slice_get places i)
index-flat [] i = refl
index-flat (p ∷ places) zero = refl
index-flat (p ∷ places) (suc i) = index-flat places i

pub read_is : (places : List (Option NodeSet)) (i node : ℕ) → node ≡ i + 1 → slice_index_or places i None ≡ map.get (on_board places) node
read_is places i node e = index-flat places i ∙ sym (get-place places i node e)

get-zero : (places : List (Option NodeSet)) → map.get (on_board places) 0 ≡ None
get-zero places = map.get-from_entries nat_cmp_total (listed 1 places) 0 ∙ find-before 1 places 0 (omega arith)

set-here : (places : List (Option NodeSet)) (i : ℕ) (found : Option NodeSet) → i < length places → flat (slice_get (slice_set places i found) i) ≡ found
set-here [] i found h = absurd (omega arith)
set-here (p ∷ places) zero found h = refl
set-here (p ∷ places) (suc i) found h = set-here places i found (omega arith)

set-elsewhere : (places : List (Option NodeSet)) (i j : ℕ) (found : Option NodeSet) → i ≢ j → flat (slice_get (slice_set places i found) j) ≡ flat (slice_get places j)
set-elsewhere [] i j found h = refl
set-elsewhere (p ∷ places) zero zero found h = absurd (h refl)
set-elsewhere (p ∷ places) zero (suc j) found h = refl
set-elsewhere (p ∷ places) (suc i) zero found h = refl
set-elsewhere (p ∷ places) (suc i) (suc j) found h = set-elsewhere places i j found (λ e. h (ap suc e))

-- what stands at a node's place after a write, by whether it is that place
set-place : (places : List (Option NodeSet)) (i j node : ℕ) (found : Option NodeSet) → i < length places → node ≡ i + 1 → (t : Bool) → (j == i) ≡ t
    → flat (slice_get (slice_set places i found) j) ≡ cond (eq_by_cmp nat_cmp (suc j) node) found (map.get (on_board places) (suc j))
set-place places i j node found h e true same =
    let here : j ≡ i = eqb-true j i same in
    ap (λ k. flat (slice_get (slice_set places i found) k)) here
    ∙ set-here places i found h
    ∙ sym (ap (λ b. cond b found (map.get (on_board places) (suc j))) (ties (suc j) node (omega arith)))
set-place places i j node found h e false other =
    let away : j ≢ i = λ same. true≢false (sym (eq-eqb j i same) ∙ other) in
    set-elsewhere places i j found (λ same. away (sym same))
    ∙ sym (get-place places j (suc j) (omega arith))
    ∙ sym (ap (λ b. cond b found (map.get (on_board places) (suc j))) (differs (suc j) node (λ same. away (omega arith))))

-- what stands under q after a write at the place of a node
get-set : (places : List (Option NodeSet)) (i node q : ℕ) (found : Option NodeSet) → i < length places → node ≡ i + 1
    → map.get (on_board (slice_set places i found)) q ≡ cond (eq_by_cmp nat_cmp q node) found (map.get (on_board places) q)
get-set places i node zero found h e =
    get-zero (slice_set places i found) ∙ sym (ap (λ b. cond b found (map.get (on_board places) 0)) (differs 0 node (λ same. omega arith)) ∙ get-zero places)
get-set places i node (suc j) found h e =
    get-place (slice_set places i found) j (suc j) (omega arith) ∙ set-place places i j node found h e (j == i) refl

pub put_is : (places : List (Option NodeSet)) (i node : ℕ) (nodes : NodeSet) → i < length places → node ≡ i + 1
    → on_board (slice_set places i (Some nodes)) ≡ map.insert (on_board places) node nodes
put_is places i node nodes h e =
    map.same_map nat_cmp_total nat_cmp-IsAntisymmetric _ _ (λ q. get-set places i node q (Some nodes) h e ∙ sym (map.get-insert nat_cmp_total (on_board places) node nodes q))

pub cleared_is : (places : List (Option NodeSet)) (i node : ℕ) → i < length places → node ≡ i + 1
    → on_board (slice_set places i None) ≡ map.remove (on_board places) node
cleared_is places i node h e =
    map.same_map nat_cmp_total nat_cmp-IsAntisymmetric _ _ (λ q. get-set places i node q None h e ∙ sym (map.get-remove nat_cmp_total (on_board places) node q))
