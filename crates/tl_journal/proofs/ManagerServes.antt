-- What a manager serves by its log is what the protocol's manager replies, and its log goes on to say what the protocol's manager holds.
use Rattle.std.proofs.Common.{◌≡◌, ◌⊎◌, inl, inr, ℕ, zero, suc, ◌+◌, ◌<◌, ◌≤◌, Bool, true, false, cond, List, [], ◌∷◌, ◌++◌, drop, filter, length, length-append, map, Option, Some, None, refl, sym, ap, ◌∙◌, subst, append-nil, arith}
use Rattle.std.specs.Prelude.{◌==◌, ◌-◌, ◌||◌, not}
use Rattle.std.specs.List.{AllByRecursion}
use Rattle.std.proofs.lemmas.Bool.{eq-eqb, eqb-false, eqb-true, ne_eqb, not-true, or_parts}
use Rattle.std.proofs.lemmas.Bool.Decides.{nat_tests}
use Rattle.std.proofs.lemmas.List.{drop-append-le, map-append}
use Rattle.std.proofs.lemmas.List.Elements.{filter-append}
use Rattle.std.proofs.lemmas.List.Folds.{list_any-append}
use Rattle.std.proofs.lemmas.Option.{same_Some}
use Rattle.tl_lemmas.proofs.Lists.{all_append, all_both, all_push, weaker}
use Rattle.tl_base.specs.declared.node.NodeSet.{NodeSet}
use Rattle.tl_base.specs.declared.place.Settings.{Settings}
use Rattle.tl_descriptor.specs.Tids.{IsCanonical, TidSet, begins}
use Rattle.tl_descriptor.specs.declared.run.Run.{Run}
use Rattle.tl_manager.specs.declared.active.Active.{Active}
use Rattle.tl_manager.specs.declared.request.ManagerReply.{ManagerReply}
use Rattle.tl_manager.specs.declared.request.ManagerReply.TheVariants as told
use Rattle.tl_manager.specs.declared.request.ManagerRequest.{ManagerRequest}
use Rattle.tl_manager.specs.declared.request.ManagerRequest.TheVariants as asked
use Rattle.tl_manager.specs.declared.request.Reply.TheVariants as reply
use Rattle.tl_manager.specs.Floor.{IsChain, floor_of, lowered, newer}
use Rattle.tl_manager.specs.Ranges.{numbers_from}
use Rattle.tl_manager.specs.Serves as manager
use Rattle.tl_manager.specs.Serves.{Call, active_after, begun, begun_by, brought, brought_by, copy_after, ends, first_of, gives, left, notice_after, posted, posted_by, reply_after, shown}
use Rattle.tl_manager.specs.State.{begin_reply, claim_reply, end_reply}
use Rattle.tl_manager.specs.Transactions.{is_active, snapshots_of, tids_of, without}
use Rattle.tl_manager.proofs.Log.{active-push, copy-push, gone_after}
use Rattle.tl_manager.proofs.Low.{begins_copy, begins_each}
use Rattle.tl_manager.proofs.Numbers.{begun-push, brought-push, same_begun, same_brought}
use Rattle.tl_protocol.specs.Store.{put}
use Rattle.tl_protocol.specs.World.{Number, Carried, Ready, Begun}
use Rattle.tl_protocol.specs.Next.{is_drawn, numbered}
use Rattle.tl_protocol.proofs.Frames.{put_one, put_other, put_same}
use Rattle.tl_journal.specs.Law.{AreActive, IsActive, tids_in}
use Rattle.tl_journal.specs.declared.event.Event.{Event}
use Rattle.tl_journal.specs.Ask.{Heard, AskManager, Told}
use Rattle.tl_journal.specs.Bytes.{heard, home_of, place_of, written}
use Rattle.tl_journal.specs.Journal.{manager_log}
use Rattle.tl_journal.specs.Served.{Answers, IsMark, Parts, begun_parts}
use Rattle.tl_journal.proofs.Meets.{AreDistinct, members}
use Rattle.tl_journal.proofs.Managers.{Agrees, AreReady, ManagerIs, ManagersAre, NoticeIs, active_more, agrees_itself, left_is, manager_silent, managers_after, notice_same, still_enough}

-- ---- what the protocol knows

-- of any two sets of finished transactions that are known one begins the other, and what a manager holds is known
pub record AreChained (known : TidSet → Type 0) (p : Parts) : Type 0 where
  pub canonical : (s : TidSet) → known s → IsCanonical s
  pub chain : (s t : TidSet) → known s → known t → (begins s t ≡ true) ⊎ (begins t s ≡ true)
  pub copies : (m : ℕ) → known (p.copies m)
  pub snapshots : (d : ℕ) (x : Active) → p.active d ≡ Some x → known x.snapshot

-- what is active has its number
abbrev pub AreBegun : Parts → Type 0
AreBegun p = (d : ℕ) (x : Active) → p.active d ≡ Some x → p.numbers x.tid ≡ Begun d

-- when node n may ask manager m so
abbrev pub MayAsk : (TidSet → Type 0) → Settings → Parts → ℕ → ℕ → ManagerRequest → Type 0
MayAsk known settings p n m (asked.Begin node seen) = (home_of settings node ≡ m) × (p.active node ≡ None) × known seen
MayAsk known settings p n m (asked.Range low high) = (1 ≤ low) × (high ≡ low + 15) × ((t : ℕ) → is_drawn (low - 1) t ≡ true → p.numbers t ≡ Carried n)
MayAsk known settings p n m (asked.End tid) = (d : ℕ) × (x : Active) × (p.active d ≡ Some x) × (x.tid ≡ tid) × (home_of settings d ≡ m)
MayAsk known settings p n m (asked.Orphans node) = home_of settings node ≡ m
MayAsk known settings p n m (asked.Floor seen) = known seen
MayAsk known settings p n m (asked.Post node also) = ⊥
MayAsk known settings p n m (asked.Claim node) = home_of settings node ≡ m

-- ---- lists

-- facts of snapshots
of_snapshots : (P : TidSet → Type 0) (xs : List Active) → AllByRecursion (λ (x : Active). P x.snapshot) xs → AllByRecursion P (snapshots_of xs)
of_snapshots P [] h = tt
of_snapshots P (x ∷ xs) h = (h.0, of_snapshots P xs h.1)

by_snapshots : (P : TidSet → Type 0) (xs : List Active) → AllByRecursion P (snapshots_of xs) → AllByRecursion (λ (x : Active). P x.snapshot) xs
by_snapshots P [] h = tt
by_snapshots P (x ∷ xs) h = (h.0, by_snapshots P xs h.1)

-- a transaction of the node is in the list
found_of : (Q : Active → Type 0) (n t : ℕ) (ts : List ℕ) (xs : List Active) → tids_of n xs ≡ t ∷ ts → AllByRecursion Q xs → (y : Active) × (y.node ≡ n) × (y.tid ≡ t) × Q y
found_of Q n t ts [] e h = absurd cc
found_of Q n t ts (x ∷ xs) e h = by (x.node == n) refl e (λ f. found_of Q n t ts xs f h.1)
  where
    first_same : (a b : ℕ) (front back : List ℕ) → a ∷ front ≡ b ∷ back → a ≡ b
    first_same a b front back f = cc

    by : (b : Bool) → (x.node == n) ≡ b → map (λ (y : Active). y.tid) (cond b (x ∷ filter (λ y. y.node == n) xs) (filter (λ y. y.node == n) xs)) ≡ t ∷ ts
        → (tids_of n xs ≡ t ∷ ts → (y : Active) × (y.node ≡ n) × (y.tid ≡ t) × Q y)
        → (y : Active) × (y.node ≡ n) × (y.tid ≡ t) × Q y
    by true same f further = (x, eqb-true x.node n same, first_same x.tid t (tids_of n xs) ts f, h.0)
    by false other f further = further f

-- ---- the low-water mark

chain_from : (known : TidSet → Type 0) → ((s t : TidSet) → known s → known t → (begins s t ≡ true) ⊎ (begins t s ≡ true))
    → (set : TidSet) (sets : List TidSet) → known set → AllByRecursion known sets → AllByRecursion (λ other. (begins set other ≡ true) ⊎ (begins other set ≡ true)) sets
chain_from known chain set sets k h = weaker known (λ other. (begins set other ≡ true) ⊎ (begins other set ≡ true)) (λ other. chain set other k) sets h

chain_of : (known : TidSet → Type 0) → ((s t : TidSet) → known s → known t → (begins s t ≡ true) ⊎ (begins t s ≡ true))
    → (sets : List TidSet) → AllByRecursion known sets → IsChain sets
chain_of known chain [] h = tt
chain_of known chain (set ∷ sets) h = (chain_from known chain set sets h.0 h.1, chain_of known chain sets h.1)

either : (P : TidSet → Type 0) (t : Bool) (x y : TidSet) → P x → P y → P (cond t x y)
either P true x y p q = p
either P false x y p q = q

floor_is : (P : TidSet → Type 0) (floor : TidSet) (xs : List Active) → P floor → AllByRecursion (λ (x : Active). P x.snapshot) xs → P (floor_of floor xs)
floor_is P floor [] p h = p
floor_is P floor (x ∷ xs) p h = floor_is P (lowered floor x) xs (either P (begins x.snapshot floor) x.snapshot floor h.0 p) h.1

module _ (known : TidSet → Type 0) (settings : Settings) (p : Parts) (m : ℕ) (chained : AreChained known p) where
  mark_is : (copy : TidSet) (xs : List Active) → known copy → AreActive settings p.active m xs → IsMark settings p.active m copy (floor_of copy xs)
  mark_is copy xs k v =
      let snaps : AllByRecursion known (copy ∷ snapshots_of xs) =
      (k, of_snapshots known xs (weaker (IsActive settings p.active m) (λ (x : Active). known x.snapshot) (λ x h. chained.snapshots x.node x h.0) xs v.each)) in
      let fit : AllByRecursion IsCanonical (copy ∷ snapshots_of xs) = weaker known IsCanonical chained.canonical (copy ∷ snapshots_of xs) snaps in
      let below : AllByRecursion (λ (x : Active). IsActive settings p.active m x × (begins (floor_of copy xs) x.snapshot ≡ true)) xs =
      all_both (IsActive settings p.active m) (λ (x : Active). begins (floor_of copy xs) x.snapshot ≡ true) xs v.each
      (by_snapshots (λ s. begins (floor_of copy xs) s ≡ true) xs (begins_each copy xs fit (chain_of known chained.chain (copy ∷ snapshots_of xs) snaps))) in
      record {
        is_one = floor_is (λ floor. (floor ≡ copy) ⊎ ((d : ℕ) × (x : Active) × (p.active d ≡ Some x) × (home_of settings d ≡ m) × (floor ≡ x.snapshot))) copy xs (inl refl)
            (weaker (IsActive settings p.active m) (λ (y : Active). (y.snapshot ≡ copy) ⊎ ((d : ℕ) × (x : Active) × (p.active d ≡ Some x) × (home_of settings d ≡ m) × (y.snapshot ≡ x.snapshot)))
            (λ y h. inr (y.node, y, h.0, h.1, refl)) xs v.each);
        begins_copy = begins_copy copy xs fit;
        begins_active = λ d x is_active at_m.
            let y = found_of (λ (x : Active). IsActive settings p.active m x × (begins (floor_of copy xs) x.snapshot ≡ true)) d x.tid [] xs (v.tids d at_m ∙ ap tids_in is_active) below in
            let same : y.0 ≡ x = same_Some y.0 x (sym y.3.0.0 ∙ ap p.active y.1 ∙ is_active) in
            subst (λ (z : Active). begins (floor_of copy xs) z.snapshot ≡ true) same y.3.1;
      }

-- ---- the numbers

-- a number that isn't among them is none of them
not_among : (t : ℕ) (xs : List ℕ) → members xs t ≡ false → AllByRecursion (λ u. (u == t) ≡ false) xs
not_among t [] e = tt
not_among t (x ∷ xs) e = let parts = or_parts (x == t) (members xs t) e in (parts.0, not_among t xs parts.1)

distinct_append : (xs ys : List ℕ) → AreDistinct xs → AreDistinct ys → AllByRecursion (λ x. members ys x ≡ false) xs → AreDistinct (xs ++ ys)
distinct_append [] ys p q h = q
distinct_append (x ∷ xs) ys p q h =
    (list_any-append (λ u. u == x) xs ys ∙ (λ i. p.0 i || h.0 i), distinct_append xs ys p.1 q h.1)

below_all : (low k t : ℕ) → t < low → members (numbers_from low k) t ≡ false
below_all low zero t l = refl
below_all low (suc k) t l =
    ap (λ b. b || members (numbers_from (suc low) k) t) (ne_eqb low t (λ e. omega arith)) ∙ below_all (suc low) k t (omega arith)

distinct_from : (low k : ℕ) → AreDistinct (numbers_from low k)
distinct_from low zero = tt
distinct_from low (suc k) = (below_all (suc low) k low (omega arith), distinct_from (suc low) k)

within_from : (low k : ℕ) → AllByRecursion (λ t. (low ≤ t) × (t < low + k)) (numbers_from low k)
within_from low zero = tt
within_from low (suc k) =
    ((omega arith, omega arith), weaker (λ t. (suc low ≤ t) × (t < suc low + k)) (λ t. (low ≤ t) × (t < low + suc k)) (λ t h. (let a = h.0 in omega arith, let b = h.1 in omega arith)) (numbers_from (suc low) k) (within_from (suc low) k))

-- a number that isn't in the range is none of its numbers
outside : (low k t : ℕ) → (low ≤ t → t < low + k → ⊥) → members (numbers_from low k) t ≡ false
outside low zero t h = refl
outside low (suc k) t h =
    ap (λ b. b || members (numbers_from (suc low) k) t) (ne_eqb low t (λ e. h (omega arith) (omega arith)))
    ∙ outside (suc low) k t (λ a b. h (omega arith) (omega arith))

drawn_here : (low t : ℕ) → 1 ≤ low → low ≤ t → t < low + 16 → is_drawn (low - 1) t ≡ true
drawn_here low t some a b = grind (arith, nat_tests)

in_range : (low t : ℕ) → 1 ≤ low → is_drawn (low - 1) t ≡ true → (low ≤ t) × (t < low + 16)
in_range low t some e = (grind (arith, nat_tests), grind (arith, nat_tests))

or_true : (b : Bool) → (b || true) ≡ true
or_true true = refl
or_true false = refl

-- a number of the range is one of its numbers
within : (low k t : ℕ) → low ≤ t → t < low + k → members (numbers_from low k) t ≡ true
within low zero t a b = absurd (omega arith)
within low (suc k) t a b = by (λ i. within (suc low) k t (omega (arith, i)) (omega arith)) (low == t) refl
  where
    by : ((low ≡ t → ⊥) → members (numbers_from (suc low) k) t ≡ true) → (x : Bool) → (low == t) ≡ x → (x || members (numbers_from (suc low) k) t) ≡ true
    by more true i = refl
    by more false i = more (eqb-false low t i)

among_left : (xs ys : List ℕ) (t : ℕ) → members xs t ≡ true → members (xs ++ ys) t ≡ true
among_left [] ys t e = absurd cc
among_left (x ∷ xs) ys t e = by (λ i. among_left xs ys t i) (x == t) e
  where
    by : (members xs t ≡ true → members (xs ++ ys) t ≡ true) → (b : Bool) → (b || members xs t) ≡ true → (b || members (xs ++ ys) t) ≡ true
    by more true i = refl
    by more false i = more i

among_right : (xs ys : List ℕ) (t : ℕ) → members ys t ≡ true → members (xs ++ ys) t ≡ true
among_right [] ys t e = e
among_right (x ∷ xs) ys t e = by (among_right xs ys t e) (x == t)
  where
    by : members (xs ++ ys) t ≡ true → (b : Bool) → (b || members (xs ++ ys) t) ≡ true
    by i true = refl
    by i false = i

none_left : (xs : List ℕ) → first_of xs ≡ None → (t : ℕ) → members xs t ≡ true → ⊥
none_left [] e t i = cc
none_left (x ∷ xs) e t i = cc

carried_ready : (n m : ℕ) → Carried n ≡ Ready m → ⊥
carried_ready n m e = cc

ready_same : (m j : ℕ) → Ready m ≡ Ready j → m ≡ j
ready_same m j e = cc

-- the 16 numbers from low on are brought to the manager
brought_ready : (numbers : ℕ → Number) (n m low : ℕ) (tids : List ℕ) → 1 ≤ low → ((t : ℕ) → is_drawn (low - 1) t ≡ true → numbers t ≡ Carried n)
    → AreReady numbers m tids → AreReady (numbered (low - 1) (Ready m) numbers) m (tids ++ numbers_from low 16)
brought_ready numbers n m low tids some carried v = record {
  each = all_append (λ t. numbered (low - 1) (Ready m) numbers t ≡ Ready m) tids (numbers_from low 16)
      (weaker (λ t. numbers t ≡ Ready m) (λ t. numbered (low - 1) (Ready m) numbers t ≡ Ready m) stays tids v.each)
      (weaker (λ t. (low ≤ t) × (t < low + 16)) (λ t. numbered (low - 1) (Ready m) numbers t ≡ Ready m)
      (λ t h. ap (λ b. cond b (Ready m) (numbers t)) (drawn_here low t some h.0 h.1)) (numbers_from low 16) (within_from low 16));
  all = λ t h. by t (is_drawn (low - 1) t) refl h;
  distinct = distinct_append tids (numbers_from low 16) v.distinct (distinct_from low 16)
      (weaker (λ t. numbers t ≡ Ready m) (λ t. members (numbers_from low 16) t ≡ false)
      (λ t h. outside low 16 t (λ a b. carried_ready n m (sym (carried t (drawn_here low t some a b)) ∙ h))) tids v.each);
}
  where
    stays : (t : ℕ) → numbers t ≡ Ready m → numbered (low - 1) (Ready m) numbers t ≡ Ready m
    stays t h = elim (is_drawn (low - 1) t) as (λ b. cond b (Ready m) (numbers t) ≡ Ready m) [ true ↦ refl | false ↦ h ]

    by : (t : ℕ) (b : Bool) → is_drawn (low - 1) t ≡ b → cond b (Ready m) (numbers t) ≡ Ready m → members (tids ++ numbers_from low 16) t ≡ true
    by t true i e = let r = in_range low t some i in among_right tids (numbers_from low 16) t (within low 16 t r.0 r.1)
    by t false i e = among_left tids (numbers_from low 16) t (v.all t e)

-- and none of them was ready elsewhere
brought_elsewhere : (numbers : ℕ → Number) (n m j low t : ℕ) → ((u : ℕ) → is_drawn low u ≡ true → numbers u ≡ Carried n)
    → numbers t ≡ Ready j → numbered low (Ready m) numbers t ≡ Ready j
brought_elsewhere numbers n m j low t carried h = by (is_drawn low t) refl
  where
    by : (b : Bool) → is_drawn low t ≡ b → cond b (Ready m) (numbers t) ≡ Ready j
    by true drawn = absurd (carried_ready n j (sym (carried t drawn) ∙ h))
    by false other = h

-- nor did it become ready elsewhere
was_elsewhere : (numbers : ℕ → Number) (m j low t : ℕ) → (m ≡ j → ⊥) → numbered low (Ready m) numbers t ≡ Ready j → numbers t ≡ Ready j
was_elsewhere numbers m j low t other = by (is_drawn low t)
  where
    by : (b : Bool) → cond b (Ready m) (numbers t) ≡ Ready j → numbers t ≡ Ready j
    by true e = absurd (other (ready_same m j e))
    by false e = e

begun_ready : (n m : ℕ) → Begun n ≡ Ready m → ⊥
begun_ready n m e = cc

was_given : (numbers : ℕ → Number) (n j t u : ℕ) → put t (Begun n) numbers u ≡ Ready j → numbers u ≡ Ready j
was_given numbers n j t u = by (t == u)
  where
    by : (b : Bool) → cond b (Begun n) (numbers u) ≡ Ready j → numbers u ≡ Ready j
    by true e = absurd (begun_ready n j e)
    by false e = e

-- the first number is given
given_ready : (numbers : ℕ → Number) (n m t : ℕ) (tids : List ℕ) → AreReady numbers m (t ∷ tids) → AreReady (put t (Begun n) numbers) m tids
given_ready numbers n m t tids v = record {
  each = weaker (λ u. ((u == t) ≡ false) × (numbers u ≡ Ready m)) (λ u. put t (Begun n) numbers u ≡ Ready m)
      (λ u h. put_other t u (Begun n) numbers (λ e. eqb-false u t h.0 (sym e)) ∙ h.1) tids
      (all_both (λ u. (u == t) ≡ false) (λ u. numbers u ≡ Ready m) tids (not_among t tids v.distinct.0) v.each.1);
  all = λ u h. by u (t == u) refl h;
  distinct = v.distinct.1;
}
  where
    by : (u : ℕ) (b : Bool) → (t == u) ≡ b → cond b (Begun n) (numbers u) ≡ Ready m → members tids u ≡ true
    by u true i e = absurd (begun_ready n m e)
    by u false i e = subst (λ b. (b || members tids u) ≡ true) i (v.all u e)

next_drop : (k : ℕ) (xs : List ℕ) (t : ℕ) → first_of (drop k xs) ≡ Some t → drop k xs ≡ t ∷ drop (suc k) xs
next_drop zero [] t e = absurd cc
next_drop zero (x ∷ xs) t e = ap (λ y. y ∷ xs) (same_Some x t e)
next_drop (suc k) [] t e = absurd cc
next_drop (suc k) (x ∷ xs) t e = next_drop k xs t e

room : (k : ℕ) (xs : List ℕ) (t : ℕ) → first_of (drop k xs) ≡ Some t → suc k ≤ length xs
room zero [] t e = absurd cc
room zero (x ∷ xs) t e = omega arith
room (suc k) [] t e = absurd cc
room (suc k) (x ∷ xs) t e = let rest = room k xs t e in omega arith

-- ---- the active transactions

tids_append : (k : ℕ) (xs ys : List Active) → tids_of k (xs ++ ys) ≡ tids_of k xs ++ tids_of k ys
tids_append k xs ys =
    ap (map (λ (x : Active). x.tid)) (filter-append (λ (x : Active). x.node == k) xs ys) ∙ map-append (λ (x : Active). x.tid) (filter (λ x. x.node == k) xs) (filter (λ x. x.node == k) ys)

none_some : (x : Active) → None ≡ Some x → ⊥
none_some x e = cc

module _ (settings : Settings) (active : ℕ → Option Active) (m : ℕ) (xs : List Active) (v : AreActive settings active m xs) where
  -- a transaction begins at a node that has none
  begun_active : (x : Active) → home_of settings x.node ≡ m → active x.node ≡ None → AreActive settings (put x.node (Some x) active) m (xs ++ x ∷ [])
  begun_active x at_m none = record {
    each = all_push (IsActive settings (put x.node (Some x) active) m) xs x
        (weaker (IsActive settings active m) (IsActive settings (put x.node (Some x) active) m)
        (λ y h. (put_other x.node y.node (Some x) active (λ e. none_some y (sym none ∙ ap active e ∙ h.0)) ∙ h.0, h.1)) xs v.each)
        (put_same x.node (Some x) active, at_m);
    tids = λ k h. tids_append k xs (x ∷ []) ∙ by k h (x.node == k) refl;
  }
    where
      by : (k : ℕ) → home_of settings k ≡ m → (b : Bool) → (x.node == k) ≡ b
          → tids_of k xs ++ map (λ (y : Active). y.tid) (cond b (x ∷ []) []) ≡ tids_in (cond b (Some x) (active k))
      by k h true same = ap (λ (front : List ℕ). front ++ x.tid ∷ []) (v.tids k h ∙ ap tids_in (ap active (sym (eqb-true x.node k same)) ∙ none))
      by k h false other = append-nil (tids_of k xs) ∙ v.tids k h

tid_among : (d t : ℕ) (ts : List ℕ) (xs : List Active) → tids_of d xs ≡ t ∷ ts → is_active t xs ≡ true
tid_among d t ts [] e = absurd cc
tid_among d t ts (x ∷ xs) e = by (x.node == d) e (tid_among d t ts xs)
  where
    first_same : (a b : ℕ) (front back : List ℕ) → a ∷ front ≡ b ∷ back → a ≡ b
    first_same a b front back f = cc

    or_true : (b : Bool) → (b || true) ≡ true
    or_true true = refl
    or_true false = refl

    by : (b : Bool) → map (λ (y : Active). y.tid) (cond b (x ∷ filter (λ y. y.node == d) xs) (filter (λ y. y.node == d) xs)) ≡ t ∷ ts
        → (tids_of d xs ≡ t ∷ ts → is_active t xs ≡ true) → ((x.tid == t) || is_active t xs) ≡ true
    by true f further = ap (λ b. b || is_active t xs) (eq-eqb x.tid t (first_same x.tid t (tids_of d xs) ts f))
    by false f further = ap (λ b. (x.tid == t) || b) (further f) ∙ or_true (x.tid == t)

kept_one : (k : ℕ) (x : Active) (xs ys : List Active) (a b : Bool) → (x.node == k) ≡ b → (b ≡ true → a ≡ false) → tids_of k ys ≡ tids_of k xs
    → tids_of k (cond (not a) (x ∷ ys) ys) ≡ tids_of k (x ∷ xs)
kept_one k x xs ys a true e h rest =
    ap (λ a. tids_of k (cond (not a) (x ∷ ys) ys)) (h refl)
    ∙ ap (λ b. map (λ (y : Active). y.tid) (cond b (x ∷ filter (λ y. y.node == k) ys) (filter (λ y. y.node == k) ys))) e
    ∙ ap {B = List ℕ} (λ tids. x.tid ∷ tids) rest
    ∙ sym (ap (λ b. map (λ (y : Active). y.tid) (cond b (x ∷ filter (λ y. y.node == k) xs) (filter (λ y. y.node == k) xs))) e)
kept_one k x xs ys true false e h rest =
    rest ∙ sym (ap (λ b. map (λ (y : Active). y.tid) (cond b (x ∷ filter (λ y. y.node == k) xs) (filter (λ y. y.node == k) xs))) e)
kept_one k x xs ys false false e h rest =
    ap (λ b. map (λ (y : Active). y.tid) (cond b (x ∷ filter (λ y. y.node == k) ys) (filter (λ y. y.node == k) ys))) e
    ∙ rest
    ∙ sym (ap (λ b. map (λ (y : Active). y.tid) (cond b (x ∷ filter (λ y. y.node == k) xs) (filter (λ y. y.node == k) xs))) e)

tids_kept : (k tid : ℕ) (xs : List Active) → AllByRecursion (λ (y : Active). y.node ≡ k → (y.tid == tid) ≡ false) xs → tids_of k (without tid xs) ≡ tids_of k xs
tids_kept k tid [] h = refl
tids_kept k tid (x ∷ xs) h = kept_one k x xs (without tid xs) (x.tid == tid) (x.node == k) refl (λ e. h.0 (eqb-true x.node k e)) (tids_kept k tid xs h.1)

gone_one : (k : ℕ) (x : Active) (ys : List Active) (a b : Bool) → (x.node == k) ≡ b → (b ≡ true → a ≡ true) → tids_of k ys ≡ [] → tids_of k (cond (not a) (x ∷ ys) ys) ≡ []
gone_one k x ys a true e h rest = ap (λ a. tids_of k (cond (not a) (x ∷ ys) ys)) (h refl) ∙ rest
gone_one k x ys true false e h rest = rest
gone_one k x ys false false e h rest =
    ap (λ b. map (λ (y : Active). y.tid) (cond b (x ∷ filter (λ y. y.node == k) ys) (filter (λ y. y.node == k) ys))) e ∙ rest

tids_gone : (k tid : ℕ) (xs : List Active) → AllByRecursion (λ (y : Active). y.node ≡ k → (y.tid == tid) ≡ true) xs → tids_of k (without tid xs) ≡ []
tids_gone k tid [] h = refl
tids_gone k tid (x ∷ xs) h = gone_one k x (without tid xs) (x.tid == tid) (x.node == k) refl (λ e. h.0 (eqb-true x.node k e)) (tids_gone k tid xs h.1)

-- what passes a filter has its facts, and passes
all_filter : {X : Type 0} (P Q : X → Type 0) (test : X → Bool) → ((x : X) → P x → test x ≡ true → Q x) → (xs : List X) → AllByRecursion P xs → AllByRecursion Q (filter test xs)
all_filter P Q test f [] h = tt
all_filter P Q test f (x ∷ xs) h = by (test x) refl (all_filter P Q test f xs h.1)
  where
    by : (b : Bool) → test x ≡ b → AllByRecursion Q (filter test xs) → AllByRecursion Q (cond b (x ∷ filter test xs) (filter test xs))
    by true e rest = (f x h.0 e, rest)
    by false e rest = rest

-- the transaction of node d ends
ended_active : (settings : Settings) (active : ℕ → Option Active) (m : ℕ) (xs : List Active) (d : ℕ) (x : Active) → home_of settings d ≡ m → active d ≡ Some x
    → ((i : ℕ) (y : Active) → active i ≡ Some y → y.tid ≡ x.tid → i ≡ d)
    → AreActive settings active m xs → AreActive settings (put d None active) m (without x.tid xs)
ended_active settings active m xs d x at_m here one v = record {
  each = all_filter (IsActive settings active m) (IsActive settings (put d None active) m) (λ (y : Active). not (y.tid == x.tid))
      (λ y h e. (put_other d y.node None active (λ same. differs y h.0 (not-true (y.tid == x.tid) e) (sym same)) ∙ h.0, h.1)) xs v.each;
  tids = put_one (λ (k : ℕ) o. home_of settings k ≡ m → tids_of k (without x.tid xs) ≡ tids_in o) d None active
      (λ h. tids_gone d x.tid xs (weaker (IsActive settings active m) (λ (y : Active). y.node ≡ d → (y.tid == x.tid) ≡ true) (λ y h same. eq-eqb y.tid x.tid (its_tid y h.0 same)) xs v.each))
      (λ k ne h. tids_kept k x.tid xs (weaker (IsActive settings active m) (λ (y : Active). y.node ≡ k → (y.tid == x.tid) ≡ false)
      (λ y h same. ne_eqb y.tid x.tid (λ e. ne (sym (one y.node y h.0 e) ∙ same))) xs v.each) ∙ v.tids k h);
}
  where
    its_tid : (y : Active) → active y.node ≡ Some y → y.node ≡ d → y.tid ≡ x.tid
    its_tid y h same = ap (λ (z : Active). z.tid) (same_Some y x (sym h ∙ ap active same ∙ here))

    differs : (y : Active) → active y.node ≡ Some y → (y.tid == x.tid) ≡ false → y.node ≡ d → ⊥
    differs y h e same = eqb-false y.tid x.tid e (its_tid y h same)

-- ---- one call more

-- the call is answered as the protocol's manager does, and the log goes on to say what the manager holds
record Met (settings : Settings) (log : List Call) (p : Parts) (m : ℕ) (c : Call) : Type 0 where
  pub after : Parts
  pub answers : Answers settings p m c.request (Told c.reply) after
  pub here : ManagerIs settings (log ++ c ∷ []) after m
  pub others : (j : ℕ) → (m ≡ j → ⊥) → Agrees settings p after j

module _ (known : TidSet → Type 0) (settings : Settings) (log : List Call) (p : Parts) (n m : ℕ) (chained : AreChained known p) (numbered_so : AreBegun p) (v : ManagerIs settings log p m) where
  newer_known : (seen : TidSet) → known seen → known (newer (p.copies m) seen)
  newer_known seen k = either known (begins (p.copies m) seen) seen (p.copies m) k (chained.copies m)

  -- the notices stay
  stands_still : (c : Call) → ((k : ℕ) → gives k c.request c.reply ≡ false) → ((k : ℕ) → posted_by k c.request ≡ [])
      → (k : ℕ) → home_of settings k ≡ m → NoticeIs (p.notices k) (notice_after (log ++ c ∷ []) k)
  stands_still c none nothing k h = subst (NoticeIs (p.notices k)) (sym (notice_same log c k (none k) (nothing k))) (v.notices k h)

  -- another's node is not one of the manager's
  other_home : {A : Type 0} (f : ℕ → A) (d : ℕ) (x : A) (j : ℕ) → home_of settings d ≡ m → (m ≡ j → ⊥) → (k : ℕ) → home_of settings k ≡ j → f k ≡ put d x f k
  other_home f d x j at_m other k h = sym (put_other d k x f (λ e. other (sym at_m ∙ ap (home_of settings) e ∙ h)))

  floor_met : (seen : TidSet) → known seen
      → Met settings log p m (record { request = asked.Floor seen; reply = told.FloorIs (floor_of (newer (p.copies m) seen) (active_after log)) })
  floor_met seen k =
      let copy : TidSet = newer (p.copies m) seen in
      let c : Call = record { request = asked.Floor seen; reply = told.FloorIs (floor_of copy (active_after log)) } in
      record {
        after = record p { copies = put m copy p.copies };
        answers = ((floor_of copy (active_after log), refl, mark_is known settings p m chained copy (active_after log) (newer_known seen k) v.active), refl);
        here = manager_silent settings log p (put m copy p.copies) p.notices m c refl refl (λ x. refl)
            (ap (λ old. newer old seen) v.copy ∙ sym (put_same m copy p.copies)) (stands_still c (λ k. refl) (λ k. refl)) v;
        others = λ j other. record { copy = sym (put_other m j copy p.copies other); numbers = λ t h. h; back = λ t h. h; active = λ k h. refl; notices = λ k h. refl };
      }

  orphans_met : (node : ℕ) → home_of settings node ≡ m → Met settings log p m (record { request = asked.Orphans node; reply = told.Orphaned (tids_of node (active_after log)) })
  orphans_met node at_m =
      let c : Call = record { request = asked.Orphans node; reply = told.Orphaned (tids_of node (active_after log)) } in
      record {
        after = p;
        answers = by (p.active node) refl;
        here = manager_silent settings log p p.copies p.notices m c refl refl (λ x. refl) v.copy (stands_still c (λ k. refl) (λ k. refl)) v;
        others = λ j other. agrees_itself settings p j;
      }
    where
      by : (o : Option Active) → p.active node ≡ o → Answers settings p m (asked.Orphans node) (Told (told.Orphaned (tids_of node (active_after log)))) p
      by None e = (inr (e, ap (λ tids. Told (told.Orphaned tids)) (v.active.tids node at_m ∙ ap tids_in e)), refl)
      by (Some x) e = (inl (x, e, ap (λ tids. Told (told.Orphaned tids)) (v.active.tids node at_m ∙ ap tids_in e)), refl)

  claim_met : (node : ℕ) → home_of settings node ≡ m → Met settings log p m (record { request = asked.Claim node; reply = claim_reply (notice_after log node) })
  claim_met node at_m = by (p.notices node) (notice_after log node) refl (v.notices node at_m)
    where
      by : (o : Option (ℕ → Bool)) (found : Option NodeSet) → p.notices node ≡ o → NoticeIs o found
          → Met settings log p m (record { request = asked.Claim node; reply = claim_reply found })
      by None None e h =
          let c : Call = record { request = asked.Claim node; reply = told.There } in
          record {
            after = p;
            answers = inl (e, refl, refl);
            here = manager_silent settings log p p.copies p.notices m c refl refl (λ x. refl) v.copy (stands_still c (λ k. refl) (λ k. refl)) v;
            others = λ j other. agrees_itself settings p j;
          }
      by None (Some set) e h = absurd h
      by (Some nodes) None e h = absurd h
      by (Some nodes) (Some set) e h =
          let c : Call = record { request = asked.Claim node; reply = told.Given set } in
          record {
            after = record p { notices = put node None p.notices };
            answers = inr (set, nodes, e, h.0, refl, refl);
            here = manager_silent settings log p p.copies (put node None p.notices) m c refl refl (λ x. refl) v.copy
                (put_one (λ (k : ℕ) o. home_of settings k ≡ m → NoticeIs o (notice_after (log ++ c ∷ []) k)) node None p.notices
                (λ home. subst (NoticeIs None) (sym (gone_after log node set)) tt)
                (λ k ne home. subst (NoticeIs (p.notices k)) (sym (notice_same log c k (ne_eqb k node (λ same. ne (sym same))) refl)) (v.notices k home))) v;
            others = λ j other. record { copy = refl; numbers = λ t h. h; back = λ t h. h; active = λ k h. refl; notices = other_home p.notices node None j at_m other };
          }

  -- a transaction has one number, and a number one transaction
  one_node : (d : ℕ) (x : Active) → p.active d ≡ Some x → (i : ℕ) (y : Active) → p.active i ≡ Some y → y.tid ≡ x.tid → i ≡ d
  one_node d x here i y there same = begun_same i d (sym (numbered_so i y there) ∙ ap p.numbers same ∙ numbered_so d x here)
    where
      begun_same : (a b : ℕ) → Begun a ≡ Begun b → a ≡ b
      begun_same a b e = cc

  end_met : (d : ℕ) (x : Active) → p.active d ≡ Some x → home_of settings d ≡ m
      → Met settings log p m (record { request = asked.End x.tid; reply = end_reply x.tid (active_after log) })
  end_met d x here at_m =
      let c : Call = record { request = asked.End x.tid; reply = end_reply x.tid (active_after log) } in
      let same : active_after (log ++ c ∷ []) ≡ without x.tid (active_after log) = active-push log c ∙ append-nil (without x.tid (active_after log)) in
      record {
        after = record p { active = put d None p.active };
        answers = (
          ap (λ b. Told (cond b told.Ended told.NotActive)) (tid_among d x.tid [] (active_after log) (v.active.tids d at_m ∙ ap tids_in here)),
          λ i y there e. ap (λ k. record p { active = put k None p.active }) (sym (one_node d x here i y there e)),
          λ none. absurd (none d x here refl),
        );
        here = record {
          copy = copy-push log c ∙ v.copy;
          enough = still_enough log c refl refl v.enough;
          numbers = subst (AreReady p.numbers m) (sym (left_is log c refl refl)) v.numbers;
          active = subst (AreActive settings (put d None p.active) m) (sym same) (ended_active settings p.active m (active_after log) d x at_m here (one_node d x here) v.active);
          notices = stands_still c (λ k. refl) (λ k. refl);
        };
        others = λ j other. record { copy = refl; numbers = λ t h. h; back = λ t h. h; active = other_home p.active d None j at_m other; notices = λ k h. refl };
      }

  range_met : (low high : ℕ) → 1 ≤ low → high ≡ low + 15 → ((t : ℕ) → is_drawn (low - 1) t ≡ true → p.numbers t ≡ Carried n)
      → Met settings log p m (record { request = asked.Range low high; reply = told.Ranged })
  range_met low high some e carried =
      let c : Call = record { request = asked.Range low high; reply = told.Ranged } in
      let run : Run = record { low = low; high = high } in
      let count : suc high - low ≡ 16 = omega arith in
      let more : brought (log ++ c ∷ []) ≡ brought log ++ numbers_from low 16 = brought-push log c ∙ ap (λ k. brought log ++ numbers_from low k) count in
      let same : begun (log ++ c ∷ []) ≡ begun log = same_begun log c refl in
      let now : left (log ++ c ∷ []) ≡ left log ++ numbers_from low 16 =
      (λ i. drop (length (same i)) (more i)) ∙ drop-append-le (length (begun log)) (brought log) (numbers_from low 16) v.enough in
      record {
        after = record p { numbers = numbered (low - 1) (Ready m) p.numbers };
        answers = (refl, refl);
        here = record {
          copy = copy-push log c ∙ v.copy;
          enough = (let before : length (begun log) ≤ length (brought log) = v.enough in let b : length (begun (log ++ c ∷ [])) ≡ length (begun log) = ap length same in
              let t : length (brought (log ++ c ∷ [])) ≡ length (brought log) + length (numbers_from low 16) = ap length more ∙ length-append (brought log) (numbers_from low 16) in omega arith);
          numbers = subst (AreReady (numbered (low - 1) (Ready m) p.numbers) m) (sym now) (brought_ready p.numbers n m low (left log) some carried v.numbers);
          active = subst (AreActive settings p.active m) (sym (active_more log c (λ x. refl) ∙ append-nil (active_after log))) v.active;
          notices = stands_still c (λ k. refl) (λ k. refl);
        };
        others = λ j other. record {
          copy = refl;
          numbers = λ t h. brought_elsewhere p.numbers n m j (low - 1) t carried h;
          back = λ t h. was_elsewhere p.numbers m j (low - 1) t other h;
          active = λ k h. refl;
          notices = λ k h. refl;
        };
      }

  begin_met : (node : ℕ) (seen : TidSet) → home_of settings node ≡ m → p.active node ≡ None → known seen
      → Met settings log p m (record { request = asked.Begin node seen; reply = begin_reply (first_of (left log)) (newer (p.copies m) seen) (active_after log) })
  begin_met node seen at_m free k = by (first_of (left log)) refl
    where
      copy : TidSet
      copy = newer (p.copies m) seen

      by : (found : Option ℕ) → first_of (left log) ≡ found → Met settings log p m (record { request = asked.Begin node seen; reply = begin_reply found copy (active_after log) })
      by None e =
          let c : Call = record { request = asked.Begin node seen; reply = told.NeedRange } in
          record {
            after = p;
            answers = inr (refl, refl, λ t h. none_left (left log) e t (v.numbers.all t h));
            here = manager_silent settings log p p.copies p.notices m c refl refl (λ x. refl) v.copy (stands_still c (λ k. refl) (λ k. refl)) v;
            others = λ j other. agrees_itself settings p j;
          }
      by (Some tid) e =
          let floor : TidSet = floor_of copy (active_after log) in
          let c : Call = record { request = asked.Begin node seen; reply = told.Began tid copy floor } in
          let x : Active = record { tid = tid; node = node; snapshot = copy } in
          let more : brought (log ++ c ∷ []) ≡ brought log = same_brought log c refl in
          let one : begun (log ++ c ∷ []) ≡ begun log ++ x ∷ [] = begun-push log c in
          let grown : length (begun (log ++ c ∷ [])) ≡ length (begun log) + length (x ∷ []) = ap length one ∙ length-append (begun log) (x ∷ []) in
          let longer : length (begun (log ++ c ∷ [])) ≡ suc (length (begun log)) = omega arith in
          let now : left log ≡ tid ∷ left (log ++ c ∷ []) =
          next_drop (length (begun log)) (brought log) tid e ∙ ap {B = List ℕ} (λ rest. tid ∷ rest) (sym (λ i. drop (longer i) (more i))) in
          let ready : AreReady p.numbers m (tid ∷ left (log ++ c ∷ [])) = subst (AreReady p.numbers m) now v.numbers in
          record {
            after = begun_parts p m node tid copy;
            answers = inl (tid, floor, refl, ready.each.0, mark_is known settings p m chained copy (active_after log) (newer_known seen k) v.active, refl);
            here = record {
              copy = copy-push log c ∙ ap (λ old. newer old seen) v.copy ∙ sym (put_same m copy p.copies);
              enough = (let last : suc (length (begun log)) ≤ length (brought log) = room (length (begun log)) (brought log) tid e in
                  let t : length (brought (log ++ c ∷ [])) ≡ length (brought log) = ap length more in omega arith);
              numbers = given_ready p.numbers node m tid (left (log ++ c ∷ [])) ready;
              active = subst (AreActive settings (put node (Some x) p.active) m) (sym (active_more log c (λ y. refl)))
                  (begun_active settings p.active m (active_after log) v.active x at_m free);
              notices = stands_still c (λ k. refl) (λ k. refl);
            };
            others = λ j other. record {
              copy = sym (put_other m j copy p.copies other);
              numbers = λ t h. put_other tid t (Begun node) p.numbers (λ same. other (ready_same m j (sym ready.each.0 ∙ ap p.numbers same ∙ h))) ∙ h;
              back = λ t h. was_given p.numbers node j tid t h;
              active = other_home p.active node (Some x) j at_m other;
              notices = λ k h. refl;
            };
          }

  met : (request : ManagerRequest) → MayAsk known settings p n m request → Met settings log p m (record { request = request; reply = reply_after log request })
  met (asked.Begin node seen) h =
      subst (λ (copy : TidSet). Met settings log p m (record { request = asked.Begin node seen; reply = begin_reply (first_of (left log)) (newer copy seen) (active_after log) }))
      (sym v.copy) (begin_met node seen h.0 h.1 h.2)
  met (asked.Range low high) h = range_met low high h.0 h.1 h.2
  met (asked.End tid) h =
      subst (λ (t : ℕ). Met settings log p m (record { request = asked.End t; reply = end_reply t (active_after log) })) h.3 (end_met h.0 h.1 h.2 h.4)
  met (asked.Orphans node) h = orphans_met node h
  met (asked.Floor seen) h =
      subst (λ (copy : TidSet). Met settings log p m (record { request = asked.Floor seen; reply = told.FloorIs (floor_of (newer copy seen) (active_after log)) }))
      (sym v.copy) (floor_met seen h)
  met (asked.Post node also) h = absurd h
  met (asked.Claim node) h = claim_met node h

-- what a manager serves by its log is what the protocol's manager replies, and the logs go on to say what the managers hold
pub manager_serves : (known : TidSet → Type 0) (settings : Settings) (past : List Event) (e : Event) (p : Parts) (n m : ℕ) (request : ManagerRequest) (answer : ManagerReply)
    → m < settings.managers → AreChained known p → AreBegun p → MayAsk known settings p n m request
    → e.place ≡ place_of settings (AskManager m request) → e.request ≡ written (AskManager m request) → e.reply ≡ reply.Manager answer
    → manager.Serves (manager_log m past) (record { request = request; reply = answer })
    → ManagersAre settings past p
    → (after : Parts) × Answers settings p m request (heard (AskManager m request) e.reply) after × ManagersAre settings (past ++ e ∷ []) after
manager_serves known settings past e p n m request answer l chained begun_so may at_place asked_so told_so served v =
    let log : List Call = manager_log m past in
    let c : Call = record { request = request; reply = answer } in
    let ok : Met settings log p m c =
    subst (λ (a : ManagerReply). Met settings log p m (record { request = request; reply = a })) (sym served)
    (met known settings log p n m chained begun_so (v.each m l) request may) in (
      ok.after,
      subst (λ (told : Heard). Answers settings p m request told ok.after) (sym (ap (heard (AskManager m request)) told_so)) ok.answers,
      managers_after settings past e p ok.after m c (record { at_place = at_place; asked_so = asked_so; told_so = told_so }) ok.here ok.others v,
    )
