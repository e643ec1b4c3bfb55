-- The moves that touch the managers and the numbers of transactions: what they leave of the core.
use Rattle.std.proofs.Common.{◌≡◌, ℕ, ◌<◌, ◌≤◌, Bool, true, false, List, Option, Some, None, refl, sym, ap, ◌∙◌, subst, ⊎_elim, arith}
use Rattle.std.specs.Prelude.{◌+◌, ◌^◌, if◌then◌else◌}
use Rattle.std.proofs.lemmas.Bool.{both_ways}
use Rattle.std.proofs.lemmas.Bool.Decides.{nat_tests}
use Rattle.std.proofs.lemmas.Option.{same_Some}
use Rattle.tl_descriptor.specs.Tids.{TidSet, IsWithin}
use Rattle.tl_manager.specs.declared.active.Active.{Active}
use Rattle.tl_manager.specs.Floor.{newer}
use Rattle.tl_isolation.specs.Step.{begin}
use Rattle.tl_protocol.specs.Store.{Key, put}
use Rattle.tl_protocol.specs.World.{Number, Undrawn, Carried, Ready, Begun, Opening, Phase, World, IsFloor}
use Rattle.tl_protocol.specs.Next.{is_drawn, numbered}
use Rattle.tl_protocol.proofs.Ledger.{Ledger, Seat, seated}
use Rattle.tl_protocol.proofs.Finished.{Finished, Snap, is_done}
use Rattle.tl_protocol.proofs.Sets.{newer_known, newer_above, begins_within, within_trans}
use Rattle.tl_protocol.proofs.Inv.{ActiveOk, Base, Core, Ghost, ManagersOk, NodeOk, NumbersOk, base, is_begun, is_taken, shared}
use Rattle.tl_protocol.proofs.Later.{Later, grows_refl}
use Rattle.tl_protocol.proofs.Frames.{active_after, active_after_phase, nodes_after, nodes_after_phase, put_both, put_one, put_other}
use Rattle.tl_protocol.proofs.Steps.{later_same, with_phase}

-- ---- the managers

none_active : (x : Active) (A : Type 0) → None ≡ Some x → A
none_active x A e = cc

-- what is active once one has ended was active before
still_active : (n : ℕ) (active : ℕ → Option Active) (d : ℕ) (x : Active) → put n None active d ≡ Some x → active d ≡ Some x
still_active n active d x =
    put_one (λ (j : ℕ) o. o ≡ Some x → active j ≡ Some x) n None active (λ e. none_active x (active n ≡ Some x) e) (λ j ne e. e) d

-- the transaction of node n is active no more
managers_ended : (home : ℕ → ℕ) (top : ℕ) (floors : ℕ → ℕ → TidSet) (copies : ℕ → TidSet) (active : ℕ → Option Active) (cuts : Key → TidSet) (ds : List Finished) (n : ℕ)
    → ManagersOk home top floors copies active cuts ds → ManagersOk home top floors copies (put n None active) cuts ds
managers_ended home top floors copies active cuts ds n o = record {
  at_home = o.at_home;
  copy_known = o.copy_known;
  snaps = λ d x h. o.snaps d x (still_active n active d x h);
  floor_known = o.floor_known;
  floor_copy = o.floor_copy;
  floor_snap = λ i d x h. o.floor_snap i d x (still_active n active d x h);
  cut_copy = o.cut_copy;
  cut_snap = λ k d x h. o.cut_snap k d x (still_active n active d x h);
}

-- a transaction of node n is active, whose snapshot is its manager's copy
managers_begun : (home : ℕ → ℕ) (top : ℕ) (floors : ℕ → ℕ → TidSet) (copies : ℕ → TidSet) (active : ℕ → Option Active) (cuts : Key → TidSet) (ds : List Finished) (n : ℕ) (y : Active)
    → copies (home n) ≡ y.snapshot → ManagersOk home top floors copies active cuts ds → ManagersOk home top floors copies (put n (Some y) active) cuts ds
managers_begun home top floors copies active cuts ds n y e o =
    let same : (x : Active) → Some y ≡ Some x → copies (home n) ≡ x.snapshot = λ x h. e ∙ ap (λ (z : Active). z.snapshot) (same_Some y x h) in
    record {
      at_home = o.at_home;
      copy_known = o.copy_known;
      snaps = λ d x. put_one (λ (j : ℕ) q. q ≡ Some x → Snap x.snapshot ds) n (Some y) active
          (λ h. subst (λ q. Snap q ds) (same x h) (o.copy_known (home n))) (λ j ne. o.snaps j x) d;
      floor_known = o.floor_known;
      floor_copy = o.floor_copy;
      floor_snap = λ i d x. put_one (λ (j : ℕ) q. q ≡ Some x → IsWithin (floors i (home j)) x.snapshot) n (Some y) active
          (λ h. subst (λ q. IsWithin (floors i (home n)) q) (same x h) (o.floor_copy i (home n))) (λ j ne. o.floor_snap i j x) d;
      cut_copy = o.cut_copy;
      cut_snap = λ k d x. put_one (λ (j : ℕ) q. q ≡ Some x → IsWithin (cuts k) x.snapshot) n (Some y) active
          (λ h. subst (λ q. IsWithin (cuts k) q) (same x h) (o.cut_copy k (home n) (o.at_home n))) (λ j ne. o.cut_snap k j x) d;
    }

newer_snap : (a b : TidSet) (ds : List Finished) → Snap a ds → Snap b ds → Snap (newer a b) ds
newer_snap a b ds p q = let r = newer_known a b p.m q.m ds p.known q.known in record { m = r.m; known = r.known }

module _ (w : World) (cuts : Key → TidSet) (ds : List Finished) (o : ManagersOk w.home w.top w.floors w.copies w.active cuts ds) where
  floor_snap : (manager : ℕ) (copy floor : TidSet) → Snap copy ds → IsFloor w manager copy floor → Snap floor ds
  floor_snap manager copy floor s low =
      ⊎_elim (λ e. subst (λ q. Snap q ds) (sym e) s) (λ h. subst (λ q. Snap q ds) (sym h.4) (o.snaps h.0 h.1 h.2)) low.is_one

  -- the manager has seen this set, and node n knows its low-water mark
  managers_learnt : (n manager : ℕ) (seen floor : TidSet) → Snap seen ds → IsFloor w manager (newer (w.copies manager) seen) floor
      → ManagersOk w.home w.top (put n (put manager floor (w.floors n)) w.floors) (put manager (newer (w.copies manager) seen) w.copies) w.active cuts ds
  managers_learnt n manager seen floor s low =
      let copy : TidSet = newer (w.copies manager) seen in
      let known : Snap copy ds = newer_snap (w.copies manager) seen ds (o.copy_known manager) s in
      let above : IsWithin (w.copies manager) copy = (newer_above (w.copies manager) seen ds (o.copy_known manager) s).0 in
      let mark : Snap floor ds = floor_snap manager copy floor known low in
      record {
        at_home = o.at_home;
        copy_known = put_one (λ (j : ℕ) x. Snap x ds) manager copy w.copies known (λ j ne. o.copy_known j);
        snaps = o.snaps;
        floor_known = put_one (λ (i : ℕ) (f : ℕ → TidSet). (j : ℕ) → Snap (f j) ds) n (put manager floor (w.floors n)) w.floors
            (put_one (λ (j : ℕ) x. Snap x ds) manager floor (w.floors n) mark (λ j ne. o.floor_known n j)) (λ i ne. o.floor_known i);
        floor_copy = put_one (λ (i : ℕ) (f : ℕ → TidSet). (j : ℕ) → IsWithin (f j) (put manager copy w.copies j)) n (put manager floor (w.floors n)) w.floors
            (put_both (λ (j : ℕ) x y. IsWithin x y) manager floor (w.floors n) copy w.copies (begins_within floor copy ds mark known low.begins_copy) (λ j ne. o.floor_copy n j))
            (λ i ne. put_one (λ (j : ℕ) y. IsWithin (w.floors i j) y) manager copy w.copies
            (within_trans (w.floors i manager) (w.copies manager) copy (o.floor_copy i manager) above) (λ j ne. o.floor_copy i j));
        floor_snap = λ i d x h. put_one (λ (i : ℕ) (f : ℕ → TidSet). IsWithin (f (w.home d)) x.snapshot) n (put manager floor (w.floors n)) w.floors
            (put_one (λ (j : ℕ) y. w.home d ≡ j → IsWithin y x.snapshot) manager floor (w.floors n)
            (λ e. begins_within floor x.snapshot ds mark (o.snaps d x h) (low.begins_active d x h e))
            (λ j ne e. subst (λ q. IsWithin (w.floors n q) x.snapshot) e (o.floor_snap n d x h)) (w.home d) refl)
            (λ i ne. o.floor_snap i d x h) i;
        cut_copy = λ k. put_one (λ (j : ℕ) y. j ≤ w.top → IsWithin (cuts k) y) manager copy w.copies
            (λ l. within_trans (cuts k) (w.copies manager) copy (o.cut_copy k manager l) above) (λ j ne. o.cut_copy k j);
        cut_snap = o.cut_snap;
      }

-- ---- the numbers

-- a number is of those that were drawn, or is where it was
numbered_elim : (P : Number → Type 0) (low : ℕ) (x : Number) (numbers : ℕ → Number) (t : ℕ) → (is_drawn low t ≡ true → P x) → (is_drawn low t ≡ false → P (numbers t))
    → P (numbered low x numbers t)
numbered_elim P low x numbers t f g = by (is_drawn low t) refl
  where
    by : (b : Bool) → is_drawn low t ≡ b → P (if b then x else numbers t)
    by true e = f e
    by false e = g e

-- a number is in one place
in_one_place : (x y z : Number) (A : Type 0) → x ≡ y → x ≡ z → (y ≡ z → ⊥) → A
in_one_place x y z A e f h = absurd (h (sym e ∙ f))

not_taken : (x y : Number) (A : Type 0) → x ≡ y → is_taken y ≡ false → is_taken x ≡ true → A
not_taken x y A e f g = absurd (both_ways (is_taken y) f (sym (ap is_taken e) ∙ g))

not_begun : (x : Number) → is_taken x ≡ false → is_begun x ≡ false
not_begun Undrawn e = refl
not_begun (Carried n) e = refl
not_begun (Ready m) e = refl
not_begun (Begun n) e = cc
not_begun Opening e = refl

untaken_begun : (x : Number) (i : ℕ) → is_taken x ≡ false → x ≡ Begun i → ⊥
untaken_begun x i e f = both_ways (is_taken x) e (ap is_taken f)

pub drawn_above : (low t : ℕ) → is_drawn low t ≡ true → low < t
drawn_above low t e = grind (arith, nat_tests)

not_drawn_above : (low t : ℕ) → low + 16 < t → is_drawn low t ≡ true → ⊥
not_drawn_above low t l e = grind (arith, nat_tests)

zero_not_drawn : (low : ℕ) → is_drawn low 0 ≡ true → ⊥
zero_not_drawn low e = grind (arith, nat_tests)

pub undrawn_carried : (n : ℕ) → Undrawn ≡ Carried n → ⊥
undrawn_carried n e = cc

-- the numbers above the counter are drawn
carried_begun : (n i : ℕ) → Carried n ≡ Begun i → ⊥
carried_begun n i e = cc

pub numbers_drawn : (numbers : ℕ → Number) (counter n : ℕ) → NumbersOk numbers counter → counter + 16 ≤ 2 ^ 62
    → NumbersOk (numbered counter (Carried n) numbers) (counter + 16)
numbers_drawn numbers counter n o room = record {
  opening = numbered_elim (λ y. y ≡ Opening) counter (Carried n) numbers 0 (λ e. absurd (zero_not_drawn counter e)) (λ e. o.opening);
  undrawn = λ t l. numbered_elim (λ y. y ≡ Undrawn) counter (Carried n) numbers t (λ e. absurd (not_drawn_above counter t l e)) (λ e. o.undrawn t (omega arith));
  small = room;
  begun_at = λ t i. numbered_elim (λ y. y ≡ Begun i → 1 ≤ i) counter (Carried n) numbers t (λ e f. absurd (carried_begun n i f)) (λ e. o.begun_at t i);
}

ready_begun : (m i : ℕ) → Ready m ≡ Begun i → ⊥
ready_begun m i e = cc

-- the numbers that were drawn are brought
pub numbers_brought : (numbers : ℕ → Number) (counter low n manager : ℕ) → NumbersOk numbers counter → ((t : ℕ) → is_drawn low t ≡ true → numbers t ≡ Carried n)
    → NumbersOk (numbered low (Ready manager) numbers) counter
numbers_brought numbers counter low n manager o h = record {
  opening = numbered_elim (λ y. y ≡ Opening) low (Ready manager) numbers 0 (λ e. absurd (zero_not_drawn low e)) (λ e. o.opening);
  undrawn = λ t l. numbered_elim (λ y. y ≡ Undrawn) low (Ready manager) numbers t
      (λ e. in_one_place (numbers t) Undrawn (Carried n) (Ready manager ≡ Undrawn) (o.undrawn t l) (h t e) (undrawn_carried n)) (λ e. o.undrawn t l);
  small = o.small;
  begun_at = λ t i. numbered_elim (λ y. y ≡ Begun i → 1 ≤ i) low (Ready manager) numbers t (λ e f. absurd (ready_begun manager i f)) (λ e. o.begun_at t i);
}

ready_undrawn : (m : ℕ) → Ready m ≡ Undrawn → ⊥
ready_undrawn m e = cc

ready_opening : (m : ℕ) → Ready m ≡ Opening → ⊥
ready_opening m e = cc

ready_carried : (m i : ℕ) → Ready m ≡ Carried i → ⊥
ready_carried m i e = cc

-- a number that a manager may give isn't 0
pub ready_above : (numbers : ℕ → Number) (counter tid manager : ℕ) → NumbersOk numbers counter → numbers tid ≡ Ready manager → tid ≡ 0 → ⊥
ready_above numbers counter tid manager o r e = ready_opening manager (sym r ∙ ap numbers e ∙ o.opening)

-- a number is given
begun_same : (n i : ℕ) → Begun n ≡ Begun i → n ≡ i
begun_same n i e = cc

pub numbers_begun : (numbers : ℕ → Number) (counter tid manager n : ℕ) → 1 ≤ n → NumbersOk numbers counter → numbers tid ≡ Ready manager
    → NumbersOk (put tid (Begun n) numbers) counter
numbers_begun numbers counter tid manager n l o r = record {
  opening = put_other tid 0 (Begun n) numbers (ready_above numbers counter tid manager o r) ∙ o.opening;
  undrawn = put_one (λ (t : ℕ) y. counter < t → y ≡ Undrawn) tid (Begun n) numbers
      (λ l. in_one_place (numbers tid) (Ready manager) Undrawn (Begun n ≡ Undrawn) r (o.undrawn tid l) (ready_undrawn manager)) (λ t ne. o.undrawn t);
  small = o.small;
  begun_at = λ t i. put_one (λ (t : ℕ) y. y ≡ Begun i → 1 ≤ i) tid (Begun n) numbers (λ e. subst (λ x. 1 ≤ x) (begun_same n i e) l) (λ t ne. o.begun_at t i) t;
}

-- ---- the core

-- nothing but numbers has changed, and those of others stay
later_numbers : (b : Base) (g : Ghost) (numbers : ℕ → Number) (counter j : ℕ) → ((t : ℕ) → b.numbers t ≡ Begun j → numbers t ≡ Begun j)
    → ((t : ℕ) → b.numbers t ≡ Carried j → numbers t ≡ Carried j) → Later j (shared b g) (shared (record b { numbers = numbers; counter = counter }) g)
later_numbers b g numbers counter j begun carried = record {
  grows = grows_refl b.cells b.commits;
  begun = begun;
  carried = carried;
  keeps = λ k f m h. h;
  no_more = λ k f m h. h;
  logs = λ q h. refl;
  finished = λ q h. h;
  unfinished = λ q c h. h;
  known = λ x m h. h;
  firsts = λ m h. refl;
  views = λ n k h. refl;
}

module _ (b : Base) (a : Ledger) (g : Ghost) (c : Core b a g) (i : ℕ) where
  -- numbers that no transaction has go elsewhere: those that were nobody's or node i's
  pub core_numbers : (low counter : ℕ) (x y : Number) (p : Phase) → ((t : ℕ) → is_drawn low t ≡ true → b.numbers t ≡ y) → is_taken x ≡ false → is_taken y ≡ false
      → ((j : ℕ) → (i ≡ j → ⊥) → y ≡ Carried j → ⊥) → NumbersOk (numbered low x b.numbers) counter
      → NodeOk (shared (record b { numbers = numbered low x b.numbers; counter = counter }) g) i p (a.seats i) → ActiveOk i p (b.active i)
      → Core (record b { numbers = numbered low x b.numbers; counter = counter }) a (with_phase g i p)
  core_numbers low counter x y p from nx ny mine o h e = record {
    cells = c.cells;
    nodes = nodes_after_phase i (shared b g) (shared (record b { numbers = numbered low x b.numbers; counter = counter }) g) p g.phases a.seats h
        (λ j ne. later_numbers b g (numbered low x b.numbers) counter j
        (λ t q. numbered_elim (λ z. z ≡ Begun j) low x b.numbers t
        (λ d. absurd (untaken_begun y j ny (sym (from t d) ∙ q))) (λ d. q))
        (λ t q. numbered_elim (λ z. z ≡ Carried j) low x b.numbers t (λ d. absurd (mine j ne (sym (from t d) ∙ q))) (λ d. q)))
        c.nodes;
    active = active_after_phase i p g.phases b.active e c.active;
    done = c.done;
    managers = c.managers;
    numbers = o;
    commits = c.commits;
    distinct = c.distinct;
    opens = c.opens;
    taken = λ t f. numbered_elim (λ z. is_taken z ≡ true) low x b.numbers t
        (λ d. not_taken (b.numbers t) y (is_taken x ≡ true) (from t d) ny (c.taken t f)) (λ d. c.taken t f);
    begun = λ t. numbered_elim (λ z. a.begun t ≡ is_begun z) low x b.numbers t
        (λ d. c.begun t ∙ ap is_begun (from t d) ∙ not_begun y ny ∙ sym (not_begun x nx)) (λ d. c.begun t);
    logs = λ t. numbered_elim (λ z. is_begun z ≡ false → b.logs t ≡ None) low x b.numbers t
        (λ d f. c.logs t (ap is_begun (from t d) ∙ not_begun y ny)) (λ d. c.logs t);
  }

  -- the transaction of node i is active no more
  pub core_ended : (seat : Seat) (p : Phase) → NodeOk (shared b g) i p seat → ActiveOk i p None
      → Core (record b { active = put i None b.active }) (seated a i seat) (with_phase g i p)
  core_ended seat p h e = record {
    cells = c.cells;
    nodes = nodes_after i (shared b g) (shared b g) p seat g.phases a.seats h (λ j ne. later_same (shared b g) j) c.nodes;
    active = active_after i p None g.phases b.active e c.active;
    done = c.done;
    managers = managers_ended b.home b.top b.floors b.copies b.active g.cuts g.finished i c.managers;
    numbers = c.numbers;
    commits = c.commits;
    distinct = c.distinct;
    opens = c.opens;
    taken = c.taken;
    begun = c.begun;
    logs = c.logs;
  }

-- a node knows the low-water mark of a manager
pub core_learnt : (w : World) (a : Ledger) (g : Ghost) → Core (base w) a g → (n manager : ℕ) (seen floor : TidSet) → Snap seen g.finished
    → IsFloor w manager (newer (w.copies manager) seen) floor
    → Core (record (base w) {
      copies = put manager (newer (w.copies manager) seen) w.copies;
      floors = put n (put manager floor (w.floors n)) w.floors;
    }) a g
core_learnt w a g c n manager seen floor s low = record {
  cells = c.cells;
  nodes = c.nodes;
  active = c.active;
  done = c.done;
  managers = managers_learnt w g.cuts g.finished c.managers n manager seen floor s low;
  numbers = c.numbers;
  commits = c.commits;
  distinct = c.distinct;
  opens = c.opens;
  taken = c.taken;
  begun = c.begun;
  logs = c.logs;
}

-- the ledger once node n has begun a transaction
abbrev pub begun_ledger : Ledger → ℕ → ℕ → ℕ → Ledger
begun_ledger a n tid first = record {
  commits = a.commits;
  begun = put tid true a.begun;
  seats = put n (record (a.seats n) { noted = None; held = Some (begin n tid first) }) a.seats;
}

-- a transaction of node i begins: its number is given, and it is active
pub core_begun : (b : Base) (a : Ledger) (g : Ghost) → Core b a g → (i tid manager first : ℕ) (snapshot : TidSet) (p : Phase) → 1 ≤ i → b.numbers tid ≡ Ready manager
    → b.copies (b.home i) ≡ snapshot
    → NodeOk (shared (record b { numbers = put tid (Begun i) b.numbers }) g) i p (record (a.seats i) { noted = None; held = Some (begin i tid first) })
    → ActiveOk i p (Some (record { tid = tid; node = i; snapshot = snapshot }))
    → Core (record b {
      numbers = put tid (Begun i) b.numbers;
      active = put i (Some (record { tid = tid; node = i; snapshot = snapshot })) b.active;
    }) (begun_ledger a i tid first) (with_phase g i p)
core_begun b a g c i tid manager first snapshot p l ready e h active = record {
  cells = c.cells;
  nodes = nodes_after i (shared b g) (shared (record b { numbers = put tid (Begun i) b.numbers }) g) p
      (record (a.seats i) { noted = None; held = Some (begin i tid first) }) g.phases a.seats h
      (λ j ne. later_numbers b g (put tid (Begun i) b.numbers) b.counter j
      (put_one (λ (t : ℕ) y. b.numbers t ≡ Begun j → y ≡ Begun j) tid (Begun i) b.numbers
      (λ q. in_one_place (b.numbers tid) (Ready manager) (Begun j) (Begun i ≡ Begun j) ready q (ready_begun manager j)) (λ t ne q. q))
      (put_one (λ (t : ℕ) y. b.numbers t ≡ Carried j → y ≡ Carried j) tid (Begun i) b.numbers
      (λ q. in_one_place (b.numbers tid) (Ready manager) (Carried j) (Begun i ≡ Carried j) ready q (ready_carried manager j)) (λ t ne q. q)))
      c.nodes;
  active = active_after i p (Some (record { tid = tid; node = i; snapshot = snapshot })) g.phases b.active active c.active;
  done = c.done;
  managers = managers_begun b.home b.top b.floors b.copies b.active g.cuts g.finished i (record { tid = tid; node = i; snapshot = snapshot }) e c.managers;
  numbers = numbers_begun b.numbers b.counter tid manager i l c.numbers ready;
  commits = c.commits;
  distinct = c.distinct;
  opens = c.opens;
  taken = put_one (λ (t : ℕ) y. is_done t g.finished ≡ true → is_taken y ≡ true) tid (Begun i) b.numbers (λ f. refl) (λ t ne. c.taken t);
  begun = put_both (λ (t : ℕ) x y. x ≡ is_begun y) tid true a.begun (Begun i) b.numbers refl (λ t ne. c.begun t);
  logs = put_one (λ (t : ℕ) y. is_begun y ≡ false → b.logs t ≡ None) tid (Begun i) b.numbers (λ f. c.logs tid (ap is_begun ready)) (λ t ne. c.logs t);
}
