-- Stores of record cells: what they leave of the state of the store and of the nodes.
use Rattle.std.proofs.Common.{◌≡◌, ℕ, ◌<◌, ◌≤◌, Bool, true, false, List, Option, Some, None, Ordering, Less, Equal, Greater, refl, sym, ap, ◌∙◌, subst, arith}
use Rattle.std.specs.Prelude.{if◌then◌else◌}
use Rattle.std.specs.Ordering.{ordering_reverse, is_eq}
use Rattle.std.specs.Cmp.Lexicographic.{nat_list_cmp_total}
use Rattle.std.specs.FinMap.{nat_cmp-IsAntisymmetric, slice_cmp-IsAntisymmetric}
use Rattle.std.proofs.lemmas.Bool.{false≢true}
use Rattle.std.proofs.lemmas.Option.{same_Some}
use Rattle.tl_lemmas.proofs.Orders.{equal_is, equal_itself}
use Rattle.tl_values.specs.declared.value.Value.{Value}
use Rattle.tl_descriptor.specs.Tids.{TidSet, IsWithin}
use Rattle.tl_manager.specs.declared.active.Active.{Active}
use Rattle.tl_versions.specs.declared.version.Version.{Version}
use Rattle.tl_versions.specs.Versions.{strip}
use Rattle.tl_write.specs.Own.{key_cmp}
use Rattle.tl_protocol.specs.Store.{Key, Cell, put, put_at, same_key, written}
use Rattle.tl_protocol.specs.World.{Txn, Attempt, Loaded, Phase, Undoing}
use Rattle.tl_protocol.proofs.Ledger.{Ledger}
use Rattle.tl_protocol.proofs.Finished.{Finished}
use Rattle.tl_protocol.proofs.History.{IsKept, history, strip_front}
use Rattle.tl_protocol.proofs.Inv.{ActiveOk, Base, CellOk, Core, Front, Ghost, LoadOk, ManagersOk, NodeOk, Shared, shared}
use Rattle.tl_protocol.proofs.Later.{Grows, Later}
use Rattle.tl_protocol.proofs.Frames.{active_after_phase, nodes_after_phase}
use Rattle.tl_write.proofs.Keys.{key_eq, key_itself}

-- ---- functions of keys

-- a function changed at one key
pub put_at_one : {A : Type 0} (P : Key → A → Type 0) (k : Key) (x : A) (f : Key → A)
    → P k x → ((i : Key) → same_key k i ≡ false → P i (f i)) → (i : Key) → P i (put_at k x f i)
put_at_one P k x f h r i = by (same_key k i) refl
  where
    by : (b : Bool) → same_key k i ≡ b → P i (if b then x else f i)
    by true e = subst (λ j. P j x) (key_eq k i e) h
    by false e = r i e

pub put_at_same : {A : Type 0} (k : Key) (x : A) (f : Key → A) → put_at k x f k ≡ x
put_at_same k x f = ap (λ b. if b then x else f k) (key_itself k)

pub put_at_other : {A : Type 0} (k i : Key) (x : A) (f : Key → A) → same_key k i ≡ false → put_at k x f i ≡ f i
put_at_other k i x f e = ap (λ b. if b then x else f i) e

-- ---- one cell is stored

risen : (x y z : ℕ) → x ≡ y → y < z → x ≤ z
risen x y z e l = omega arith

not_risen : (x y z : ℕ) → x ≡ y → y < z → z ≡ x → ⊥
not_risen x y z e l q = absurd (omega arith)

-- the stamp of the cell that is stored has grown, and nothing else has changed
pub grows_store : (b : Base) (l : Loaded) (stamp : ℕ) (vs : List Version) → (b.cells l.key).stamp ≡ l.stamp → l.stamp < stamp
    → Grows b.cells b.commits (put_at l.key (record { stamp = stamp; versions = vs }) b.cells) b.commits
grows_store b l stamp vs e above =
    let cell : Cell = record { stamp = stamp; versions = vs } in
    record {
      stamps = put_at_one (λ k (x : Cell). (b.cells k).stamp ≤ x.stamp) l.key cell b.cells (risen (b.cells l.key).stamp l.stamp stamp e above) (λ k ne. omega arith);
      versions = put_at_one (λ k (x : Cell). x.stamp ≡ (b.cells k).stamp → x.versions ≡ (b.cells k).versions) l.key cell b.cells
          (λ q. absurd (not_risen (b.cells l.key).stamp l.stamp stamp e above q)) (λ k ne q. refl);
      stamp = omega arith;
      finished = λ q. refl;
    }

-- by which low-water marks the cells are cut, once one cell is cut by another
pub managers_cut : (home : ℕ → ℕ) (top : ℕ) (floors : ℕ → ℕ → TidSet) (copies : ℕ → TidSet) (active : ℕ → Option Active) (cuts : Key → TidSet) (ds : List Finished)
    → ManagersOk home top floors copies active cuts ds → (k : Key) (cut : TidSet)
    → ((j : ℕ) → j ≤ top → IsWithin cut (copies j)) → ((d : ℕ) (x : Active) → active d ≡ Some x → IsWithin cut x.snapshot)
    → ManagersOk home top floors copies active (put_at k cut cuts) ds
managers_cut home top floors copies active cuts ds m k cut c s = record {
  at_home = m.at_home;
  copy_known = m.copy_known;
  snaps = m.snaps;
  floor_known = m.floor_known;
  floor_copy = m.floor_copy;
  floor_snap = m.floor_snap;
  cut_copy = λ i j l. put_at_one (λ (q : Key) y. IsWithin y (copies j)) k cut cuts (c j l) (λ q ne. m.cut_copy q j l) i;
  cut_snap = λ i d x e. put_at_one (λ (q : Key) y. IsWithin y x.snapshot) k cut cuts (s d x e) (λ q ne. m.cut_snap q d x e) i;
}

-- what nodes share, once one cell is stored
abbrev pub stored_shared : Base → Ghost → Key → ℕ → List Version → Option Front → Shared
stored_shared b g k stamp vs o =
    record {
      cells = put_at k (record { stamp = stamp; versions = vs }) b.cells;
      commits = b.commits;
      logs = b.logs;
      numbers = b.numbers;
      fronts = put_at k o g.fronts;
      finished = g.finished;
    }

-- another node than i doesn't see that its version comes or goes
later_stored : (b : Base) (g : Ghost) (i : ℕ) (k : Key) (stamp : ℕ) (vs : List Version) (o : Option Front)
    → Grows b.cells b.commits (put_at k (record { stamp = stamp; versions = vs }) b.cells) b.commits
    → ((f : Front) → g.fronts k ≡ Some f → f.node ≡ i) → ((f : Front) → o ≡ Some f → f.node ≡ i)
    → (j : ℕ) → (i ≡ j → ⊥) → Later j (shared b g) (stored_shared b g k stamp vs o)
later_stored b g i k stamp vs o grow mine new j ne = record {
  grows = grow;
  begun = λ q h. h;
  carried = λ q h. h;
  keeps = λ q f m. put_at_one (λ (x : Key) y. g.fronts x ≡ Some f → y ≡ Some f) k o g.fronts (λ h. absurd (ne (sym (mine f h) ∙ m))) (λ x e h. h) q;
  no_more = λ q f m. put_at_one (λ (x : Key) y. y ≡ Some f → g.fronts x ≡ Some f) k o g.fronts (λ h. absurd (ne (sym (new f h) ∙ m))) (λ x e h. h) q;
  logs = λ q h. refl;
  finished = λ q h. h;
  unfinished = λ q c h. h;
  known = λ x m h. h;
  firsts = λ m h. refl;
  views = λ n q h. refl;
}

-- a cell is stored with versions that are well, for the transaction of node i
pub core_store : (b : Base) (a : Ledger) (g : Ghost) (c : Core b a g) (i : ℕ) (p : Phase) (k : Key) (stamp : ℕ) (vs : List Version) (cuts : Key → TidSet) (o : Option Front)
    → Grows b.cells b.commits (put_at k (record { stamp = stamp; versions = vs }) b.cells) b.commits
    → CellOk a.commits k (cuts k) vs o → ((j : Key) → same_key k j ≡ false → cuts j ≡ g.cuts j)
    → ((f : Front) → g.fronts k ≡ Some f → f.node ≡ i) → ((f : Front) → o ≡ Some f → f.node ≡ i)
    → ManagersOk b.home b.top b.floors b.copies b.active cuts g.finished
    → NodeOk (stored_shared b g k stamp vs o) i p (a.seats i) → ActiveOk i p (b.active i)
    → Core (record b { cells = put_at k (record { stamp = stamp; versions = vs }) b.cells }) a
    (record g { fronts = put_at k o g.fronts; cuts = cuts; phases = put i p g.phases })
core_store b a g c i p k stamp vs cuts o grow ok still mine new managers h e = record {
  cells = λ j. by_cell j (same_key k j) refl;
  nodes = nodes_after_phase i (shared b g) (stored_shared b g k stamp vs o) p g.phases a.seats h (later_stored b g i k stamp vs o grow mine new) c.nodes;
  active = active_after_phase i p g.phases b.active e c.active;
  done = c.done;
  managers = managers;
  numbers = c.numbers;
  commits = c.commits;
  distinct = c.distinct;
  opens = c.opens;
  taken = c.taken;
  begun = c.begun;
  logs = c.logs;
}
  where
    by_cell : (j : Key) (y : Bool) → same_key k j ≡ y
        → CellOk a.commits j (cuts j) (if y then record { stamp = stamp; versions = vs } else b.cells j).versions (if y then o else g.fronts j)
    by_cell j true e = subst (λ x. CellOk a.commits x (cuts x) vs o) (key_eq k j e) ok
    by_cell j false e = subst (λ x. CellOk a.commits j x (b.cells j).versions (g.fronts j)) (sym (still j e)) (c.cells j)

-- ---- a version is removed

-- a version of t stands in front at k
abbrev pub Standing : (Key → Option Front) → ℕ → Txn → ℕ → Key → Type 0
Standing fronts i t first k = (row : Option (List Value)) × (written k t.own ≡ Some row) × (fronts k ≡ Some (record { node = i; tid = t.tid; row = row; first = first }))

-- with one version fewer its versions stand where they are said to stand
stands_drop : (fronts : Key → Option Front) (i : ℕ) (t : Txn) (stored : Key → Bool) (first : ℕ) (j k : Key)
    → ((q : Key) → stored q ≡ true → Standing fronts i t first q) → put_at j false stored k ≡ true → Standing (put_at j None fronts) i t first k
stands_drop fronts i t stored first j k h = by (same_key j k)
  where
    by : (b : Bool) → (if b then false else stored k) ≡ true
        → (row : Option (List Value)) × (written k t.own ≡ Some row) × ((if b then None else fronts k) ≡ Some (record { node = i; tid = t.tid; row = row; first = first }))
    by true z = absurd (false≢true z)
    by false z = h k z

-- and nowhere else
only_drop : (fronts : Key → Option Front) (i : ℕ) (stored : Key → Bool) (j k : Key) (f : Front)
    → ((q : Key) (f : Front) → fronts q ≡ Some f → f.node ≡ i → stored q ≡ true) → put_at j None fronts k ≡ Some f → f.node ≡ i → put_at j false stored k ≡ true
only_drop fronts i stored j k f h = by (same_key j k)
  where
    by : (b : Bool) → ◌≡◌ {A = Option Front} (if b then None else fronts k) (Some f) → f.node ≡ i → (if b then false else stored k) ≡ true
    by true z m = absurd cc
    by false z m = h k f z m

-- where the version of t stands in front, the cell is well without it
stripped : (b : Base) (a : Ledger) (g : Ghost) → Core b a g → (i : ℕ) (t : Txn) (first : ℕ) (k : Key) (vs : List Version) → Standing g.fronts i t first k → (b.cells k).versions ≡ vs
    → CellOk a.commits k (g.cuts k) (strip t.tid vs) None × ((f : Front) → g.fronts k ≡ Some f → f.node ≡ i)
stripped b a g c i t first k vs it same =
    let front : Front = record { node = i; tid = t.tid; row = it.0; first = first } in
    let ok : CellOk a.commits k (g.cuts k) (b.cells k).versions (Some front) = subst (λ f. CellOk a.commits k (g.cuts k) (b.cells k).versions f) it.2 (c.cells k) in (
      subst (λ x. IsKept (history k a.commits) (g.cuts k) x) (sym (ap (strip t.tid) (sym same ∙ ok.1) ∙ strip_front t.tid it.0 ok.0)) ok.2,
      λ f y. sym (ap (λ (x : Front). x.node) (same_Some front f (sym it.2 ∙ y))),
    )

-- the version of a transaction that is being undone is removed from a cell, by its node or by a recoverer
pub core_strip : (b : Base) (a : Ledger) (g : Ghost) (c : Core b a g) (i stamp : ℕ) (x : Attempt) (rival : Option ℕ) (lo : Option Loaded) (l : Loaded)
    → g.phases i ≡ Undoing x rival lo → x.stored l.key ≡ true → LoadOk b.cells l → (b.cells l.key).stamp ≡ l.stamp → l.stamp < stamp
    → Core (record b { cells = put_at l.key (record { stamp = stamp; versions = strip x.txn.tid l.versions }) b.cells }) a
    (record g { fronts = put_at l.key None g.fronts; phases = put i (Undoing (record x { stored = put_at l.key false x.stored }) rival None) g.phases })
core_strip b a g c i stamp x rival lo l so here load e above =
    let o : NodeOk (shared b g) i (Undoing x rival lo) (a.seats i) = subst (λ q. NodeOk (shared b g) i q (a.seats i)) so (c.nodes i) in
    let act : ActiveOk i (Undoing x rival lo) (b.active i) = subst (λ q. ActiveOk i q (b.active i)) so (c.active i) in
    let p = o.txn in
    let s = stripped b a g c i x.txn p.first l.key l.versions (p.stands l.key here) (load.same e) in
    core_store b a g c i (Undoing (record x { stored = put_at l.key false x.stored }) rival None) l.key stamp (strip x.txn.tid l.versions) g.cuts None
    (grows_store b l stamp (strip x.txn.tid l.versions) e above) s.0 (λ j ne. refl) s.1 (λ f y. absurd cc) c.managers
    (record {
      p = o.p;
      txn = record {
        m = p.m;
        known = p.known;
        first = p.first;
        first_is = p.first_is;
        begun = p.begun;
        unfinished = p.unfinished;
        is_held = p.is_held;
        stands = λ k. stands_drop g.fronts i x.txn x.stored p.first l.key k p.stands;
        only = λ k f. only_drop g.fronts i x.stored l.key k f p.only;
      };
      runs = o.runs;
      gives_up = o.gives_up;
      log = o.log;
      hand = tt;
    })
    act
