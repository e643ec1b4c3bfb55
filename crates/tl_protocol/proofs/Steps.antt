-- The frame of a move that changes no cell: a node's phase, its seat in the ledger, its log cell.
use Rattle.std.proofs.Common.{◌≡◌, ℕ, ◌≤◌, Bool, true, false, Option, None, refl, ap, ◌∙◌, subst, arith}
use Rattle.std.specs.Prelude.{◌==◌, ◌&&◌, not}
use Rattle.std.proofs.lemmas.Bool.Decides.{nat_tests}
use Rattle.tl_protocol.specs.Store.{LogCell, put}
use Rattle.tl_protocol.specs.World.{Number, Begun, Phase, Recovery, World, runs, At, Recovers}
use Rattle.tl_protocol.proofs.Ledger.{Ledger, Seat, seated}
use Rattle.tl_protocol.proofs.Inv.{ActiveOk, Base, Core, Ghost, Inv, NodeOk, RecoveryOk, Shared, base, is_begun, shared, vanished_of}
use Rattle.tl_protocol.proofs.Later.{Later, grows_refl}
use Rattle.tl_protocol.proofs.Frames.{active_after_phase, nodes_after, nodes_after_phase, put_one, put_other}

-- the ghost with another phase of node i
abbrev pub with_phase : Ghost → ℕ → Phase → Ghost
with_phase g i p = record g { phases = put i p g.phases }

-- the seat that is put at node n tells whether the node has vanished as the one before it did
pub seated_vanished : (a : Ledger) (n : ℕ) (seat : Seat) → seat.vanished ≡ (a.seats n).vanished → (i : ℕ) → vanished_of (seated a n seat) i ≡ vanished_of a i
seated_vanished a n seat e = put_one (λ i (s : Seat). s.vanished ≡ (a.seats i).vanished) n seat a.seats e (λ i ne. refl)

begun_by : (i j : ℕ) (x : Number) → x ≡ Begun i → x ≡ Begun j → i ≡ j
begun_by i j x e f = cc

is_begun_by : (i : ℕ) (x : Number) → x ≡ Begun i → is_begun x ≡ false → ⊥
is_begun_by i x e f = cc

-- the log of a transaction of node i is no other node's
pub log_other : (numbers : ℕ → Number) (logs : ℕ → Option LogCell) (i t : ℕ) (l : Option LogCell) → numbers t ≡ Begun i
    → (j : ℕ) → (i ≡ j → ⊥) → (q : ℕ) → numbers q ≡ Begun j → put t l logs q ≡ logs q
log_other numbers logs i t l b j ne q c = put_other t q l logs (λ e. ne (begun_by i j (numbers t) b (ap numbers e ∙ c)))

pub logs_begun : (numbers : ℕ → Number) (logs : ℕ → Option LogCell) (i t : ℕ) (l : Option LogCell) → numbers t ≡ Begun i
    → ((q : ℕ) → is_begun (numbers q) ≡ false → logs q ≡ None) → (q : ℕ) → is_begun (numbers q) ≡ false → put t l logs q ≡ None
logs_begun numbers logs i t l b h q u =
    put_one (λ (j : ℕ) y. is_begun (numbers j) ≡ false → y ≡ None) t l logs (λ c. absurd (is_begun_by i (numbers t) b c)) (λ j ne. h j) q u

-- nothing but logs of node i has changed
pub later_logs : (b : Base) (g : Ghost) (i t : ℕ) (l : Option LogCell) → b.numbers t ≡ Begun i
    → (j : ℕ) → (i ≡ j → ⊥) → Later j (shared b g) (shared (record b { logs = put t l b.logs }) g)
later_logs b g i t l e j ne = record {
  grows = grows_refl b.cells b.commits;
  begun = λ q h. h;
  carried = λ q h. h;
  keeps = λ k f m h. h;
  no_more = λ k f m h. h;
  logs = λ q h. log_other b.numbers b.logs i t l e j ne q h;
  finished = λ q h. h;
  unfinished = λ q c h. h;
  known = λ x m h. h;
  firsts = λ m h. refl;
  views = λ n k h. refl;
}

pub later_same : (s : Shared) (j : ℕ) → Later j s s
later_same s j = record {
  grows = grows_refl s.cells s.commits;
  begun = λ q h. h;
  carried = λ q h. h;
  keeps = λ k f m h. h;
  no_more = λ k f m h. h;
  logs = λ q h. refl;
  finished = λ q h. h;
  unfinished = λ q c h. h;
  known = λ x m h. h;
  firsts = λ m h. refl;
  views = λ n k h. refl;
}

module _ (b : Base) (a : Ledger) (g : Ghost) (c : Core b a g) (i : ℕ) (p : Phase) where
  -- the phase alone
  pub core_turn : NodeOk (shared b g) i p (a.seats i) → ActiveOk i p (b.active i) → Core b a (with_phase g i p)
  core_turn h e = record {
    cells = c.cells;
    nodes = nodes_after_phase i (shared b g) (shared b g) p g.phases a.seats h (λ j ne. later_same (shared b g) j) c.nodes;
    active = active_after_phase i p g.phases b.active e c.active;
    done = c.done;
    managers = c.managers;
    numbers = c.numbers;
    commits = c.commits;
    distinct = c.distinct;
    opens = c.opens;
    taken = c.taken;
    begun = c.begun;
    logs = c.logs;
  }

  -- and the seat
  pub core_seat : (seat : Seat) → NodeOk (shared b g) i p seat → ActiveOk i p (b.active i) → Core b (seated a i seat) (with_phase g i p)
  core_seat seat h e = record {
    cells = c.cells;
    nodes = nodes_after i (shared b g) (shared b g) p seat g.phases a.seats h (λ j ne. later_same (shared b g) j) c.nodes;
    active = active_after_phase i p g.phases b.active e c.active;
    done = c.done;
    managers = c.managers;
    numbers = c.numbers;
    commits = c.commits;
    distinct = c.distinct;
    opens = c.opens;
    taken = c.taken;
    begun = c.begun;
    logs = c.logs;
  }

  -- the phase, and the log of a transaction of the node
  pub core_log : (t : ℕ) (l : Option LogCell) → b.numbers t ≡ Begun i → NodeOk (shared (record b { logs = put t l b.logs }) g) i p (a.seats i)
      → ActiveOk i p (b.active i) → Core (record b { logs = put t l b.logs }) a (with_phase g i p)
  core_log t l n h e = record {
    cells = c.cells;
    nodes = nodes_after_phase i (shared b g) (shared (record b { logs = put t l b.logs }) g) p g.phases a.seats h (later_logs b g i t l n) c.nodes;
    active = active_after_phase i p g.phases b.active e c.active;
    done = c.done;
    managers = c.managers;
    numbers = c.numbers;
    commits = c.commits;
    distinct = c.distinct;
    opens = c.opens;
    taken = c.taken;
    begun = c.begun;
    logs = logs_begun b.numbers b.logs i t l n c.logs;
  }

  -- and the seat
  pub core_log_seat : (t : ℕ) (l : Option LogCell) (seat : Seat) → b.numbers t ≡ Begun i → NodeOk (shared (record b { logs = put t l b.logs }) g) i p seat
      → ActiveOk i p (b.active i) → Core (record b { logs = put t l b.logs }) (seated a i seat) (with_phase g i p)
  core_log_seat t l seat n h e = record {
    cells = c.cells;
    nodes = nodes_after i (shared b g) (shared (record b { logs = put t l b.logs }) g) p seat g.phases a.seats h (later_logs b g i t l n) c.nodes;
    active = active_after_phase i p g.phases b.active e c.active;
    done = c.done;
    managers = c.managers;
    numbers = c.numbers;
    commits = c.commits;
    distinct = c.distinct;
    opens = c.opens;
    taken = c.taken;
    begun = c.begun;
    logs = logs_begun b.numbers b.logs i t l n c.logs;
  }

module _ (w : World) (a : Ledger) (g : Ghost) (v : Inv w a g) where
  -- what holds of a node that runs, and is so far
  pub node_at : (n : ℕ) (p : Phase) → At w n p → NodeOk (shared (base w) g) n p (a.seats n)
  node_at n p at = subst (λ q. NodeOk (shared (base w) g) n q (a.seats n)) (v.link.runs n at.runs ∙ at.so_far) (v.core.nodes n)

  pub active_at : (n : ℕ) (p : Phase) → At w n p → ActiveOk n p (w.active n)
  active_at n p at = subst (λ q. ActiveOk n q (w.active n)) (v.link.runs n at.runs ∙ at.so_far) (v.core.active n)

  pub recovery_at : (n : ℕ) (r : Recovery) → Recovers w n r → RecoveryOk (base w) g.phases r
  recovery_at n r at = subst (RecoveryOk (base w) g.phases) at.so_far (v.link.recoveries n at.runs)

  pub not_vanished : (n : ℕ) → runs w n ≡ true → (a.seats n).vanished ≡ false
  not_vanished n r = v.link.seats n ∙ running (n == 0) (w.gone n) r
    where
      running : (x y : Bool) → not x && not y ≡ true → y ≡ false
      running x y e = grind arith

  pub numbered : (n : ℕ) → runs w n ≡ true → 1 ≤ n
  numbered n r = above n (w.gone n) r
    where
      above : (n : ℕ) (y : Bool) → not (n == 0) && not y ≡ true → 1 ≤ n
      above n y e = grind (arith, nat_tests)
