-- The log cell of a transaction names records of the catalog's tables, whatever its flag.
use Rattle.std.proofs.Common.{◌≡◌, ℕ, ◌≤◌, Bool, true, false, List, Option, Some, None, refl, ap, ◌∙◌, sym, subst}
use Rattle.std.specs.Prelude.{◌==◌, if◌then◌else◌}
use Rattle.std.specs.List.{AllByRecursion}
use Rattle.std.proofs.lemmas.Bool.{eqb-true}
use Rattle.std.proofs.lemmas.Option.{same_Some}
use Rattle.tl_lemmas.proofs.Lists.{all_map, found}
use Rattle.tl_schema.specs.declared.catalog.Catalog.{Catalog}
use Rattle.tl_logrec.specs.declared.entry.Flag.TheVariants as flag
use Rattle.tl_write.specs.declared.write.Write.{Write}
use Rattle.tl_isolation.specs.declared.state.Transaction.{Transaction}
use Rattle.tl_isolation.specs.declared.state.SiState.{SiState}
use Rattle.tl_protocol.specs.Store.{LogCell, put}
use Rattle.tl_protocol.specs.World.{Txn, Fact, Live, Trying, Undoing, Stripping, World, At}
use Rattle.tl_protocol.specs.Move as move
use Rattle.tl_protocol.specs.Move.{Move}
use Rattle.tl_protocol.specs.Next.{log_cell, next}
use Rattle.tl_protocol.specs.Stands.{IsKeyOf}
use Rattle.tl_protocol.proofs.Inv.{Ghost, Inv, LiveOk, NodeOk, TryingOk, UndoingOk, base, shared}
use Rattle.tl_protocol.proofs.Ledger.{Ledger}
use Rattle.tl_protocol.proofs.Shown.{AreHomeWrites, AreKeyed, Proper, Shows}
use Rattle.tl_protocol.proofs.Steps.{node_at, numbered, recovery_at}

-- it is of this transaction, and names records
abbrev pub IsNamed : Catalog → ℕ → LogCell → Type 0
IsNamed catalog tid log = (log.entry.tid ≡ tid) × AllByRecursion (IsKeyOf catalog) log.entry.writes

abbrev pub AreNamed : Catalog → (ℕ → Option LogCell) → Type 0
AreNamed catalog logs = (tid : ℕ) (log : LogCell) → logs tid ≡ Some log → IsNamed catalog tid log

put_named : (catalog : Catalog) (tid : ℕ) (cell : LogCell) (logs : ℕ → Option LogCell) → IsNamed catalog tid cell → AreNamed catalog logs
    → AreNamed catalog (put tid (Some cell) logs)
put_named catalog tid cell logs h i other log = by (tid == other) refl
  where
    by : (b : Bool) → (tid == other) ≡ b → (if b then Some cell else logs other) ≡ Some log → IsNamed catalog other log
    by true e f = subst (λ (t : ℕ). IsNamed catalog t log) (eqb-true tid other e) (subst (IsNamed catalog tid) (same_Some cell log f) h)
    by false e f = i other log f

module _ (catalog : Catalog) (s : SiState) (a : Ledger) (shows : Shows s a) (proper : Proper catalog s) where
  -- what a node's transaction has written is at home
  pub held_home : (n : ℕ) (t : Transaction) → 1 ≤ n → (a.seats n).held ≡ Some t → AreHomeWrites catalog t.own × AreKeyed catalog t.own
  held_home n t least e =
      found (λ (x : Transaction). AreHomeWrites catalog x.own × AreKeyed catalog x.own) (λ (x : Transaction). x.node == n) s.held t proper.held
      (shows.held n least ∙ e)

module _ (catalog : Catalog) (w : World) (s : SiState) (a : Ledger) (g : Ghost) (shows : Shows s a) (proper : Proper catalog s) (v : Inv w a g)
    (named : AreNamed catalog w.logs) where
  -- the own writes of a transaction that takes statements
  live_named : (n stamp : ℕ) (t : Txn) (facts : List Fact) → At w n (Live t facts) → IsNamed catalog t.tid (log_cell stamp n flag.Trying t)
  live_named n stamp t facts at =
      let ok : LiveOk (shared (base w) g) n t facts (a.seats n) = node_at w a g v n (Live t facts) at in
      let home = held_home catalog s a shows proper n _ (numbered w a g v n at.runs) ok.txn.is_held in
      (refl, all_map (λ (o : Write). IsKeyOf catalog o.key) (IsKeyOf catalog) (λ (o : Write). o.key) (λ o h. h) t.own home.1)

  -- a log cell names the same records under each flag
  pub next_named : (m : Move w) → AreNamed catalog (next w m).logs
  next_named (move.Try n stamp t facts at may some absent above) =
      put_named catalog t.tid (log_cell stamp n flag.Trying t) w.logs (live_named n stamp t facts at) named
  next_named (move.Decide n stamp y at all same above) =
      let ok : TryingOk (shared (base w) g) n y None (a.seats n) = node_at w a g v n (Trying y None) at in
      let is = named y.txn.tid (log_cell y.log n flag.Trying y.txn) ok.log in
      put_named catalog y.txn.tid (log_cell stamp n flag.Decided y.txn) w.logs (refl, is.1) named
  next_named (move.MarkUndone n stamp y rival at none same above) =
      let ok : UndoingOk (shared (base w) g) n y rival None (a.seats n) = node_at w a g v n (Undoing y rival None) at in
      let is = named y.txn.tid (log_cell y.log n flag.Trying y.txn) ok.log in
      put_named catalog y.txn.tid (log_cell stamp n flag.Undone y.txn) w.logs (refl, is.1) named
  next_named (move.MarkLost n stamp duties o log seen at all same above) =
      let strip = (recovery_at w a g v n (Stripping duties o log seen None) at).1 in
      let undoing : NodeOk (shared (base w) g) o.node (Undoing strip.a strip.rival None) (a.seats o.node) =
      subst (λ p. NodeOk (shared (base w) g) o.node p (a.seats o.node)) strip.is_so (v.core.nodes o.node) in
      let stands : w.logs o.tid ≡ Some log =
      subst (λ (t : ℕ). w.logs t ≡ Some log) strip.tid (undoing.log ∙ ap (λ (x : LogCell). Some x) (sym strip.log_is)) in
      let is = named o.tid log stands in
      put_named catalog o.tid _ w.logs is named
  next_named m = named
