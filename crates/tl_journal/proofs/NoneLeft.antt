-- Where a recovery's last duty is seen to, none of the nodes that it was given has a transaction.
use Rattle.std.proofs.Common.{◌≡◌, ℕ, ◌≤◌, Bool, true, false, ⊎_elim, List, [], ◌∷◌, Option, Some, None, refl, ap, ◌∙◌, subst}
use Rattle.std.specs.Prelude.{◌==◌, ◌&&◌, ◌||◌, nat_le}
use Rattle.std.proofs.lemmas.Bool.{both_ways, eqb-true}
use Rattle.std.proofs.lemmas.Option.{same_Some}
use Rattle.tl_base.specs.NodeSet.{has_node}
use Rattle.tl_base.specs.declared.place.Settings.{Settings}
use Rattle.tl_schema.specs.declared.catalog.Setup.{Setup}
use Rattle.tl_manager.specs.declared.active.Active.{Active}
use Rattle.tl_isolation.specs.declared.entry.Entry.{Entry}
use Rattle.tl_isolation.specs.declared.state.SiState.{SiState}
use Rattle.tl_isolation.specs.State.{held_by}
use Rattle.tl_protocol.specs.Store.{put}
use Rattle.tl_protocol.specs.World.{Phase, Idle, Noted, Drawn, Live, Trying, Undoing, Closing, Ending, Fact, Txn, Duties, World, Recovers}
use Rattle.tl_protocol.specs.World as protocol
use Rattle.tl_protocol.specs.Run.{Layout}
use Rattle.tl_protocol.proofs.Duties.{active_none, active_part, none_held, put_cases}
use Rattle.tl_protocol.proofs.Inv.{ActiveOk, Ghost, Inv, Owes, RecoveryOk, base, shared, tid_of}
use Rattle.tl_protocol.proofs.Ledger.{Ledger}
use Rattle.tl_protocol.proofs.Reached.{Reached, reached}
use Rattle.tl_protocol.proofs.Steps.{recovery_at}
use Rattle.tl_journal.specs.Node.{Claimed, Lost, Recovering, EndingLost, Node}
use Rattle.tl_journal.specs.Reads.{Reads}
use Rattle.tl_journal.proofs.Meets.{Before, RecoveryIs, orphan_of}

-- the nodes that a recovery was given
abbrev pub is_given : Claimed → ℕ → Bool
is_given c d = nat_le 1 d && has_node c.all d

-- none of them has an active transaction
abbrev pub NoneOf : (ℕ → Option Active) → Claimed → Type 0
NoneOf active c = (d : ℕ) → is_given c d ≡ true → active d ≡ None

none_active : (i : ℕ) (p : Phase) (o : Option Active) → ActiveOk i p o → tid_of p ≡ None → o ≡ None
none_active i Idle o h e = h
none_active i (Noted seen) o h e = h
none_active i (Drawn seen low) o h e = h
none_active i (Live t facts) o h e = absurd cc
none_active i (Trying a l) o h e = absurd cc
none_active i (Undoing a rival l) o h e = absurd cc
none_active i (Closing t d c) o h e = absurd cc
none_active i (Ending tid told) o h e = absurd cc

-- a node that isn't left and isn't in hand has none
duty_none : (w : World) (a : Ledger) (g : Ghost) → Inv w a g → (duties : Duties) (busy : Option ℕ) → Owes g.phases duties busy → (d : ℕ)
    → duties.all d ≡ true → duties.left d ≡ false → (busy ≡ Some d → ⊥) → w.active d ≡ None
duty_none w a g v duties busy o d all left free =
    ⊎_elim (λ l. absurd (both_ways (duties.left d) left l))
    (λ x. ⊎_elim (λ y. none_active d (g.phases d) (w.active d) (v.core.active d) y) (λ y. absurd (free y)) x) (o.rest d all)

-- no transaction is held of a node that has none
pub held_none : (setup : Setup) (w : World) (s : SiState) (es : List Entry) → Reached setup w s es → (d : ℕ) → 1 ≤ d → w.active d ≡ None → held_by d s.held ≡ None
held_none setup w s es r d least e =
    r.shows.held d least
    ∙ none_held (shared (base w) r.ghost) d (r.ghost.phases d) (r.ledger.seats d) (active_none d (r.ghost.phases d) (w.active d) (r.inv.core.active d) e) (r.inv.core.nodes d)

module _ (R : Txn → List Fact → Reads → Type 0) (layout : Layout) (setup : Setup) (settings : Settings) (w : World) (state : SiState) (entries : List Entry)
    (n : ℕ) (node : Node) (b : Before R layout setup settings w state entries n node) where
  -- the last node that is left has none
  pub next_none : (c : Claimed) (x : ℕ) → RecoveryIs (Recovering (record c { left = x ∷ [] })) (w.recoveries n) → w.active x ≡ None → NoneOf w.active c
  next_none c x k none d given =
      let r : Reached setup w state entries = reached b.opening b.reach in
      let know : RecoveryOk (base w) r.ghost.phases (protocol.Next k.0) =
      recovery_at w r.ledger r.ghost r.inv n (protocol.Next k.0) (record { runs = b.runs; so_far = k.1 }) in
      by r know (x == d) refl
    where
      nothing : ◌≡◌ {A = Option ℕ} None (Some d) → ⊥
      nothing e = cc

      by : (r : Reached setup w state entries) → RecoveryOk (base w) r.ghost.phases (protocol.Next k.0) → (y : Bool) → (x == d) ≡ y → w.active d ≡ None
      by r know true e = subst (λ j. w.active j ≡ None) (eqb-true x d e) none
      by r know false e =
          duty_none w r.ledger r.ghost r.inv k.0 None know d (k.2.all d ∙ given) (k.2.left d ∙ ap (λ y. y || false) e) nothing

  -- the transaction in hand is the last one
  pub closed_none : (c : Claimed) (o : Lost) → RecoveryIs (EndingLost (record c { left = [] }) o) (w.recoveries n) → NoneOf (put o.node None w.active) c
  closed_none c o k d given =
      let r : Reached setup w state entries = reached b.opening b.reach in
      let know : RecoveryOk (base w) r.ghost.phases (protocol.Closed k.0 (orphan_of o)) =
      recovery_at w r.ledger r.ghost r.inv n (protocol.Closed k.0 (orphan_of o)) (record { runs = b.runs; so_far = k.1 }) in
      put_cases (λ y. y ≡ None) o.node d None w.active (λ e. refl)
      (λ ne. duty_none w r.ledger r.ghost r.inv k.0 (Some o.node) know.0 d (k.2.all d ∙ given) (k.2.left d) (λ e. ne (same_Some o.node d e)))

  -- it is active at its manager till then
  pub closed_active : (c : Claimed) (o : Lost) → RecoveryIs (EndingLost c o) (w.recoveries n) → (x : Active) × (w.active o.node ≡ Some x) × (x.tid ≡ o.tid)
  closed_active c o k =
      let r : Reached setup w state entries = reached b.opening b.reach in
      let know : RecoveryOk (base w) r.ghost.phases (protocol.Closed k.0 (orphan_of o)) =
      recovery_at w r.ledger r.ghost r.inv n (protocol.Closed k.0 (orphan_of o)) (record { runs = b.runs; so_far = k.1 }) in
      let active : ActiveOk o.node (Ending o.tid know.1.0) (w.active o.node) = active_part w r.ledger r.ghost r.inv o.node (Ending o.tid know.1.0) know.1.1 in
      (record { tid = o.tid; node = o.node; snapshot = active.0 }, active.1, refl)
