-- What the managers' lemmas want, from what holds of every reached state and of a journal whose places serve.
use Rattle.std.proofs.Common.{◌≡◌, ◌⊎◌, inl, inr, ℕ, ◌+◌, ◌<◌, ◌≤◌, Bool, true, false, cond, List, [], ◌∷◌, ◌++◌, Option, Some, None, refl, sym, ap, ◌∙◌, subst, eq-eqb, arith}
use Rattle.std.specs.Prelude.{◌==◌, ◌-◌, ◌&&◌, ◌||◌, nat_le, not}
use Rattle.std.proofs.lemmas.Bool.Decides.{nat_tests}
use Rattle.std.proofs.lemmas.Option.{same_Some}
use Rattle.tl_base.specs.NodeSet.{has_node}
use Rattle.tl_base.specs.declared.node.NodeSet.{NodeSet}
use Rattle.tl_base.specs.declared.place.PlaceId.{PlaceId}
use Rattle.tl_base.specs.declared.place.PlaceId.TheVariants as place
use Rattle.tl_base.specs.declared.place.Settings.{Settings}
use Rattle.tl_base.specs.declared.store.StoreReply.{StoreReply}
use Rattle.tl_descriptor.specs.Tids.{IsWithin, TidSet, begins}
use Rattle.tl_descriptor.proofs.Order.{begins_from_within}
use Rattle.tl_manager.specs.declared.active.Active.{Active}
use Rattle.tl_manager.specs.declared.request.ManagerRequest.TheVariants as asked
use Rattle.tl_manager.specs.declared.request.Reply.TheVariants as reply
use Rattle.tl_manager.specs.declared.request.Request.{Request}
use Rattle.tl_manager.specs.declared.request.Request.TheVariants as request
use Rattle.tl_manager.specs.Serves.{notice_after}
use Rattle.tl_protocol.specs.World.{Number, Begun, Carried, Phase, Idle, Noted, Drawn, Live, Trying, Undoing, Closing, Ending, Commit, Undo, World, runs}
use Rattle.tl_protocol.specs.Next.{is_drawn, owed}
use Rattle.tl_protocol.specs.Stands.{Notice, posted}
use Rattle.tl_protocol.proofs.Finished.{Finished, Snap}
use Rattle.tl_protocol.proofs.Frames.{duty_of}
use Rattle.tl_protocol.proofs.Inv.{ActiveOk, Ghost, Inv, NodeOk, Shared, active_txn, base, nodes_of, shared, vanished_of}
use Rattle.tl_protocol.proofs.Ledger.{Ledger, Seat}
use Rattle.tl_protocol.proofs.Sets.{newer_above}
use Rattle.tl_journal.specs.declared.event.Event.{Event}
use Rattle.tl_journal.specs.Bytes.{home_of}
use Rattle.tl_journal.specs.Journal.{manager_call, manager_log}
use Rattle.tl_journal.specs.Served.{AreNodes, Parts, parts_of}
use Rattle.tl_journal.proofs.Managers.{IsSmall, ManagersAre, NoticeIs, agrees_itself, managers_agree}
use Rattle.tl_journal.proofs.ManagerServes.{AreBegun, AreChained, MayAsk}

-- ---- of every reached state

-- of two sets of those that finished first one begins the other
pub snaps_chain : (a b : TidSet) (ds : List Finished) → Snap a ds → Snap b ds → (begins a b ≡ true) ⊎ (begins b a ≡ true)
snaps_chain a b ds p q = by (begins a b) refl (newer_above a b ds p q).1
  where
    by : (c : Bool) → begins a b ≡ c → IsWithin b (cond c b a) → (c ≡ true) ⊎ (begins b a ≡ true)
    by true e h = inl refl
    by false e h = inr (begins_from_within b a q.known.canonical p.known.canonical h)

none_begun : (i : ℕ) (o : Option Active) (x : Active) (numbers : ℕ → Number) → o ≡ None → o ≡ Some x → numbers x.tid ≡ Begun i
none_begun i o x numbers e f = cc

same_begun : (i : ℕ) (y x : Active) (o : Option Active) (numbers : ℕ → Number) → o ≡ Some y → o ≡ Some x → numbers y.tid ≡ Begun i → numbers x.tid ≡ Begun i
same_begun i y x o numbers e f h = subst (λ (z : Active). numbers z.tid ≡ Begun i) (same_Some y x (sym e ∙ f)) h

active_begun : (s : Shared) (i : ℕ) (phase : Phase) (seat : Seat) (o : Option Active) (x : Active) → NodeOk s i phase seat → ActiveOk i phase o → o ≡ Some x → s.numbers x.tid ≡ Begun i
active_begun s i Idle seat o x v a e = none_begun i o x s.numbers a e
active_begun s i (Noted seen) seat o x v a e = none_begun i o x s.numbers a e
active_begun s i (Drawn seen low) seat o x v a e = none_begun i o x s.numbers a e
active_begun s i (Live t facts) seat o x v a e = same_begun i (active_txn i t) x o s.numbers a e v.txn.begun
active_begun s i (Trying y l) seat o x v a e = same_begun i (active_txn i y.txn) x o s.numbers a e v.txn.begun
active_begun s i (Undoing y rival l) seat o x v a e = same_begun i (active_txn i y.txn) x o s.numbers a e v.txn.begun
active_begun s i (Closing t Commit c) seat o x v a e = same_begun i (active_txn i t) x o s.numbers a e v.txn.begun
active_begun s i (Closing t (Undo rival) c) seat o x v a e = same_begun i (active_txn i t) x o s.numbers a e v.txn.begun
active_begun s i (Ending tid told) seat o x v a e = same_begun i (record { tid = tid; node = i; snapshot = a.0 }) x o s.numbers a.1 e v.begun

module _ (w : World) (ledger : Ledger) (ghost : Ghost) (v : Inv w ledger ghost) where
  pub are_chained : AreChained (λ s. Snap s ghost.finished) (parts_of w)
  are_chained = record {
    canonical = λ s k. k.known.canonical;
    chain = λ s t. snaps_chain s t ghost.finished;
    copies = v.core.managers.copy_known;
    snapshots = v.core.managers.snaps;
  }

  pub are_begun : AreBegun (parts_of w)
  are_begun d x e = active_begun (shared (base w) ghost) d (ghost.phases d) (ledger.seats d) (w.active d) x (v.core.nodes d) (v.core.active d) e

  -- of a running node there is no notice
  pub none_posted : (n : ℕ) → runs w n ≡ true → w.notices n ≡ None
  none_posted n run = by (w.notices n) refl
    where
      not_both : (z b : Bool) → (not z && not b) ≡ true → b ≡ true → ⊥
      not_both true true r g = cc
      not_both true false r g = cc
      not_both false true r g = cc
      not_both false false r g = cc

      its_own : (nodes : ℕ → Bool) → (n == n || nodes n) ≡ true
      its_own nodes = ap (λ b. b || nodes n) (eq-eqb n n refl)

      by : (o : Option (ℕ → Bool)) → w.notices n ≡ o → o ≡ None
      by None e = refl
      by (Some nodes) e = absurd (not_both (n == 0) (w.gone n) run (v.link.one n (Notice n) (ap (λ o. posted o n n) e ∙ its_own nodes)).1)

  -- what a running node is to recover has vanished, and so it is a node of the run
  pub owed_small : (n : ℕ) (also : NodeSet) → runs w n ≡ true → ((d : ℕ) → w.gone d ≡ true → d ≤ 16) → AreNodes (owed (w.recoveries n)) also → IsSmall also
  owed_small n also run few are d above = by (has_node also d) refl
    where
      named : (d : ℕ) (b : Bool) → 16 < d → b ≡ true → (nat_le 1 d && b) ≡ true
      named d b above e = grind (arith, nat_tests)

      by : (b : Bool) → has_node also d ≡ b → b ≡ false
      by true e =
          let gone = duty_of (base w) (nodes_of w) (vanished_of ledger) ghost.phases ghost.menders v.link n d run (are d ∙ named d (has_node also d) above e) in
          let least : d ≤ 16 = few d gone.1 in
          absurd (omega arith)
      by false e = refl

-- the 16 numbers above this one, which the node has drawn
pub may_bring : (known : TidSet → Type 0) (settings : Settings) (p : Parts) (n m low : ℕ) → ((t : ℕ) → is_drawn low t ≡ true → p.numbers t ≡ Carried n)
    → MayAsk known settings p n m (asked.Range (low + 1) (low + 16))
may_bring known settings p n m low drawn =
    let back : low + 1 - 1 ≡ low = omega arith in
    (omega arith, omega arith, λ t e. drawn t (subst (λ l. is_drawn l t ≡ true) back e))

-- ---- of notices

beyond : (d : ℕ) (b : Bool) → b ≡ false → (nat_le 1 d && b) ≡ false
beyond d b e = grind (arith, nat_tests)

-- a notice names no node above 16
pub notice_small : (settings : Settings) (past : List Event) (p : Parts) (n : ℕ) (nodes : ℕ → Bool) → home_of settings n < settings.managers → ManagersAre settings past p
    → p.notices n ≡ Some nodes → (d : ℕ) → 16 < d → nodes d ≡ false
notice_small settings past p n nodes l v e d above =
    by (notice_after (manager_log (home_of settings n) past) n) (subst (λ o. NoticeIs o (notice_after (manager_log (home_of settings n) past) n)) e ((v.each (home_of settings n) l).notices n refl))
  where
    by : (found : Option NodeSet) → NoticeIs (Some nodes) found → nodes d ≡ false
    by None h = absurd h
    by (Some set) h = h.0 d ∙ beyond d (has_node set d) (h.1 d above)

within_one : (d : ℕ) (b : Bool) → 16 < d → false ≡ (nat_le 1 d && b) → b ≡ false
within_one d b above e = grind (arith, nat_tests)

-- nor does the set that is given at a Claim
pub given_set_small : (nodes : ℕ → Bool) (set : NodeSet) → AreNodes nodes set → ((d : ℕ) → 16 < d → nodes d ≡ false) → (d : ℕ) → 16 < d → has_node set d ≡ false
given_set_small nodes set are small d above = within_one d (has_node set d) above (sym (small d above) ∙ are d)

-- ---- of replies that no place of a run gives

no_call : (m : ℕ) (at_place : PlaceId) (r : Request) (told : StoreReply) → manager_call m at_place r (reply.Store told) ≡ []
no_call m (place.Shard s) r told = refl
no_call m (place.Manager k) (request.Store r) told = refl
no_call m (place.Manager k) (request.Manager r) told = refl

-- a store's reply stands in no manager's log
pub managers_stay_strange : (settings : Settings) (past : List Event) (e : Event) (p : Parts) (told : StoreReply) → e.reply ≡ reply.Store told
    → ManagersAre settings past p → ManagersAre settings (past ++ e ∷ []) p
managers_stay_strange settings past e p told so v =
    managers_agree settings past e p p (λ m. ap (manager_call m e.place e.request) so ∙ no_call m e.place e.request told) (agrees_itself settings p) v
