-- Whatever is reached, the entries told are a history and the invariant holds.
use Rattle.std.proofs.Common.{◌≡◌, ℕ, Bool, true, false, List, [], ◌∷◌, ◌++◌, refl, sym, ap, ◌∙◌, subst, arith}
use Rattle.std.specs.Prelude.{◌==◌, ◌||◌, if◌then◌else◌}
use Rattle.std.specs.List.{AllByRecursion, list_any}
use Rattle.std.proofs.lemmas.Bool.Decides.{nat_tests}
use Rattle.tl_schema.specs.declared.catalog.Catalog.{Catalog}
use Rattle.tl_schema.specs.declared.catalog.Setup.{Setup}
use Rattle.tl_isolation.specs.declared.entry.Entry.{Entry}
use Rattle.tl_isolation.specs.declared.state.SiState.{SiState}
use Rattle.tl_isolation.specs.Tables.{OpensFitting, opening_writes}
use Rattle.tl_isolation.specs.State.{opening_state}
use Rattle.tl_isolation.specs.Step.{after}
use Rattle.tl_isolation.specs.History.{IsHistoryFrom, state_from}
use Rattle.tl_protocol.specs.World.{World}
use Rattle.tl_protocol.specs.Told.{told}
use Rattle.tl_protocol.specs.Run.{Layout, Reach, Start, Step}
use Rattle.tl_protocol.specs.Stands.{finishes}
use Rattle.tl_protocol.proofs.Ledger.{Ledger, opening_ledger}
use Rattle.tl_protocol.proofs.Shown.{Proper, Shows, Tells}
use Rattle.tl_protocol.proofs.Proper.{SuitsEntry, opening_proper, proper_after, told_suits}
use Rattle.tl_protocol.proofs.Showing.{opening_shown}
use Rattle.tl_protocol.proofs.Finished.{is_done}
use Rattle.tl_protocol.proofs.Inv.{Ghost, Inv}
use Rattle.tl_protocol.proofs.Opening.{opening_ghost, opening_inv}
use Rattle.tl_protocol.proofs.Moves.{move_kept}
use Rattle.tl_protocol.proofs.Named.{AreNamed, next_named}

pub state_append : (catalog : Catalog) (s : SiState) (es ds : List Entry) → state_from catalog s (es ++ ds) ≡ state_from catalog (state_from catalog s es) ds
state_append catalog s [] ds = refl
state_append catalog s (e ∷ es) ds = state_append catalog (after catalog s e) es ds

history_append : (catalog : Catalog) (s : SiState) (es ds : List Entry) → IsHistoryFrom catalog s es → IsHistoryFrom catalog (state_from catalog s es) ds
    → IsHistoryFrom catalog s (es ++ ds)
history_append catalog s [] ds h k = k
history_append catalog s (e ∷ es) ds h k = (h.0, history_append catalog (after catalog s e) es ds h.1 k)

any_append : (t : ℕ) (es ds : List Entry) → list_any (finishes t) (es ++ ds) ≡ (list_any (finishes t) es || list_any (finishes t) ds)
any_append t [] ds = refl
any_append t (e ∷ es) ds = on (finishes t e) (list_any (finishes t) es) (list_any (finishes t) ds) (list_any (finishes t) (es ++ ds)) (any_append t es ds)
  where
    on : (x y z u : Bool) → u ≡ (y || z) → (x || u) ≡ ((x || y) || z)
    on x y z u e = grind arith

-- what stands beside a state that is reached
pub record Reached (setup : Setup) (w : World) (s : SiState) (entries : List Entry) : Type 0 where
  pub state : s ≡ state_from setup.catalog (opening_state setup) entries
  pub history : IsHistoryFrom setup.catalog (opening_state setup) entries
  pub catalog : w.catalog ≡ setup.catalog
  pub ledger : Ledger
  pub ghost : Ghost
  pub shows : Shows s ledger
  pub proper : Proper setup.catalog s
  pub inv : Inv w ledger ghost
  pub named : AreNamed setup.catalog w.logs
  pub ended : (t : ℕ) → is_done t ghost.finished ≡ (t == 0 || list_any (finishes t) entries)

opening_ended : (t : ℕ) → (if 0 == t then true else false) ≡ (t == 0 || false)
opening_ended t = grind (arith, nat_tests)

more_ended : (t : ℕ) (es ds : List Entry) (b c : Bool) → b ≡ (t == 0 || list_any (finishes t) es) → c ≡ (list_any (finishes t) ds || b)
    → c ≡ (t == 0 || list_any (finishes t) (es ++ ds))
more_ended t es ds b c e f = on (t == 0) (list_any (finishes t) es) (list_any (finishes t) ds) (list_any (finishes t) (es ++ ds)) b c e f (any_append t es ds)
  where
    on : (z x y u b c : Bool) → b ≡ (z || x) → c ≡ (y || b) → u ≡ (x || y) → c ≡ (z || u)
    on z x y u b c e f g = grind arith

pub reached : {layout : Layout} {setup : Setup} {w : World} {s : SiState} {entries : List Entry} → OpensFitting setup → Reach layout setup w s entries
    → Reached setup w s entries
unfolding opening_ghost
reached {layout = layout} {setup = setup} fits Start = record {
  state = refl;
  history = tt;
  catalog = refl;
  ledger = opening_ledger setup;
  ghost = opening_ghost (opening_writes setup.catalog setup.rows);
  shows = opening_shown setup;
  proper = opening_proper setup fits;
  inv = opening_inv layout setup;
  named = λ tid log e. absurd cc;
  ended = λ t. opening_ended t;
}
reached {setup = setup} fits (Step {w = w} {state = s} {entries = es} r m) =
    let p = reached fits r in
    let k = move_kept w p.ledger p.ghost p.inv m in
    let ds = told s.commits w m in
    let t : Tells setup.catalog s ds k.ledger = subst (λ c. Tells c s ds k.ledger) p.catalog (k.tells s p.shows (subst (λ c. Proper c s) (sym p.catalog) p.proper)) in
    record {
      state = ap (λ x. state_from setup.catalog x ds) p.state ∙ sym (state_append setup.catalog (opening_state setup) es ds);
      history = history_append setup.catalog (opening_state setup) es ds p.history (subst (λ x. IsHistoryFrom setup.catalog x ds) p.state t.allowed);
      catalog = k.catalog ∙ p.catalog;
      ledger = k.ledger;
      ghost = k.ghost;
      shows = t.shows;
      proper = proper_after setup.catalog s ds (subst (λ c. AllByRecursion (SuitsEntry c) ds) p.catalog (told_suits s.commits w m)) p.proper;
      inv = k.inv;
      named = next_named setup.catalog w s p.ledger p.ghost p.shows p.proper p.inv p.named m;
      ended = λ u. more_ended u es ds (is_done u p.ghost.finished) (is_done u k.ghost.finished) (p.ended u) (k.ended s u);
    }
