-- The invariant holds at the opening.
use Rattle.std.proofs.Common.{◌≡◌, ℕ, ◌<◌, Bool, true, false, List, [], ◌∷◌, append-nil, Option, Some, None, refl, sym, ap, ◌∙◌, inl, arith}
use Rattle.std.specs.Prelude.{◌==◌, ◌&&◌, if◌then◌else◌}
use Rattle.std.proofs.lemmas.Bool.{false≢true}
use Rattle.std.proofs.lemmas.Bool.Decides.{nat_tests}
use Rattle.tl_values.specs.declared.value.Value.{Value}
use Rattle.tl_schema.specs.declared.catalog.Setup.{Setup}
use Rattle.tl_manager.specs.State.{opening_copy}
use Rattle.tl_write.specs.declared.write.Write.{Write}
use Rattle.tl_isolation.specs.Tables.{opening_writes}
use Rattle.tl_protocol.specs.Store.{written}
use Rattle.tl_protocol.specs.World.{Number, Undrawn, Begun, Opening, Idle, NoDuty}
use Rattle.tl_protocol.specs.Run.{Layout, opening_versions, opening_world}
use Rattle.tl_protocol.specs.Next.{owed}
use Rattle.tl_protocol.specs.Stands.{Mender, Notice, Duty, posted}
use Rattle.tl_protocol.proofs.Ledger.{opening_ledger}
use Rattle.tl_protocol.proofs.Sets.{opening_known, within_refl}
use Rattle.tl_protocol.proofs.History.{lay}
use Rattle.tl_protocol.proofs.Inv.{Ghost, Inv, Nodes, is_begun, is_running, is_taken, mends_it, nodes_of}

opening_lay : (o : Option (Option (List Value))) → opening_versions o ≡ lay o 0 []
opening_lay None = refl
opening_lay (Some row) = refl

numbered : ℕ → Number
numbered t = if t == 0 then Opening else Undrawn

above_zero : (t : ℕ) → 0 < t → numbered t ≡ Undrawn
unfolding numbered
above_zero t l = grind (arith, nat_tests)

taken : (t : ℕ) → (if 0 == t then true else false) ≡ true → is_taken (numbered t) ≡ true
unfolding numbered
taken t e = on (t == 0) (turned t e)
  where
    turned : (t : ℕ) → (if 0 == t then true else false) ≡ true → (t == 0) ≡ true
    turned t e = grind (arith, nat_tests)

    on : (b : Bool) → b ≡ true → is_taken (if b then Opening else Undrawn) ≡ true
    on b e = rw e refl

not_begun : (t : ℕ) → false ≡ is_begun (numbered t)
unfolding numbered
not_begun t = on (t == 0)
  where
    on : (b : Bool) → false ≡ is_begun (if b then Opening else Undrawn)
    on true = refl
    on false = refl

opening_begun : (t i : ℕ) → numbered t ≡ Begun i → ⊥
unfolding numbered
opening_begun t i e = on (t == 0) e
  where
    on : (b : Bool) → (if b then Opening else Undrawn) ≡ Begun i → ⊥
    on true e = cc
    on false e = cc

unfoldable pub opening_ghost : List Write → Ghost
opening_ghost writes =
    record {
      fronts = λ k. None;
      finished = record { tid = 0; writes = Some writes } ∷ [];
      cuts = λ k. opening_copy;
      phases = λ n. Idle;
      menders = λ n. None;
    }

nobody : (ns : Nodes) (d : ℕ) (m : Mender) → ((n : ℕ) → ns.notices n ≡ None) → ((n : ℕ) → ns.recoveries n ≡ NoDuty) → mends_it ns d m ≡ true → ⊥
nobody ns d (Notice n) e f h = false≢true (sym (ap (λ o. posted o n d) (e n)) ∙ h)
nobody ns d (Duty r) e f h = false≢true (sym (never (is_running ns r)) ∙ sym (ap (λ x. is_running ns r && owed x d) (f r)) ∙ h)
  where
    never : (b : Bool) → b && false ≡ false
    never true = refl
    never false = refl

pub opening_inv : (layout : Layout) (setup : Setup)
    → Inv (opening_world layout setup) (opening_ledger setup) (opening_ghost (opening_writes setup.catalog setup.rows))
unfolding opening_ghost numbered
opening_inv layout setup =
    let writes = opening_writes setup.catalog setup.rows in
    record {
      core = record {
        cells = λ k. record {
          gone = [];
          whole = append-nil (opening_versions (written k writes)) ∙ opening_lay (written k writes);
          covered = inl refl;
        };
        nodes = λ i. record { free = record { not_held = refl; nowhere = λ k f e m. cc }; answered = λ e. refl };
        active = λ i. refl;
        done = opening_known writes;
        managers = record {
          at_home = layout.at_home;
          copy_known = λ m. record { m = 1; known = opening_known writes };
          snaps = λ d x e. cc;
          floor_known = λ i j. record { m = 1; known = opening_known writes };
          floor_copy = λ i j. within_refl opening_copy;
          floor_snap = λ i d x e. cc;
          cut_copy = λ k j l. within_refl opening_copy;
          cut_snap = λ k d x e. cc;
        };
        numbers = record { opening = refl; undrawn = λ t l. above_zero t l; small = omega arith; begun_at = λ t i e. absurd (opening_begun t i e) };
        commits = refl;
        distinct = (refl, tt);
        opens = refl;
        taken = λ t e. taken t e;
        begun = λ t. not_begun t;
        logs = λ t e. refl;
      };
      link = record {
        seats = λ i. refl;
        numbered = λ i e. absurd (false≢true e);
        runs = λ i e. refl;
        recoveries = λ r e. tt;
        one = λ d m e. absurd (nobody (nodes_of (opening_world layout setup)) d m (λ n. refl) (λ n. refl) e);
        mended = λ d e. absurd (false≢true e);
      };
    }
