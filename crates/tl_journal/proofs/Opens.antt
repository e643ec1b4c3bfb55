-- A run begins where the protocol does.
use Rattle.std.proofs.Common.{◌≡◌, ℕ, zero, suc, ◌+◌, ◌≤◌, Bool, true, false, cond, List, [], ◌∷◌, Some, refl, sym, ap, ◌∙◌, arith}
use Rattle.std.specs.Prelude.{◌==◌, ◌-◌, ◌%◌, find, replicate, slice_get}
use Rattle.std.proofs.lemmas.Bool.{eqb-true}
use Rattle.std.proofs.lemmas.List.{length-replicate}
use Rattle.std.proofs.lemmas.Nat.{mod_below}
use Rattle.tl_base.specs.declared.place.Settings.{Settings}
use Rattle.tl_manager.specs.State.{opening_copy}
use Rattle.tl_isolation.specs.declared.bound.Bound.{Bound}
use Rattle.tl_isolation.specs.declared.script.Script.{Script}
use Rattle.tl_isolation.specs.declared.script.Session.{Session}
use Rattle.tl_isolation.specs.Script.{setup_of}
use Rattle.tl_protocol.specs.Run.{Layout, Start, opening_world}
use Rattle.tl_journal.specs.Binding.{IsBound}
use Rattle.tl_journal.specs.Bytes.{commits_key, home_of}
use Rattle.tl_journal.specs.Node.{Outside}
use Rattle.tl_journal.proofs.Managers.{opening_managers}
use Rattle.tl_journal.proofs.Meets.{PresentIs, StatementIs}
use Rattle.tl_journal.proofs.Sizes.{opening_fits}
use Rattle.tl_journal.proofs.StoreOpening.{opening_stamp, opening_store}
use Rattle.tl_journal.proofs.Stood.{Stood}

-- the number of the last manager, where there is one
abbrev pub last_manager : Settings → ℕ
last_manager settings = settings.managers - 1

-- the node's manager; home_of of the settings, where they have a manager
abbrev pub home_in : Settings → ℕ → ℕ
home_in settings n = (n - 1) % (last_manager settings + 1)

-- each node's manager is one of them
pub home_below : (settings : Settings) (n : ℕ) → home_in settings n ≤ last_manager settings
home_below settings n =
    let below = mod_below (n - 1) (last_manager settings + 1) (omega arith) in
    omega arith

-- the layout of a run: each node at home by its number, the opening's stamps
abbrev pub layout_of : Script → Settings → Layout
layout_of script settings =
    record {
      home = home_in settings;
      top = last_manager settings;
      at_home = home_below settings;
      stamps = opening_stamp settings (setup_of script settings);
      commits_stamp = opening_stamp settings (setup_of script settings) commits_key;
    }

-- with a manager at least, the home of a node is that by the settings
pub home_same : (settings : Settings) (n : ℕ) → 1 ≤ settings.managers → home_in settings n ≡ home_of settings n
home_same settings n some = ap (λ (m : ℕ). (n - 1) % m) (let m : settings.managers - 1 + 1 ≡ settings.managers = omega arith in m)

-- the session that is found for a number is that of the number
pub found_number : (sessions : List Session) (n : ℕ) (session : Session) → find (λ (s : Session). s.node == n) sessions ≡ Some session → session.node ≡ n
found_number [] n session h = cc
found_number (s ∷ sessions) n session h = by (s.node == n) refl h (found_number sessions n session)
  where
    by : (b : Bool) → s.node == n ≡ b → cond b (Some s) (find (λ (s : Session). s.node == n) sessions) ≡ Some session
        → (find (λ (s : Session). s.node == n) sessions ≡ Some session → session.node ≡ n) → session.node ≡ n
    by true e h more =
        let same : s ≡ session = cc in
        ap (λ (x : Session). x.node) (sym same) ∙ eqb-true s.node n e
    by false e h more = more h

nothing_asked : (todo : List Bound) → PresentIs (StatementIs Outside) todo
nothing_asked [] = tt
nothing_asked (statement ∷ later) = tt

-- of equal elements each is that one
each_replicated : {A : Type 0} (n : ℕ) (x : A) (j : ℕ) (y : A) → slice_get (replicate n x) j ≡ Some y → x ≡ y
each_replicated zero x j y h = cc
each_replicated (suc n) x zero y h = cc
each_replicated (suc n) x (suc j) y h = each_replicated n x j y h

pub opens : (script : Script) (settings : Settings) → IsBound script settings → 1 ≤ settings.managers → Stood (layout_of script settings) script settings []
opens script settings bound some = record {
  world = opening_world (layout_of script settings) (setup_of script settings);
  reach = Start;
  store = opening_store settings (setup_of script settings) (layout_of script settings) (λ k. refl) refl bound.writes;
  managers = opening_managers settings (layout_of script settings) (setup_of script settings);
  laid_out = record {
    some = some;
    home = λ n. home_same settings n some;
    top = omega arith;
  };
  catalog = refl;
  gone = λ n. refl;
  few = λ n h. cc;
  nodes = λ n session h runs. record {
    is_so = record {
      number = found_number script.sessions n session h;
      phase = refl;
      recovery = refl;
      statement = nothing_asked session.statements;
      managers = length-replicate settings.managers opening_copy;
      floors = λ j floor e. each_replicated settings.managers opening_copy j floor e;
    };
    fits = opening_fits script settings 0 n session bound h;
    shards = tt;
  };
}
