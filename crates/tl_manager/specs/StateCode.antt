-- The code of a manager's state.
use Rattle.std.specs.Prelude.{ℕ, List, refl}
use Rattle.std.specs.Coded.{Coded, code_by, coded×, coded_ℕ, coded_list}
use Rattle.tl_descriptor.specs.Tids.{TidSet}
use Rattle.tl_descriptor.specs.declared.run.Run.{Run}
use Rattle.tl_manager.specs.declared.active.Active.{Active}
use Rattle.tl_manager.specs.Notices.{Notices, notices_code}
use Rattle.tl_manager.specs.State.{ManagerState}

abbrev pub run_code : Coded Run
run_code = code_by (ℕ × ℕ) (coded× coded_ℕ coded_ℕ) (λ r. (r.low, r.high)) (λ p. record { low = p.0; high = p.1 }) (λ _. refl)

abbrev pub set_code : Coded TidSet
set_code = code_by (ℕ × List Run) (coded× coded_ℕ (coded_list run_code)) (λ s. (s.base, s.runs)) (λ p. record { base = p.0; runs = p.1 }) (λ _. refl)

abbrev pub active_code : Coded Active
active_code =
    code_by (ℕ × (ℕ × TidSet)) (coded× coded_ℕ (coded× coded_ℕ set_code)) (λ a. (a.tid, (a.node, a.snapshot)))
    (λ p. record { tid = p.0; node = p.1.0; snapshot = p.1.1 }) (λ _. refl)

-- a state is stored as its parts
abbrev pub state_code : Coded ManagerState
state_code =
    code_by (TidSet × (List Run × (List Active × Notices))) (coded× set_code (coded× (coded_list run_code) (coded× (coded_list active_code) notices_code)))
    (λ s. (s.copy, (s.ranges, (s.active, s.notices)))) (λ p. record { copy = p.0; ranges = p.1.0; active = p.1.1.0; notices = p.1.1.1 }) (λ _. refl)
