-- A statement stands behind those of the last session.
use Rattle.std.proofs.Common.{◌≡◌, ℕ, zero, suc, ◌+◌, false, List, [], ◌∷◌, ◌++◌, Option, Some, Result, Ok, Err, length, slice_index_or, slice_set, refl, ap, arith}
use Rattle.std.specs.Prelude.{OnOk}
use Rattle.tl_isolation.specs.declared.bound.Bound.{Bound}
use Rattle.tl_isolation.specs.declared.script.Session.{Session}
use Rattle.tl_script.specs.declared.fault.LineFault.{LineFault}
use Rattle.tl_script.specs.declared.fault.LineFault.TheVariants as line_fault
use Rattle.tl_script.specs.declared.fault.ScriptKind.{ScriptKind}
use Rattle.tl_script.specs.declared.statement.Statement.{Statement}
use Rattle.tl_script.specs.Build.{bound_of}
use Rattle.tl_script.specs.Parts.{Parts, is_none, placed, said_last}
use Rattle.tl_script.specs.Script.{Gets}

abbrev pub saying : Bound → Session → Session
saying b s = record s { statements = s.statements ++ b ∷ [] }

said_at : (b : Bound) (sessions : List Session) (n : ℕ) (s : Session) → s ≡ slice_index_or sessions n s → n + 1 ≡ length sessions
    → slice_set sessions n (saying b s) ≡ said_last b sessions
said_at b [] n s e k = absurd (omega arith)
said_at b (t ∷ []) zero s e k = rw e refl
said_at b (t ∷ []) (suc n) s e k = absurd (omega arith)
said_at b (t ∷ u ∷ sessions) zero s e k = absurd (omega arith)
said_at b (t ∷ u ∷ sessions) (suc n) s e k = ap (λ (more : List Session). t ∷ more) (said_at b (u ∷ sessions) n s e (omega arith))

some_sessions : (n : ℕ) (sessions : List Session) → n + 1 ≡ length sessions → is_none sessions ≡ false
some_sessions n [] k = absurd (omega arith)
some_sessions n (s ∷ sessions) k = refl

pub placed_last : (st : Statement) (parts : Parts) (n : ℕ) (s new : Session) → s ≡ slice_index_or parts.sessions n s → n + 1 ≡ length parts.sessions → new ≡ saying (bound_of st) s
    → placed st parts ≡ Some (record parts { sessions = slice_set parts.sessions n new })
placed_last st parts n s new e k is =
    rw (is, some_sessions n parts.sessions k, said_at (bound_of st) parts.sessions n s e k) refl

-- what is pushed is placed
pub gets_placed : {P : Type 0} (result : Result (Unit {0}) LineFault) (taken : Option Parts) (new : Parts) → (P → taken ≡ Some new) → OnOk result P
    → ((kind : ScriptKind) → result ≡ Err (line_fault.Fault kind) → ⊥) → Gets result taken new
gets_placed (Ok done) taken new then pushed never = then pushed
gets_placed (Err (line_fault.Fault kind)) taken new then pushed never = absurd (never kind refl)
gets_placed (Err line_fault.NoMemory) taken new then pushed never = tt
